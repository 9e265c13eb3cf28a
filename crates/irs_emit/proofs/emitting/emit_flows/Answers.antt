use Rattle.irs_emit.proofs.Built.{text_reads}
use Rattle.irs_emit.proofs.CleanParts.{states}
use Rattle.irs_emit.proofs.Pieces.{twice}
use Rattle.irs_emit.proofs.RowTexts.{document_text}
use Rattle.irs_emit.proofs.emitting.emit_flows.Goals as goal
use Rattle.irs_emit.specs.Emitted.{stream_value}
use Rattle.irs_emit.specs.Private.Texts.{listed_text}
use Rattle.std.proofs.Common.{◌≡◌, [], ◌∷◌, ◌++◌, ◌∙◌, ap, codes, false, map}

-- the bytes are the text of the schedule
abbrev text_of : goal.returns-clause-text
text_of c =
    let s = c.args.s.now in
    let a = c.extend_from_slice.new.self.items in
    let start : a ≡ codes "{\"swap\":{\"swapStream\":[" =
    c.in_ok-extend_from_slice.ensures.items
    ∙ ap (λ t. t ++ codes "{\"swap\":{\"swapStream\":[") c.new-out.ensures.items in
    let streams : c.streams-2.new.out.items ≡ a ++ listed_text false (map stream_value s) =
    c.in_ok-streams.ensures ∙ ap (λ ps. a ++ listed_text false (map stream_value ps)) c.streams.ensures.value in
    twice a c.streams-2.new.out.items c.extend_from_slice-2.new.self.items (listed_text false (map stream_value s))
    (93 ∷ 125 ∷ 125 ∷ 10 ∷ []) streams c.in_ok-extend_from_slice-2.ensures.items
    ∙ ap (λ t. t ++ (listed_text false (map stream_value s) ++ (93 ∷ 125 ∷ 125 ∷ 10 ∷ []))) start ∙ document_text s

pub returns-clause-text : goal.returns-clause-text
returns-clause-text c = text_of c

pub returns-clause-reads : goal.returns-clause-reads
returns-clause-reads c =
    text_reads c.args.s.now c.extend_from_slice-2.new.self.items c.streams.ensures.bounds (text_of c)

pub returns-clause-states : goal.returns-clause-states
returns-clause-states c =
    states c.args.s.now c.extend_from_slice-2.new.self.items
    (text_reads c.args.s.now c.extend_from_slice-2.new.self.items c.streams.ensures.bounds (text_of c))
    c.streams.ensures.bounds
