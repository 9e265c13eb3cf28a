use Rattle.irs_emit_xml.proofs.emitting.emit_xml.Goals as goal
use Rattle.irs_emit_xml.specs.Flows.{stream_node}
use Rattle.irs_emit_xml.specs.Private.Flows.{lines}
use Rattle.irs_emit_xml.specs.Trees.{declared_text, root_open_text}
use Rattle.irs_emit_xml.proofs.Document.{text_is, text_reads}
use Rattle.irs_emit_xml.proofs.Stated.{states}
use Rattle.std.proofs.Common.{◌++◌, ◌∙◌, ap, codes, map}

-- the bytes are the text of the document
abbrev text_of : goal.returns-clause-text
text_of c =
    text_is c.args.s.now c.begin.new.out.items c.streams-2.new.out.items c.close_tag.new.out.items
    (c.in_ok-begin.ensures ∙ ap (λ t. t ++ (declared_text ++ root_open_text (codes "swap"))) c.new-out.ensures.items)
    (c.in_ok-streams.ensures ∙ ap (λ ps. c.begin.new.out.items ++ lines 1 (map stream_node ps)) c.streams.ensures.value)
    c.in_ok-close_tag.ensures

pub returns-clause-text : goal.returns-clause-text
returns-clause-text c = text_of c

pub returns-clause-reads : goal.returns-clause-reads
returns-clause-reads c = text_reads c.args.s.now c.close_tag.new.out.items c.streams.ensures.bounds (text_of c)

pub returns-clause-states : goal.returns-clause-states
returns-clause-states c =
    states c.args.s.now c.close_tag.new.out.items
    (text_reads c.args.s.now c.close_tag.new.out.items c.streams.ensures.bounds (text_of c))
    c.streams.ensures.bounds
