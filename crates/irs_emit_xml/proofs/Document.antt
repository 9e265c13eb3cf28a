-- The document of a schedule.
use Rattle.std.proofs.Common.{◌≡◌, ℕ, List, ◌++◌, map, codes, sym, ap, ◌∙◌, subst, append_assoc}
use Rattle.irs_schedule.specs.Parts.{Part, IsWithin}
use Rattle.irs_emit.specs.Emitted.{emit_value}
use Rattle.irs_xml.specs.Document.{XmlReads}
use Rattle.irs_emit_xml.specs.Flows.{flows_text, stream_node, stream_nodes}
use Rattle.irs_emit_xml.specs.Private.Flows.{lines}
use Rattle.irs_emit_xml.specs.Trees.{ones, close_text, declared_text, root_open_text, written_text, written_value}
use Rattle.irs_emit_xml.proofs.FlowRules.{root_is}
use Rattle.irs_emit_xml.proofs.FlowValues.{value_is}
use Rattle.irs_emit.proofs.Pieces.{twice}
use Rattle.irs_emit_xml.proofs.Lines.{lines_listed}
use Rattle.irs_emit_xml.proofs.ReadBack.{written_reads}

-- a root's start tag, the streams, and its end tag are the document
pub text_is : (s : List Part) (a b c : List ℕ) → a ≡ declared_text ++ root_open_text (codes "swap")
    → b ≡ a ++ lines 1 (map stream_node s)
    → c ≡ b ++ close_text 0 (codes "swap") → c ≡ flows_text s
unfolding flows_text written_text
text_is s a b c e f g =
    twice a b c (lines 1 (map stream_node s)) (close_text 0 (codes "swap")) f g
    ∙ ap (λ t. t ++ (lines 1 (map stream_node s) ++ close_text 0 (codes "swap"))) e
    ∙ append_assoc declared_text (root_open_text (codes "swap")) (lines 1 (map stream_node s)
    ++ close_text 0 (codes "swap"))
    ∙ ap (λ t. declared_text ++ (root_open_text (codes "swap") ++ (t ++ close_text 0 (codes "swap"))))
    (sym (lines_listed 1 (map stream_node s)))

-- the document means the emitted value, as XML carries it
pub text_reads : (s : List Part) (bytes : List ℕ) → IsWithin s → bytes ≡ flows_text s
    → XmlReads bytes (ones (emit_value s))
unfolding flows_text
text_reads s bytes h e =
    let value = written_value (codes "swap") (stream_nodes s) in
    let reads : XmlReads bytes value =
    subst (λ b. XmlReads b value) (sym e) (written_reads (codes "swap") (stream_nodes s) (root_is s h)) in
    subst (XmlReads bytes) (value_is s h) reads
