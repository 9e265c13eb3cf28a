-- Private: no public contract rests on this file.
-- The cash flows of a schedule as elements of FpML, in the order that FpML's schema has for them. There is an element
-- for
-- each field that is known, and no other.
use Rattle.std.specs.Prelude.{ℕ, List}
use Rattle.std.specs.List.{flat_map}
use Rattle.irs_emit_xml.specs.Trees.{Node, node_text}

-- the lines of elements, with this many levels round them
abbrev pub lines : ℕ → List Node → List ℕ
lines k ns = flat_map (node_text k) ns
