-- The kind of leaf that the table of elements has for an element is one.
use Rattle.std.proofs.Common.{◌≡◌, ℕ, List, Option, Some, ap, ◌∙◌}
use Rattle.std.specs.Prelude.{option_and_then, slice_get}
use Rattle.irs_elements.specs.declared.table.Leaf.{Leaf as LeafKind}
use Rattle.irs_elements.specs.declared.table.Row.{Row}
use Rattle.irs_locate.proofs.OneRow.{one_row}
use Rattle.irs_locate.specs.Ways.{IsLeafKindOf, leaf_in, IsRowOf, table_of}

-- the kind of leaf at a row
abbrev pub leaf_at : List Row → ℕ → Option LeafKind
leaf_at rows r = option_and_then (λ (row : Row). leaf_in row.kind) (slice_get rows r)

-- the kind of an element is the one at its row
pub only_kind : (elem r : ℕ) (kind : LeafKind) → IsRowOf (table_of elem).rows elem r → IsLeafKindOf elem kind
    → leaf_at (table_of elem).rows r ≡ Some kind
only_kind elem r kind is_row k =
    ap (λ (n : ℕ). leaf_at (table_of elem).rows n) (one_row elem r k.number is_row (k.row, (k.at, k.is_row)))
    ∙ ap (λ (o : Option Row). option_and_then (λ (x : Row). leaf_in x.kind) o) k.at ∙ k.leaf
