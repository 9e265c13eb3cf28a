-- The rows of the table of a stream by the names that lead to them, and what the table says of each. So no row is known
-- by its number here.
use Prim.Native.String.{String}
use Rattle.irs_elements.specs.{Elements.name_at, declared.table.Leaf.Leaf as LeafKind, declared.table.Row.Row}
use Rattle.irs_read.proofs.Clean.{Clean, is_child, leaf_at, most_at, required_at}
use Rattle.irs_read.{proofs.TableLaws.code_names as row_names, specs.declared.table.TheConstants.ROWS}
use Rattle.serde_json.specs.Data.{Data}
use Rattle.std.proofs.Common.{IfSome, slice_get, codes, ap, bytes_eq, if◌then◌else◌, ◌≡◌, ℕ, ◌+◌, nat_lt, Bool, true}
use Rattle.std.proofs.Common.{◌&&◌, ◌==◌, List, [], ◌∷◌, Option}

-- the names on the way to a row, the last one first
abbrev pub Path : Type 0
Path = List String

-- of these rows, numbered from c, the first that is a member with the name in the object at row r
abbrev member_from : ℕ → List Row → List (List ℕ) → ℕ → List ℕ → ℕ
member_from c [] ns r name = c
member_from c (row ∷ rows) [] r name = c
member_from c (row ∷ rows) (n ∷ ns) r name =
    if nat_lt r c && (row.parent == r && bytes_eq n name) then c else member_from (c + 1) rows ns r name

-- the row at the end of a path
unfoldable pub row_of : Path → ℕ
row_of [] = 0
row_of (name ∷ p) = member_from 0 ROWS row_names (row_of p) (codes name)

-- what the table says of the row at the end of a path, below an object: whether it is a member there, whether it must
-- occur, the kind of its leaf if it is one, and its name
unfoldable pub facts : Path → ℕ → Bool × (Bool × (Option LeafKind × List ℕ))
facts p c = (
  is_child ROWS (row_of p) c,
  (required_at (slice_get ROWS c), (leaf_at (slice_get ROWS c), name_at row_names c)),
)

-- these are the facts of the member with this name
abbrev pub RowIs : Path → String → Bool → Option LeafKind → Type 0
RowIs p name must kind = facts p (row_of (name ∷ p)) ≡ (true, (must, (kind, codes name)))

-- the most values of the member at the end of a path
unfoldable pub most_of : Path → ℕ
most_of p = most_at (slice_get ROWS (row_of p))

-- the row is a member's
pub is_member : (p : Path) (name : String) {must : Bool} {kind : Option LeafKind} → RowIs p name must kind
    → is_child ROWS (row_of p) (row_of (name ∷ p)) ≡ true
unfolding facts
is_member p name e = ap (λ t. t.0) e

-- it must occur
pub is_needed : (p : Path) (name : String) {must : Bool} {kind : Option LeafKind} → RowIs p name must kind
    → required_at (slice_get ROWS (row_of (name ∷ p))) ≡ must
unfolding facts
is_needed p name e = ap (λ t. t.1.0) e

-- it has this name
pub is_named : (p : Path) (name : String) {must : Bool} {kind : Option LeafKind} → RowIs p name must kind
    → name_at row_names (row_of (name ∷ p)) ≡ codes name
unfolding facts
is_named p name e = ap (λ t. t.1.1.1) e

-- d breaks no rule at the row at the end of a path
pub record At (p : Path) (d : Data) : Type 0 where
  pub clean : Clean ROWS row_names (row_of p) d

-- d, if present, breaks none
abbrev pub AtMost : Path → Option Data → Type 0
AtMost p o = IfSome o (At p)
