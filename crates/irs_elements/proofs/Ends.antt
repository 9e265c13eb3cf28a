-- The ends of a table, as its rows are looked at one after the other.
use Rattle.irs_elements.specs.{Private.Walk.end_at, declared.table.Row.Row}
use Rattle.std.proofs.Common.{◌≡◌, ℕ, ◌<◌, List, length, Some}
use Rattle.std.specs.Prelude.{slice_get}

-- each of the first n rows is before the end of its parent's members
abbrev pub HoldTo : List Row → List ℕ → ℕ → Type 0
HoldTo rows ends n =
    (c : ℕ) (row : Row) → slice_get rows c ≡ Some row → c < n → c < end_at (length rows) ends row.parent
