-- Private: no public contract rests on this file.
-- Days that rise.
use Rattle.std.specs.Prelude.{◌≡◌, ℕ, Bool, List, ℤ, ◌<ℤ◌, slice_get, Some}
use Rattle.std.specs.List.{list_all}
use Rattle.std.specs.Ordering.{int_cmp, is_lt}

-- the day is above each of the days
abbrev pub IsAfter : ℤ → List ℤ → Type 0
IsAfter d days = (i : ℕ) (x : ℤ) → slice_get days i ≡ Some x → x <ℤ d

-- the day is above each of the days, as a test
abbrev pub all_before : ℤ → List ℤ → Bool
all_before d days = list_all (λ x. is_lt (int_cmp x d)) days
