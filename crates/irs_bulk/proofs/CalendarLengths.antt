-- The length of the calendar file.
use Rattle.std.proofs.Common.{◌≡◌, ℕ, zero, suc, ◌+◌, ◌*◌, ◌≤◌, length, length-append, refl, arith}
use Rattle.std.specs.List.{flat_map}
use Rattle.irs_base.specs.Limits.{most_bytes}
use Rattle.irs_bulk.specs.BulkRuns.{calendar_text, head_text, holidays_text, years_from}

length_year : (y : ℕ) → length (holidays_text y) ≡ 22
length_year y = refl

length_years : (y n : ℕ) → length (flat_map holidays_text (years_from y n)) ≡ 22 * n
length_years y zero = refl
length_years y (suc n) =
    omega (
      arith,
      length-append (holidays_text y) (flat_map holidays_text (years_from (y + 1) n)),
      length_year y,
      length_years (y + 1) n,
    )

-- the calendar file is no longer than a file may be
pub calendar_short : length calendar_text ≤ most_bytes
unfolding calendar_text
calendar_short =
    omega (arith, length-append head_text (flat_map holidays_text (years_from 1949 64)), length_years 1949 64)
