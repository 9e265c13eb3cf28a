-- A period with its dates.
use Rattle.std.proofs.Common.{◌≡◌, ℕ, ◌+◌, ◌-◌, ◌<◌, length, Some, option_map, slice_get, sym, ap, arith}
use Rattle.std.specs.Prelude.{slice_index_or}
use Rattle.std.proofs.lemmas.Option.{slice_get-get_or}
use Rattle.irs_schedule.specs.Parts.{Part}
use Rattle.irs_schedule.specs.RowsOf.{period_at, dated_period, no_period}

-- the period at a place is that of its number
pub period_is : (p : Part) (j : ℕ) → j < length p.periods
    → period_at p j ≡ Some (dated_period p (j + 1) (slice_index_or p.periods (j + 1 - 1) no_period))
period_is p j h =
    let back : j + 1 - 1 ≡ j = omega arith in
    let there = slice_get-get_or p.periods j no_period h in
    rw there (ap (λ (i : ℕ). Some (dated_period p (j + 1) (slice_index_or p.periods i no_period))) (sym back))

-- the days of the period at a place are those of the list
pub days_are : (p : Part) (j : ℕ) → j < length p.periods
    → option_map (λ e. e.days) (slice_get p.periods j) ≡ Some (slice_index_or p.periods (j + 1 - 1) no_period).days
days_are p j h =
    let back : j + 1 - 1 ≡ j = omega arith in
    let there = slice_get-get_or p.periods j no_period h in
    rw there (ap (λ (i : ℕ). Some (slice_index_or p.periods i no_period).days) (sym back))
