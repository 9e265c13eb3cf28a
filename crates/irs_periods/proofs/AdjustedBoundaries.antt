-- Where no boundary lacks its adjusted day there is the list of adjusted boundaries.
use Rattle.std.proofs.Common.{inl, inr, ℕ, zero, suc, ◌<◌, List, [], ◌∷◌, length, ℤ, Bool, true, false, if◌then◌else◌}
use Rattle.std.proofs.Common.{◌==◌, arith}
use Rattle.irs_base.specs.Days.{IsDay}
use Rattle.irs_base.specs.Lists.{AreDays, day_at}
use Rattle.irs_terms.specs.declared.stream.Stream.{Stream}
use Rattle.irs_calendar.specs.GoodDays.{DaySet}
use Rattle.irs_periods.specs.Boundaries.{BoundaryDays, last_of, code_at, boundary_days_at, AdjustsAt, AdjustedList}
use Rattle.irs_periods.specs.Boundaries.{NoResult}
use Rattle.irs_periods.proofs.AdjustedLemmas.{adjusted_exists}
use Rattle.irs_adjust.proofs.FoundDays.{InRange, IsFound, decides_adjusts, adjusts_day}

-- the days at the places of a list of days are days in range, and the other way round
pub day_of_days : (b : List ℤ) (i : ℕ) → AreDays b → i < length b → IsDay (day_at b i)
day_of_days [] i days within = absurd (omega (arith, within))
day_of_days (x ∷ xs) zero days within = days.0
day_of_days (x ∷ xs) (suc i) days within = day_of_days xs i days.1 (omega (arith, within))

-- a list is one of days in range where each of its days is
pub days_of_each : (a : List ℤ) → ((i : ℕ) → i < length a → IsDay (day_at a i)) → AreDays a
days_of_each [] each = tt
days_of_each (x ∷ xs) each =
    (each zero (omega arith), days_of_each xs (λ i within. each (suc i) (omega (arith, within))))

chosen_range : (b : Bool) (s t : DaySet) → InRange s → InRange t → InRange (if b then s else t)
chosen_range true s t first second = first
chosen_range false s t first second = second

module _ (s : Stream) (sets : BoundaryDays) (b : List ℤ) (days : AreDays b) (start : InRange sets.start)
    (last : InRange sets.end) (middle : InRange sets.middle) where
  -- the business days of each boundary lie in the range of dates
  pub days_range : (end i : ℕ) → InRange (boundary_days_at sets end i)
  days_range end i =
      let rest = chosen_range (i == end) sets.end sets.middle last middle in
      chosen_range (i == 0) sets.start (if i == end then sets.end else sets.middle) start rest

  found_or_missed : (i : ℕ) → i < length b → (NoResult s sets b i → ⊥)
      → IsFound (AdjustsAt s sets (last_of b) i (day_at b i)) → (r : ℤ) × AdjustsAt s sets (last_of b) i (day_at b i) r
  found_or_missed i within meets (inl found) = found
  found_or_missed i within meets (inr none) = absurd (meets (record { within = within; none = none }))

  -- every boundary has its adjusted day
  pub adjusted_there : ((i : ℕ) → NoResult s sets b i → ⊥) → (a : List ℤ) × AdjustedList s sets b a
  adjusted_there meets = adjusted_exists s sets b (λ i within.
      found_or_missed i within (meets i)
      (decides_adjusts (code_at s (last_of b) i) (boundary_days_at sets (last_of b) i) (day_at b i)
      (day_of_days b i days within) (days_range (last_of b) i)))

  -- the adjusted boundaries are days in range
  pub adjusted_days : (a : List ℤ) → AdjustedList s sets b a → AreDays a
  adjusted_days a h = days_of_each a (λ i within.
      let same : i < length b = omega (arith, within, h.same_length) in
      adjusts_day (code_at s (last_of b) i) (boundary_days_at sets (last_of b) i) (day_at b i) (day_at a i)
      (day_of_days b i days same) (days_range (last_of b) i) (h.each i same))
