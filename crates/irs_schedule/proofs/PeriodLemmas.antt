-- Periods that are worked out.
use Rattle.std.proofs.Common.{◌≡◌, ℕ, ◌-◌, ◌<◌, ◌≤◌, ◌==◌, length, slice_index_or, arith, List, [], ◌∷◌, ℤ, ◌<ℤ◌}
use Rattle.std.proofs.Common.{zero, suc}
use Rattle.std.proofs.lemmas.List.FromFn.{get_or-map-range_with_len, length-map-range_with_len}
use Rattle.irs_base.proofs.DayListLemmas.{day_at_day}
use Rattle.irs_base.specs.Lists.{AreDays, AllAfter, IsRising, Every, day_at}
use Rattle.irs_terms.specs.declared.results.Reset.{Reset}
use Rattle.irs_terms.specs.Lawful.{IsLawfulValues, IsLawfulLeg, IsNotional}
use Rattle.irs_daycount.specs.Fractions.{fraction_of}
use Rattle.irs_daycount.specs.Private.FractionLaws.{fraction_is, one_denominator}
use Rattle.irs_observed.specs.declared.overnight_rate.OvernightRate.{OvernightRate}
use Rattle.irs_schedule.specs.declared.entries.PeriodEntry.{PeriodEntry}
use Rattle.irs_schedule.specs.declared.kept_terms.KeptTerms.{KeptTerms}
use Rattle.irs_schedule.specs.Parts.{is_daily, Rises, RisesFrom, IsEntry, HasRates}
use Rattle.irs_schedule.specs.Schedules.{period_count, start_of, period_by, periods_by}
use Rattle.irs_schedule.specs.RowsOf.{no_period}
use Rattle.irs_compound.proofs.RateSizes.{value_within}
use Rattle.irs_base.proofs.EveryLemmas.{every_numbered, numbered_computed}
use Rattle.irs_compound.proofs.PeriodSizes.{days_small, numerator_small}
use Rattle.irs_schedule.proofs.EntryRates.{entry_rate_small}

-- periods are one fewer than boundaries
pub length_periods : (terms : KeptTerms) (unadjusted adjusted : List ℤ) (resets : List Reset)
    (rates : List OvernightRate) → length (periods_by terms unadjusted adjusted resets rates) ≡ period_count adjusted
length_periods terms unadjusted adjusted resets rates =
    length-map-range_with_len (period_by terms unadjusted adjusted resets rates) 1 (period_count adjusted)

-- period i is at place i - 1
pub entry_at : (terms : KeptTerms) (unadjusted adjusted : List ℤ) (resets : List Reset) (rates : List OvernightRate)
    (i : ℕ) → 0 < i → i ≤ period_count adjusted
    → slice_index_or (periods_by terms unadjusted adjusted resets rates) (i - 1) no_period
    ≡ period_by terms unadjusted adjusted resets rates i
entry_at terms unadjusted adjusted resets rates i low high =
    get_or-map-range_with_len (period_by terms unadjusted adjusted resets rates) 1 (period_count adjusted) (i - 1) i
    no_period (omega (arith, low, high)) (omega (arith, low))

-- days that rise, each against the one before it
rises_after : (d : ℤ) (xs : List ℤ) → AllAfter d xs → IsRising xs → RisesFrom d xs
rises_after d [] after rising = tt
rises_after d (x ∷ xs) after rising = (after.0, rises_after x xs rising.0 rising.1)

-- the two definitions of a rising list agree
pub rises_of : (xs : List ℤ) → IsRising xs → Rises xs
rises_of [] rising = tt
rises_of (x ∷ xs) rising = rises_after x xs rising.0 rising.1

rises_at : (d : ℤ) (xs : List ℤ) (i : ℕ) → RisesFrom d xs → i < length xs → day_at (d ∷ xs) i <ℤ day_at xs i
rises_at d [] i h low = absurd (omega arith)
rises_at d (x ∷ xs) zero h low = h.0
rises_at d (x ∷ xs) (suc i) h low = rises_at x xs i h.1 (omega arith)

-- of a rising list each day comes after the one before it
pub next_day : (xs : List ℤ) (i : ℕ) → Rises xs → 0 < i → i < length xs → day_at xs (i - 1) <ℤ day_at xs i
next_day [] i h low high = absurd (omega arith)
next_day (x ∷ xs) zero h low high = absurd (omega arith)
next_day (x ∷ xs) (suc i) h low high = let e : suc i - 1 ≡ i = omega arith in rw e (rises_at x xs i h (omega arith))

-- a period ends after it starts
pub in_order : (adjusted : List ℤ) (i : ℕ) → Rises adjusted → 0 < i → i ≤ period_count adjusted
    → start_of adjusted i <ℤ day_at adjusted i
in_order adjusted i rises low high = next_day adjusted i rises low (omega (arith, low, high))

-- periods that are worked out lie within their limits
pub entries_within : (terms : KeptTerms) (unadjusted adjusted : List ℤ) (resets : List Reset)
    (rates : List OvernightRate) → IsLawfulValues IsNotional terms.notional → IsLawfulLeg terms.leg
    → HasRates terms.leg (period_count adjusted) resets rates → AreDays adjusted → Rises adjusted
    → Every (IsEntry (is_daily terms.leg) terms.day_count) (periods_by terms unadjusted adjusted resets rates)
entries_within terms unadjusted adjusted resets rates notional leg has days rises =
    let daily = is_daily terms.leg in
    let Q : ℕ → PeriodEntry → Type 0 = λ _. IsEntry daily terms.day_count in
    every_numbered Q (IsEntry daily terms.day_count) 1 (periods_by terms unadjusted adjusted resets rates)
    (λ i e h. h)
    (numbered_computed Q (period_by terms unadjusted adjusted resets rates) 1 (period_count adjusted) (λ i low high.
    let code = terms.day_count in
    let a = start_of adjusted i in
    let b = day_at adjusted i in
    let last = i == period_count adjusted in
    let order : a <ℤ b = in_order adjusted i rises (omega (arith, low)) (omega (arith, high)) in
    let from = day_at_day adjusted (i - 1) days in
    let to = day_at_day adjusted i days in
    record {
      days = days_small a b last from to order code;
      notional = value_within IsNotional terms.notional (start_of unadjusted i) notional;
      numerator = numerator_small a b last from to order code;
      denominator = one_denominator code a b last (fraction_of code a b last) (fraction_is code a b last order);
      rate = entry_rate_small terms.leg (period_count adjusted) resets rates has (i - 1) (start_of unadjusted i) leg
          (omega (arith, low, high));
    }))
