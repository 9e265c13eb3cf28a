-- One period compounded at two precisions: its observed rate, by factors of 18 decimals, and its derived rate, by
-- factors of 15.
use Rattle.std.specs.Prelude.{◌≡◌, ℕ, ◌-◌, ◌*◌, ◌^◌, ◌<◌, ◌≤◌, List, Some, ℤ, pos, ◌-ℤ◌, ◌*ℤ◌, ◌≤ℤ◌, ◌<ℤ◌, unsigned_abs}
use Rattle.irs_base.specs.Days.{IsDay}
use Rattle.irs_base.specs.Lists.{day_at}
use Rattle.irs_terms.specs.declared.parameters.ObservationOffset.TheVariants.{Absent}
use Rattle.irs_calendar.specs.GoodDays.{DaySet}
use Rattle.irs_resets.specs.Rates.{RateTable}
use Rattle.irs_observed.specs.ObservedRates.{daily_rates, FactorPasses as PassesAt, Precision, RateFraction}
use Rattle.irs_observed.specs.ObservedRates.{IsObservedRate, IsPrintedRate, days_of_year, EachRate}
use Rattle.irs_observed.specs.Observations.{ObservedPeriod, observed_period, AreObservations as AreObserved}
use Rattle.irs_observed.specs.OvernightRates.{IsOvernightRate, OvernightSource, printed_rate}
use Rattle.irs_observed.specs.declared.method.DailyRateMethod.TheVariants.{Compounding}
use Rattle.irs_observed.specs.declared.method.YearDays.{YearDays}
use Rattle.irs_observed.specs.declared.observation.Observation.{Observation as Observed}
use Rattle.irs_observed.specs.declared.overnight_rate.OvernightRate.TheVariants.{Known}
use Rattle.irs_overnight.specs.Overnight.{DerivedSource, IsDerivedRow}
use Rattle.irs_overnight.specs.Observations.{DerivedGrows, derived_one, DailyPeriod, FindsRate, derived_period}
use Rattle.irs_overnight.specs.Observations.{AreRateObservations, basis_of, daily_lines}
use Rattle.irs_overnight.specs.declared.derived.DerivedRow.{DerivedRow}
use Rattle.irs_overnight.specs.declared.derived.Found.TheVariants.{Rate}
use Rattle.irs_overnight.specs.declared.observations.Observation.{Observation}

-- A calculation period from its adjusted start to its adjusted end. It has its business days, the daily rates
-- of an index, and the days of a year.
pub record CompoundedPeriod : Type 0 where
  pub year : YearDays
  pub days : DaySet
  pub rates : RateTable
  pub index : List ℕ
  pub start : ℤ
  pub end : ℤ

-- it starts before it ends
pub record StartsBeforeItEnds (p : CompoundedPeriod) : Type 0 where
  pub first : IsDay p.start
  pub last : IsDay p.end
  pub order : p.start <ℤ p.end

-- the period as calculation parameters have it, without observation shift, lookback and lockout
abbrev pub with_parameters : CompoundedPeriod → ObservedPeriod
with_parameters p = observed_period Absent p.days p.start p.end

-- the period as rates are derived for it
abbrev pub without_parameters : CompoundedPeriod → DailyPeriod
without_parameters p = derived_period (days_of_year p.year) (daily_lines p.rates p.index) p.days p.start p.end

-- factors of 18 decimals that aren't above 10 in size
abbrev pub up_to_ten : Precision
up_to_ten = record { decimals = 18; most = 10 ^ 19 }

-- no daily rate of the period is below 0, and none of its factors passes 10
pub record StaysLow (p : CompoundedPeriod) : Type 0 where
  pub not_below : (os : List Observed) → AreObserved (with_parameters p) os
      → EachRate (daily_rates p.rates p.index) (λ r. pos 0 ≤ℤ r) os
  pub within : (os : List Observed) → AreObserved (with_parameters p) os
      → PassesAt up_to_ten (days_of_year p.year) (daily_rates p.rates p.index) os → ⊥

-- x is the observed rate of the period, not rounded
pub record IsObservedIn (p : CompoundedPeriod) (x : RateFraction) : Type 0 where
  pub observations : List Observed
  pub are_observations : AreObserved (with_parameters p) observations
  pub is_rate : IsObservedRate (Compounding p.year) (daily_rates p.rates p.index) observations x

-- y is the fraction that is rounded to the derived rate of the period
pub record IsDerivedIn (p : DailyPeriod) (y : RateFraction) : Type 0 where
  pub observations : List Observation
  pub are_observations : AreRateObservations p.lines p.days p.start p.end observations
  pub factor : ℤ
  pub grows : DerivedGrows p.basis observations derived_one factor
  pub numerator : y.numerator ≡ (factor -ℤ derived_one) *ℤ pos p.basis
  pub denominator : y.denominator ≡ derived_one *ℤ (p.end -ℤ p.start)

-- the fractions differ by less than 2 * 10^-12
abbrev pub AreNear : RateFraction → RateFraction → Type 0
AreNear x y =
    (unsigned_abs (x.numerator *ℤ y.denominator -ℤ y.numerator *ℤ x.denominator) * 10 ^ 12)
    < (2 * unsigned_abs (x.denominator *ℤ y.denominator))

-- the observed rate and the derived rate of one period differ by less than 2 * 10^-12 before they are rounded
abbrev pub AgreeUnrounded : CompoundedPeriod → Type 0
AgreeUnrounded p =
    StartsBeforeItEnds p → StaysLow p → (x y : RateFraction) → IsObservedIn p x → IsDerivedIn (without_parameters p) y → AreNear x y

-- as they are printed they differ by at most 1 in the ninth decimal
abbrev pub AgreeAsPrinted : CompoundedPeriod → Type 0
AgreeAsPrinted p =
    StartsBeforeItEnds p → StaysLow p → (x : RateFraction) (z r : ℤ) → IsObservedIn p x → IsPrintedRate x z
    → FindsRate (without_parameters p) (Rate r) → unsigned_abs (z -ℤ r) ≤ 1

-- ---- over a stream

-- One stream in both forms: with calculation parameters it has observed rates, and without them derived ones.
-- Both are found from the same calculation periods, business days, daily rates and year.
pub record IsOneStream (observed : OvernightSource) (derived : DerivedSource) (rates : RateTable) (year : YearDays)
    : Type 0 where
  pub method : observed.method ≡ Compounding year
  pub offset : observed.offset ≡ Absent
  pub basis : basis_of derived.day_count ≡ Some (days_of_year year)
  pub adjusted : derived.adjusted ≡ observed.adjusted
  pub days : derived.days ≡ observed.applicable
  pub lines : derived.lines ≡ daily_lines rates observed.index

-- calculation period i
abbrev pub compounded_period : OvernightSource → RateTable → YearDays → ℕ → CompoundedPeriod
compounded_period source rates year i = record {
  year = year;
  days = source.applicable;
  rates = rates;
  index = source.index;
  start = day_at source.adjusted (i - 1);
  end = day_at source.adjusted i;
}

-- in each such period that has both rates they differ, as they are printed, by at most 1 in the ninth decimal
abbrev pub AgreeInStream : OvernightSource → DerivedSource → RateTable → YearDays → Type 0
AgreeInStream observed derived rates year =
    IsOneStream observed derived rates year → (i : ℕ) (x : RateFraction) (row : DerivedRow) (r : ℤ)
    → StartsBeforeItEnds (compounded_period observed rates year i) → StaysLow (compounded_period observed rates year i)
    → IsOvernightRate observed rates i (Known x) → IsDerivedRow derived i row → row.found ≡ Rate r
    → unsigned_abs (printed_rate x -ℤ r) ≤ 1
