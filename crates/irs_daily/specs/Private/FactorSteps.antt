-- Private: no public contract rests on this file.
-- Of private functions: factors, one observation after another, and what they come to.
use Rattle.std.specs.Prelude.{◌≡◌, ℕ, ◌+◌, ◌*◌, ◌^◌, ◌<◌, ◌≤◌, List, Option, Some, None, ℤ, pos, ◌+ℤ◌, ◌*ℤ◌}
use Rattle.std.specs.Prelude.{unsigned_abs, ◌∷◌}
use Rattle.irs_base.specs.Limits.{Rounded}
use Rattle.irs_base.specs.declared.rounding.Direction.TheVariants.{Nearest}
use Rattle.irs_base.specs.Outcomes.{Spec}
use Rattle.irs_resets.specs.Rates.{RateTable}
use Rattle.irs_observed.specs.ObservedRates.{AreKnown, DailyRates, one_factor, unit_rate, PassesLimit, days_of_year}
use Rattle.irs_observed.specs.ObservedRates.{rate_precision}
use Rattle.irs_observed.specs.declared.method.DailyRateMethod.{DailyRateMethod}
use Rattle.irs_observed.specs.declared.method.DailyRateMethod.TheVariants.{Compounding, Averaging}
use Rattle.irs_observed.specs.declared.observation.Observation.{Observation}
use Rattle.irs_observed.specs.Observations.{ObservedPeriod}
use Rattle.irs_observed.specs.OvernightRates.{OvernightSource}
use Rattle.irs_daily.specs.ObservedRows.{IsFactor, AreDailyRows, AreRowsBy, AreRowsOf, HasNoDailyRows, HasNoRows}
use Rattle.irs_daily.specs.declared.growth.Growth.{Growth}
use Rattle.irs_daily.specs.declared.growth.Growth.TheVariants.{Known, Passed, Absent}
use Rattle.irs_daily.specs.declared.periods.PeriodRows.{PeriodRows}
use Rattle.irs_daily.specs.declared.rows.NoRowsWhy.{NoRowsWhy}
use Rattle.irs_daily.specs.declared.rows.NoRowsWhy.TheVariants.{OutOfRange}

-- ---- one step of a factor, and what is known of it through the observations

-- the factor before the first observation, or the empty sum
abbrev pub first_factor : DailyRateMethod → ℤ
first_factor (Compounding year) = one_factor rate_precision
first_factor Averaging = pos 0

-- the factor f becomes g by a daily rate over a number of days.
-- A sum grows in size by at most 10 times these days.
abbrev pub StepsBy : DailyRateMethod → ℤ → ℕ → ℤ → ℤ → Type 0
StepsBy (Compounding year) rate weight f g =
    Rounded Nearest (f *ℤ (unit_rate (days_of_year year) +ℤ rate *ℤ pos weight)) (unit_rate (days_of_year year)) g
StepsBy Averaging rate weight f g =
    (g ≡ f +ℤ rate *ℤ pos weight) × (unsigned_abs g ≤ unsigned_abs f + 10 ^ 10 * weight)

-- the greatest factor in size of which the next one is worked out
abbrev pub most_factor : ℕ
most_factor = 10 ^ 22

-- a known factor is no greater than that
abbrev pub IsSmall : Growth → Type 0
IsSmall (Known f) = unsigned_abs f ≤ most_factor
IsSmall Passed = Unit {0}
IsSmall Absent = Unit {0}

-- what becomes of the factor f with a rate: the next factor, or that it passes the limit
abbrev pub IsStepped : DailyRateMethod → ℤ → ℕ → ℤ → Growth → Type 0
IsStepped method rate weight f (Known g) = StepsBy method rate weight f g × (unsigned_abs g ≤ most_factor)
IsStepped method rate weight f Passed = (g : ℤ) × StepsBy method rate weight f g × (most_factor < unsigned_abs g)
IsStepped method rate weight f Absent = ⊥

-- what is known after one observation more, of this rate and weight
abbrev pub IsNext : DailyRateMethod → Option ℤ → ℕ → Growth → Growth → Type 0
IsNext method None weight before after = after ≡ Absent
IsNext method (Some rate) weight (Known f) after = IsStepped method rate weight f after
IsNext method (Some rate) weight Passed after = after ≡ Passed
IsNext method (Some rate) weight Absent after = after ≡ Absent

-- what is known of the factor after all observations
abbrev pub IsGrowthOf : DailyRateMethod → DailyRates → List Observation → Growth → Type 0
IsGrowthOf method daily os (Known f) = (PassesLimit method daily os → ⊥) × IsFactor method daily os f
IsGrowthOf method daily os Passed = PassesLimit method daily os
IsGrowthOf method daily os Absent = AreKnown daily os → ⊥

-- ---- what the rows of a stream with calculation parameters are, and why it may have none

-- ---- one period

-- the rows of period i by its observations, and no factor passes the limit; or the reason that one does
abbrev pub rows_by_of : DailyRateMethod → DailyRates → ℕ → List Observation → Spec PeriodRows NoRowsWhy
rows_by_of method daily i os = record {
  Answers = λ r. (PassesLimit method daily os → ⊥) × AreRowsBy method daily i os (r.head ∷ r.days);
  Refuses = λ why. (why ≡ OutOfRange) × PassesLimit method daily os;
}

-- the rows of a calculation period that takes daily rates, or why it has none
abbrev pub daily_rows_of : DailyRateMethod → DailyRates → ObservedPeriod → ℕ → Spec PeriodRows NoRowsWhy
daily_rows_of method daily p i = record {
  Answers = λ r. ((why : NoRowsWhy) → HasNoDailyRows method daily p why → ⊥)
      × AreDailyRows method daily p i (r.head ∷ r.days);
  Refuses = HasNoDailyRows method daily p;
}

-- the rows of period i, or why it has none
abbrev pub period_rows_of : OvernightSource → RateTable → ℕ → Spec PeriodRows NoRowsWhy
period_rows_of source rates i = record {
  Answers = λ r. ((why : NoRowsWhy) → HasNoRows source rates i why → ⊥) × AreRowsOf source rates i (r.head ∷ r.days);
  Refuses = HasNoRows source rates i;
}
