-- What holds of the rows of every stream with calculation parameters.
use Rattle.std.specs.Prelude.{◌≡◌, ℕ, List, [], ◌∷◌, ℤ, pos, ◌*ℤ◌, ◌-ℤ◌, ◌^◌, Option, Some, None}
use Rattle.irs_base.specs.Lists.{Every}
use Rattle.irs_resets.specs.Rates.{RateTable}
use Rattle.irs_observed.specs.ObservedRates.{DailyRates, daily_rates, one_factor, RateFraction, days_of_year}
use Rattle.irs_observed.specs.ObservedRates.{rate_precision}
use Rattle.irs_observed.specs.Observations.{total_weight}
use Rattle.irs_observed.specs.OvernightRates.{overnight_rates_of, IsOvernightRate, OvernightSource}
use Rattle.irs_observed.specs.declared.method.DailyRateMethod.{DailyRateMethod}
use Rattle.irs_observed.specs.declared.method.DailyRateMethod.TheVariants.{Compounding, Averaging}
use Rattle.irs_observed.specs.declared.observation.Observation.{Observation}
use Rattle.irs_observed.specs.declared.overnight_rate.OvernightRate.{OvernightRate}
use Rattle.irs_observed.specs.declared.overnight_rate.OvernightRate.TheVariants.{Stated, Known, Absent, OutOfRange}
use Rattle.irs_daily.specs.ObservedRows.{AreObservedRows, AreRowsOf, day_rows, HasNoRows}
use Rattle.irs_daily.specs.declared.rows.NoRowsWhy.{NoRowsWhy}
use Rattle.irs_daily.specs.declared.rows.ObservedRow.{ObservedRow}
use Rattle.irs_daily.specs.declared.rows.ObservedRow.TheVariants.{Daily, Stub}

-- any two lists of rows are equal
abbrev pub HasOneList : OvernightSource → RateTable → Type 0
HasOneList source rates =
    (a b : List ObservedRow) → AreObservedRows source rates a → AreObservedRows source rates b → a ≡ b

-- no compounded factor passes its limit where each daily rate is there
abbrev pub NoneOutOfRange : List OvernightRate → Type 0
NoneOutOfRange rs = Every (λ (r : OvernightRate). r ≡ OutOfRange → ⊥) rs

-- where a stream has its observed rates and none is out of range, no period is without rows
abbrev pub RatesHaveRows : OvernightSource → RateTable → Type 0
RatesHaveRows source rates =
    (rs : List OvernightRate) → (overnight_rates_of source rates).Answers rs → NoneOutOfRange rs
    → (i : ℕ) (why : NoRowsWhy) → HasNoRows source rates i why → ⊥

-- the observed rate that a factor gives over the days of the observation period
abbrev pub rate_of_factor : DailyRateMethod → List Observation → ℤ → RateFraction
rate_of_factor (Compounding year) os f = record {
  numerator = (f -ℤ one_factor rate_precision) *ℤ pos (days_of_year year);
  denominator = one_factor rate_precision *ℤ pos (total_weight os);
}
rate_of_factor Averaging os f = record {
  numerator = f;
  denominator = pos (10 ^ 9) *ℤ pos (total_weight os);
}

-- the rows of period i with this factor and these observations
abbrev pub rows_with : OvernightSource → DailyRates → ℕ → Option ℤ → List Observation → List ObservedRow
rows_with source daily i factor os =
    Daily (record { number = i; method = source.method; factor = factor }) ∷ day_rows daily i os

-- the rows of period i show its observed rate. A stub's own rate has one row. The factor that is shown
-- gives the rate, and is absent where the rate is.
abbrev pub Show : OvernightSource → DailyRates → ℕ → List ObservedRow → OvernightRate → Type 0
Show source daily i rows (Stated rate) = rows ≡ Stub i ∷ []
Show source daily i rows (Known x) =
    (f : ℤ) × (os : List Observation) × (rows ≡ rows_with source daily i (Some f) os)
    × (x ≡ rate_of_factor source.method os f)
Show source daily i rows Absent = (os : List Observation) × (rows ≡ rows_with source daily i None os)
Show source daily i rows OutOfRange = Unit {0}

-- so do those of each period
abbrev pub RowsShowRates : OvernightSource → RateTable → Type 0
RowsShowRates source rates =
    (i : ℕ) (r : OvernightRate) (rows : List ObservedRow) → IsOvernightRate source rates i r → AreRowsOf source rates i rows
    → Show source (daily_rates rates source.index) i rows r
