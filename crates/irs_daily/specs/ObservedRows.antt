-- The days that make up each rate of a stream with calculation parameters, as rows and as a text.
use Rattle.std.specs.Prelude.{List, Option, Some, None, ℤ, pos, ◌≡◌, ◌⊎◌, ℕ, [], ◌∷◌, length, ◌<◌, ◌++◌, codes, decimal}
use Rattle.std.specs.List.{flat_map}
use Rattle.irs_base.specs.Lists.{EachNumbered}
use Rattle.irs_base.specs.Outcomes.{Spec}
use Rattle.irs_base.specs.Texts.{day_text, dec_text, factor_places}
use Rattle.irs_resets.specs.Rates.{RateTable}
use Rattle.irs_resets.specs.declared.observed.PeriodKind.{PeriodKind}
use Rattle.irs_resets.specs.Resets.{IsPeriod}
use Rattle.irs_observed.specs.ObservedRates.{AreKnown, DailyRates, Through, Grows, one_factor, AddsBy, days_of_year}
use Rattle.irs_observed.specs.ObservedRates.{rate_precision, daily_rates, PassesLimit}
use Rattle.irs_observed.specs.declared.method.DailyRateMethod.{DailyRateMethod}
use Rattle.irs_observed.specs.declared.method.DailyRateMethod.TheVariants.{Compounding, Averaging}
use Rattle.irs_observed.specs.declared.observation.Observation.{Observation}
use Rattle.irs_observed.specs.Observations.{ObservedPeriod, AreObservations, LacksObservations}
use Rattle.irs_observed.specs.OvernightRates.{IsKindIn, OvernightSource, period_of, source_periods, HasOwnRate}
use Rattle.irs_daily.specs.declared.rows.ObservedRow.{ObservedRow}
use Rattle.irs_daily.specs.declared.rows.ObservedRow.TheVariants.{Daily, Stub, Observed}
use Rattle.irs_daily.specs.declared.rows.NoRows.{NoRows}
use Rattle.irs_daily.specs.declared.rows.NoRowsWhy.{NoRowsWhy}
use Rattle.irs_daily.specs.declared.rows.NoRowsWhy.TheVariants.{Unobserved, OutOfRange}
use Rattle.irs_daily.specs.declared.rows.DayRow.{DayRow}
use Rattle.irs_daily.specs.declared.rows.PeriodRow.{PeriodRow}

-- ---- the factor of a calculation period by daily rates: what they compound or add up to

-- f is the last compounded factor, in units of 10^-18. By averages it is the sum of the daily rates,
-- each times its weight, in units of 10^-9.
abbrev pub IsFactor : DailyRateMethod → DailyRates → List Observation → ℤ → Type 0
IsFactor (Compounding year) daily os f = Grows (days_of_year year) daily os (one_factor rate_precision) f
IsFactor Averaging daily os f = Through (AddsBy daily) os (pos 0) f

-- the factor; it is absent exactly where a daily rate is
abbrev pub IsFactorOrAbsent : DailyRateMethod → DailyRates → List Observation → Option ℤ → Type 0
IsFactorOrAbsent method daily os None = AreKnown daily os → ⊥
IsFactorOrAbsent method daily os (Some f) = IsFactor method daily os f

-- ---- the days that make up each rate of a stream with calculation parameters, as rows
-- Periods count from 1.

-- the row of an observation of period i: the member, its weight, its observation day and that day's rate.
-- The rate is absent where no line of the fixings has it.
abbrev pub day_row : DailyRates → ℕ → Observation → ObservedRow
day_row daily i o = Observed (record { number = i; observation = o; rate = daily o.observed })

-- the rows of observations, in order
abbrev pub day_rows : DailyRates → ℕ → List Observation → List ObservedRow
day_rows daily i [] = []
day_rows daily i (o ∷ os) = day_row daily i o ∷ day_rows daily i os

-- the rows of period i by its observations: one with its method and its factor, and then one for each observation
pub record AreRowsBy (method : DailyRateMethod) (daily : DailyRates) (i : ℕ) (os : List Observation)
    (rows : List ObservedRow) : Type 0 where
  pub factor : Option ℤ
  pub is_factor : IsFactorOrAbsent method daily os factor
  pub is : rows ≡ Daily (record { number = i; method = method; factor = factor }) ∷ day_rows daily i os

-- the rows of a calculation period with this number that takes daily rates
pub record AreDailyRows (method : DailyRateMethod) (daily : DailyRates) (p : ObservedPeriod) (i : ℕ)
    (rows : List ObservedRow) : Type 0 where
  pub observations : List Observation
  pub are_observations : AreObservations p observations
  pub are_rows : AreRowsBy method daily i observations rows

-- the rows of period i, which is of that kind. A stub with a rate of its own has one row and no days.
-- Every other period takes daily rates.
abbrev pub AreRowsOfKind : OvernightSource → DailyRates → ℕ → PeriodKind → List ObservedRow → Type 0
AreRowsOfKind source daily i kind rows =
    (HasOwnRate kind source.stream.stubs × (rows ≡ Stub i ∷ []))
    ⊎ ((HasOwnRate kind source.stream.stubs → ⊥) × AreDailyRows source.method daily (period_of source i) i rows)

-- the rows of period i
pub record AreRowsOf (source : OvernightSource) (rates : RateTable) (i : ℕ) (rows : List ObservedRow) : Type 0 where
  pub kind : PeriodKind
  pub is_kind : IsKindIn source i kind
  pub are_rows : AreRowsOfKind source (daily_rates rates source.index) i kind rows

-- the lists one after another
abbrev pub joined_rows : List (List ObservedRow) → List ObservedRow
joined_rows parts = flat_map (λ (rows : List ObservedRow). rows) parts

-- the rows of all calculation periods, in order
pub record AreObservedRows (source : OvernightSource) (rates : RateTable) (rows : List ObservedRow) : Type 0 where
  pub parts : List (List ObservedRow)
  pub many : length parts ≡ source_periods source
  pub each : EachNumbered (AreRowsOf source rates) 1 parts
  pub is : rows ≡ joined_rows parts

-- ---- what the rows of a stream with calculation parameters are, and why it may have none

-- ---- one period

-- each daily rate of the observations of a calculation period is there, and a compounded factor passes 10^4 in size
pub record PassesFactorLimit (method : DailyRateMethod) (daily : DailyRates) (p : ObservedPeriod) : Type 0 where
  pub observations : List Observation
  pub are_observations : AreObservations p observations
  pub passes : PassesLimit method daily observations

-- a calculation period that takes daily rates has no rows for this reason
abbrev pub HasNoDailyRows : DailyRateMethod → DailyRates → ObservedPeriod → NoRowsWhy → Type 0
HasNoDailyRows method daily p (Unobserved why) = LacksObservations p why
HasNoDailyRows method daily p OutOfRange = PassesFactorLimit method daily p

-- period i takes daily rates, and has no rows for this reason. Where a schedule was made there is none: the first
-- reason is K48 or K33, and the other K39
pub record HasNoRows (source : OvernightSource) (rates : RateTable) (i : ℕ) (why : NoRowsWhy) : Type 0 where
  pub period : IsPeriod source.adjusted i
  pub kind : PeriodKind
  pub is_kind : IsKindIn source i kind
  pub daily : HasOwnRate kind source.stream.stubs → ⊥
  pub none : HasNoDailyRows source.method (daily_rates rates source.index) (period_of source i) why

-- ---- all periods

-- no period before this number is without rows
abbrev pub NoneBefore : OvernightSource → RateTable → ℕ → Type 0
NoneBefore source rates n = (i : ℕ) (why : NoRowsWhy) → i < n → HasNoRows source rates i why → ⊥

-- the first period without rows, and why
pub record IsFirstWithout (source : OvernightSource) (rates : RateTable) (none : NoRows) : Type 0 where
  pub before : NoneBefore source rates none.number
  pub here : HasNoRows source rates none.number none.why

-- no period is without rows, and these are the rows; or the first period without them
abbrev pub observed_rows_of : OvernightSource → RateTable → Spec (List ObservedRow) NoRows
observed_rows_of source rates = record {
  Answers = λ rows. ((i : ℕ) (why : NoRowsWhy) → HasNoRows source rates i why → ⊥) × AreObservedRows source rates rows;
  Refuses = IsFirstWithout source rates;
}

-- ---- the text of the days that make up each rate: a line for each row, between a first line and a last one

-- how daily rates become one rate, by its name in FpML
abbrev pub method_name : DailyRateMethod → List ℕ
method_name (Compounding year) = codes "Compounding"
method_name Averaging = codes "Averaging"

-- the decimals of a rate
abbrev pub rate_places : ℕ
rate_places = 9

-- a compounded factor has 18 decimals, and a sum of rates those of a rate
abbrev pub factor_decimals : DailyRateMethod → ℕ
factor_decimals (Compounding year) = factor_places
factor_decimals Averaging = rate_places

-- a number with these decimals, or `-` where there is none
abbrev pub number_or_dash : ℕ → Option ℤ → List ℕ
number_or_dash places None = codes "-"
number_or_dash places (Some v) = dec_text v places

-- `c PERIOD METHOD FACTOR`
abbrev pub period_row_text : PeriodRow → List ℕ
period_row_text r =
    codes "c" ++ 32 ∷ decimal r.number ++ 32 ∷ method_name r.method ++ 32 ∷ number_or_dash (factor_decimals r.method) r.factor

-- `c PERIOD stub -`
abbrev pub stub_fields : ℕ → List ℕ
stub_fields number = codes "c" ++ 32 ∷ decimal number ++ codes " stub -"

-- `o PERIOD DAY WEIGHT OBSERVED RATE`
abbrev pub day_fields : DayRow → List ℕ
day_fields r =
    codes "o" ++ 32 ∷ decimal r.number ++ 32 ∷ day_text r.observation.day ++ 32 ∷ decimal r.observation.weight
    ++ 32 ∷ day_text r.observation.observed ++ 32 ∷ number_or_dash rate_places r.rate

-- the fields of a row
abbrev pub row_fields : ObservedRow → List ℕ
row_fields (Daily r) = period_row_text r
row_fields (Stub number) = stub_fields number
row_fields (Observed r) = day_fields r

-- the line of a row
unfoldable pub row_line : ObservedRow → List ℕ
row_line row = row_fields row ++ codes "\n"

-- the first line, with the number of the stream
abbrev pub observations_first_line : ℕ → List ℕ
observations_first_line stream = codes "irs-observations 1" ++ 32 ∷ decimal stream ++ codes "\n"

-- the whole text
abbrev pub observations_text : ℕ → List ObservedRow → List ℕ
observations_text stream rows = observations_first_line stream ++ flat_map row_line rows ++ codes "end\n"
