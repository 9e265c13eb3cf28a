-- The observed rates and the resets of a stream with calculation parameters.
use Rattle.std.specs.Prelude.{◌≡◌, ℤ, Option, None, IsSome, ◌⊎◌, ℕ, ◌-◌, ◌^◌, ◌<◌, List, length, Some, option_and_then}
use Rattle.std.specs.Prelude.{slice_get, pos, ◌*ℤ◌, min, [], ◌∷◌, if◌then◌else◌, int_lt, ◌+ℤ◌, ◌-ℤ◌, ◌<ℤ◌, ◌≤ℤ◌}
use Rattle.std.specs.Prelude.{unsigned_abs, ◌*◌, ◌≤◌, IfSome}
use Rattle.irs_terms.specs.Elements.{calculation_parameters}
use Rattle.irs_base.specs.Outcomes.{Spec, unless_broken}
use Rattle.irs_terms.specs.Faults.{fault_at, comes_before}
use Rattle.irs_base.specs.Lists.{EachNumbered, day_at}
use Rattle.irs_terms.specs.declared.places.Fault.{Fault}
use Rattle.irs_terms.specs.declared.places.Rule.TheVariants.{K33, K48}
use Rattle.irs_base.specs.Limits.{rounded}
use Rattle.irs_base.specs.declared.rounding.Direction.TheVariants.{Nearest}
use Rattle.irs_terms.specs.declared.amounts.FloatTerms.{FloatTerms}
use Rattle.irs_terms.specs.declared.amounts.StubRate.TheVariants.{Fixed}
use Rattle.irs_terms.specs.declared.amounts.StubTerms.{StubTerms}
use Rattle.irs_terms.specs.Lawful.{IsRate}
use Rattle.irs_terms.specs.declared.results.Span.{Span}
use Rattle.irs_terms.specs.declared.stream.Stream.{Stream}
use Rattle.irs_terms.specs.declared.codes.DayCountCode.{DayCountCode}
use Rattle.irs_terms.specs.declared.codes.DayCountCode.TheVariants.{OneOne, ActActIsda, Act365Fixed, Act360, Thirty360}
use Rattle.irs_terms.specs.declared.codes.DayCountCode.TheVariants.{ThirtyE360, ThirtyE360Isda}
use Rattle.irs_terms.specs.declared.parameters.CalculationMethod.{CalculationMethod}
use Rattle.irs_terms.specs.declared.parameters.CalculationMethod.TheVariants.{Compounding as Compounds}
use Rattle.irs_terms.specs.declared.parameters.CalculationMethod.TheVariants.{Averaging as Averages}
use Rattle.irs_terms.specs.declared.parameters.CalculationParameters.{CalculationParameters}
use Rattle.irs_terms.specs.declared.parameters.ObservationOffset.{ObservationOffset}
use Rattle.irs_terms.specs.declared.dates.ResetTerms.{ResetTerms}
use Rattle.irs_terms.specs.declared.results.Reset.{Reset}
use Rattle.irs_calendar.specs.GoodDays.{DaySet}
use Rattle.irs_resets.specs.Rates.{GivesStub, RateTable, IsPeriodKind}
use Rattle.irs_resets.specs.declared.observed.PeriodKind.{PeriodKind}
use Rattle.irs_resets.specs.declared.observed.PeriodKind.TheVariants.{FirstRegular}
use Rattle.irs_resets.specs.Resets.{IsPeriod, ResetDays, IsDates, BreaksResets, ResetSource, source_period_count}
use Rattle.irs_observed.specs.declared.origin.RateOrigin.{RateOrigin}
use Rattle.irs_observed.specs.declared.origin.RateOrigin.TheVariants.{StubRate, InitialRate, Fixing}
use Rattle.irs_observed.specs.ObservedRates.{AreKnown, DailyRates, daily_rates, RateFraction, IsBounded, IsObservedRate}
use Rattle.irs_observed.specs.ObservedRates.{PassesLimit, most_observed, IsRateOrAbsent}
use Rattle.irs_observed.specs.Observations.{ObservedPeriod, observed_period, LacksObservations, AreObservations}
use Rattle.irs_observed.specs.Observations.{total_weight, IsObservationPeriod, reported_before}
use Rattle.irs_observed.specs.declared.method.DailyRateMethod.{DailyRateMethod}
use Rattle.irs_observed.specs.declared.method.DailyRateMethod.TheVariants.{Compounding, Averaging}
use Rattle.irs_observed.specs.declared.method.YearDays.{YearDays}
use Rattle.irs_observed.specs.declared.method.YearDays.TheVariants.{Days360, Days365}
use Rattle.irs_observed.specs.declared.observation.NoObservations.{NoObservations}
use Rattle.irs_observed.specs.declared.observation.NoObservations.TheVariants.{FewMembers, NoDay}
use Rattle.irs_observed.specs.declared.observation.Observation.{Observation}
use Rattle.irs_observed.specs.declared.overnight_rate.OvernightRate.{OvernightRate}
use Rattle.irs_observed.specs.declared.overnight_rate.OvernightRate.TheVariants.{Stated, Known, Absent, OutOfRange}
use Rattle.irs_observed.specs.declared.daily_resets.OvernightResets.{OvernightResets}
use Rattle.irs_observed.specs.declared.rates.FactorOutOfRange.{FactorOutOfRange}
use Rattle.irs_observed.specs.declared.origin.RateOrigin.TheVariants as rate_origin

-- ---- where the observed rate of a calculation period comes from

-- this rate is stated for the stub that the period is
abbrev pub StatesRate : PeriodKind → Option StubTerms → ℤ → Type 0
StatesRate kind stubs rate = GivesStub kind stubs (Fixed rate)

-- the period is a stub with a rate of its own
abbrev pub HasOwnRate : PeriodKind → Option StubTerms → Type 0
HasOwnRate kind stubs = (rate : ℤ) × StatesRate kind stubs rate

-- the period is the first regular one, and an initial rate is given
abbrev pub HasInitialRate : PeriodKind → FloatTerms → Type 0
HasInitialRate kind float = (kind ≡ FirstRegular) × IsSome float.initial_rate

-- where the observed rate of a period of that kind comes from. A stub's own rate takes precedence. Every
-- other rate of a stream with calculation parameters is by daily rates
abbrev pub IsOrigin : PeriodKind → FloatTerms → Option StubTerms → RateOrigin → Type 0
IsOrigin kind float stubs StubRate = HasOwnRate kind stubs
IsOrigin kind float stubs InitialRate =
    (HasOwnRate kind stubs → ⊥) × (float.parameters ≡ None) × HasInitialRate kind float
IsOrigin kind float stubs Fixing =
    (HasOwnRate kind stubs → ⊥) × (float.parameters ≡ None) × (HasInitialRate kind float → ⊥)
IsOrigin kind float stubs rate_origin.DailyRates = (HasOwnRate kind stubs → ⊥) × IsSome float.parameters

-- ---- the observed rates of the calculation periods of a stream with calculation parameters
-- Periods count from 1.

-- ---- one rate

-- the observed rate as it is printed: a whole number of 10^-9, to the nearest, a half up
abbrev pub printed_rate : RateFraction → ℤ
printed_rate x = rounded Nearest (pos (10 ^ 9) *ℤ x.numerator) x.denominator

-- what is printed of a rate
abbrev pub printed_of : OvernightRate → Option ℤ
printed_of (Stated rate) = Some rate
printed_of (Known x) = Some (printed_rate x)
printed_of Absent = None
printed_of OutOfRange = None

-- a stated rate is at most 10 in size, and one of daily rates keeps the bounds of observed rates
abbrev pub HasBounds : OvernightRate → Type 0
HasBounds (Stated rate) = IsRate rate
HasBounds (Known x) = IsBounded x
HasBounds Absent = Unit {0}
HasBounds OutOfRange = Unit {0}

-- the rate by the daily rates of observations: absent where one of them is, out of range where a factor passes
abbrev pub IsRateBy : DailyRateMethod → DailyRates → List Observation → OvernightRate → Type 0
IsRateBy method daily os (Stated rate) = ⊥
IsRateBy method daily os (Known x) = (PassesLimit method daily os → ⊥) × IsObservedRate method daily os x
IsRateBy method daily os Absent = (PassesLimit method daily os → ⊥) × (AreKnown daily os → ⊥)
IsRateBy method daily os OutOfRange = PassesLimit method daily os

-- the rate by the daily rates of a calculation period's observations; they observe some day
pub record IsRateOver (method : DailyRateMethod) (daily : DailyRates) (p : ObservedPeriod) (r : OvernightRate)
    : Type 0 where
  pub observations : List Observation
  pub are_observations : AreObservations p observations
  pub some : 0 < total_weight observations
  pub is_rate : IsRateBy method daily observations r

-- ---- the rates of a stream

-- the days of a year by a day count. Compounding goes with ACT/360 and ACT/365.FIXED alone (K47)
abbrev pub year_by : DayCountCode → YearDays
year_by Act360 = Days360
year_by Act365Fixed = Days365
year_by OneOne = Days365
year_by ActActIsda = Days365
year_by Thirty360 = Days365
year_by ThirtyE360 = Days365
year_by ThirtyE360Isda = Days365

-- how daily rates become the rate of a period
abbrev pub method_by : CalculationMethod → DayCountCode → DailyRateMethod
method_by Compounds code = Compounding (year_by code)
method_by Averages code = Averaging

-- the inputs of the observed rates of a stream with calculation parameters, besides the daily rates
pub record OvernightSource : Type 0 where
  pub stream : Stream
  pub span : Span
  pub adjusted : List ℤ
  pub applicable : DaySet
  pub method : DailyRateMethod
  pub offset : ObservationOffset
  pub index : List ℕ

-- the same from its parts
abbrev pub overnight_source : Stream → Span → List ℤ → DaySet → FloatTerms → CalculationParameters → OvernightSource
overnight_source s span adjusted applicable float parameters = record {
  stream = s;
  span = span;
  adjusted = adjusted;
  applicable = applicable;
  method = method_by parameters.method s.day_count;
  offset = parameters.offset;
  index = float.index;
}

-- the number of calculation periods
abbrev pub source_periods : OvernightSource → ℕ
source_periods source = length source.adjusted - 1

-- what period i is
abbrev pub IsKindIn : OvernightSource → ℕ → PeriodKind → Type 0
IsKindIn source i kind = IsPeriodKind source.stream source.span (source_periods source) i kind

-- calculation period i with the offset of its observations
abbrev pub period_of : OvernightSource → ℕ → ObservedPeriod
period_of source i =
    observed_period source.offset source.applicable (day_at source.adjusted (i - 1)) (day_at source.adjusted i)

-- r is the observed rate of period i, which is of that kind. It is the rate stated for the stub, else that of
-- the daily rates
abbrev pub IsRateOf : OvernightSource → DailyRates → ℕ → PeriodKind → OvernightRate → Type 0
IsRateOf source daily i kind r =
    ((rate : ℤ) × StatesRate kind source.stream.stubs rate × (r ≡ Stated rate))
    ⊎ ((HasOwnRate kind source.stream.stubs → ⊥) × IsRateOver source.method daily (period_of source i) r)

-- r is the observed rate of period i
pub record IsOvernightRate (source : OvernightSource) (rates : RateTable) (i : ℕ) (r : OvernightRate) : Type 0 where
  pub kind : PeriodKind
  pub is_kind : IsKindIn source i kind
  pub is_rate : IsRateOf source (daily_rates rates source.index) i kind r

-- one observed rate for each period
pub record AreOvernightRates (source : OvernightSource) (rates : RateTable) (rs : List OvernightRate) : Type 0 where
  pub many : length rs ≡ source_periods source
  pub each : EachNumbered (IsOvernightRate source rates) 1 rs

-- what is printed of the rate of period i
abbrev pub printed_at : List OvernightRate → ℕ → Option ℤ
printed_at rs i = option_and_then printed_of (slice_get rs (i - 1))

-- ---- why a period has none

-- period i takes daily rates, and has no observations for this reason
pub record LacksAt (source : OvernightSource) (i : ℕ) (why : NoObservations) : Type 0 where
  pub period : IsPeriod source.adjusted i
  pub kind : PeriodKind
  pub is_kind : IsKindIn source i kind
  pub daily : HasOwnRate kind source.stream.stubs → ⊥
  pub lacks : LacksObservations (period_of source i) why

-- what a period without observations breaks: K48 where it has too few members, else K33
abbrev pub observation_fault : NoObservations → ℕ → Fault
observation_fault FewMembers i = fault_at K48 calculation_parameters i
observation_fault NoDay i = fault_at K33 calculation_parameters i

-- the observations of a period break K48 or K33
pub record BreaksObservations (source : OvernightSource) (f : Fault) : Type 0 where
  pub number : ℕ
  pub why : NoObservations
  pub lacks : LacksAt source number why
  pub is : f ≡ observation_fault why number

-- ---- the rate of a calculation period up to a day of it: by the daily rates of the members before that day

-- the observation of a member before b: its rate applies up to the next member, and no longer than to b
abbrev pub ends_by : ℤ → Observation → Observation
ends_by b o = record { day = o.day; weight = min o.weight (unsigned_abs (b -ℤ o.day)); observed = o.observed }

-- the observations of the members before b, the last of them up to b. Each keeps its observation day
abbrev pub observed_until : ℤ → List Observation → List Observation
observed_until b [] = []
observed_until b (o ∷ os) = if int_lt o.day b then ends_by b o ∷ observed_until b os else observed_until b os

-- the observations of a calculation period, which lacks none
abbrev pub HasObservations : ObservedPeriod → List Observation → Type 0
HasObservations p os = ((why : NoObservations) → LacksObservations p why → ⊥) × AreObservations p os

-- r is the rate by the daily rates of the members before b, of which there is one. The members and their observation
-- days are those of the whole period, so a lockout is that of its last days
pub record IsRateUntil (method : DailyRateMethod) (daily : DailyRates) (p : ObservedPeriod) (b : ℤ) (r : OvernightRate)
    : Type 0 where
  pub observations : List Observation
  pub has : HasObservations p observations
  pub some : 0 < total_weight (observed_until b observations)
  pub is_rate : IsRateBy method daily (observed_until b observations) r

-- the same, or no rate where the period has no observations; no period of a schedule is without them (K33, K48)
abbrev pub IsRateBefore : DailyRateMethod → DailyRates → ObservedPeriod → ℤ → OvernightRate → Type 0
IsRateBefore method daily p b r =
    IsRateUntil method daily p b r ⊎ ((why : NoObservations) × LacksObservations p why × (r ≡ Absent))

-- the weights of the members before d add up to the days from the first day of the observation period to d
abbrev pub AddsUpUntil : ObservedPeriod → ℤ → Type 0
AddsUpUntil p d =
    (os : List Observation) (a b : ℤ) → HasObservations p os → IsObservationPeriod p a b → a <ℤ d → d ≤ℤ b
    → a +ℤ pos (total_weight (observed_until d os)) ≡ d

-- ---- the resets of a stream with calculation parameters, and the rules that they break
-- Periods count from 1.

-- the inputs of the observed rates of the same stream
abbrev pub rates_source : ResetSource → DaySet → FloatTerms → CalculationParameters → OvernightSource
rates_source source applicable float parameters =
    overnight_source source.stream source.span source.days.adjusted applicable float parameters

-- the inputs of the resets of a stream with calculation parameters: those of the reset and fixing dates, and
-- those of the observed rates
pub record DailySource : Type 0 where
  pub dates : ResetSource
  pub rates : OvernightSource

-- the same from its parts
abbrev pub daily_source : ResetSource → DaySet → FloatTerms → CalculationParameters → DailySource
daily_source source applicable float parameters =
    record { dates = source; rates = rates_source source applicable float parameters }

-- the rules of resets that are broken, and those of observations
abbrev pub BreaksOvernight : DailySource → Fault → Type 0
BreaksOvernight source f = BreaksResets source.dates f ⊎ BreaksObservations source.rates f

-- the reset of period i by the terms t of its dates: the dates, and what is printed of its observed rate
pub record IsOvernightReset (t : ResetTerms) (days : ResetDays) (rs : List OvernightRate) (i : ℕ) (row : Reset)
    : Type 0 where
  pub dates : IsDates t days i row.reset row.fixing
  pub observed : row.observed ≡ printed_at rs i

-- one reset for each period
pub record HasOvernightResets (t : ResetTerms) (source : ResetSource) (rs : List OvernightRate) (rows : List Reset)
    : Type 0 where
  pub many : length rows ≡ source_period_count source
  pub each : EachNumbered (IsOvernightReset t source.days rs) 1 rows

-- the resets by the terms of their dates
abbrev pub HasOvernightResetsBy : Option ResetTerms → ResetSource → List OvernightRate → List Reset → Type 0
HasOvernightResetsBy None source rs rows = ⊥
HasOvernightResetsBy (Some t) source rs rows = HasOvernightResets t source rs rows

-- the observed rate of each period, not rounded, and the resets
pub record AreOvernightResets (source : DailySource) (fixings : RateTable) (x : OvernightResets) : Type 0 where
  pub rates : AreOvernightRates source.rates fixings x.rates
  pub resets : HasOvernightResetsBy source.dates.stream.reset source.dates x.rates x.resets

-- ---- rows

-- an observed rate as it is printed keeps the bound of observed rates
abbrev pub HasPrintedRate : Reset → Type 0
HasPrintedRate row = IfSome row.observed (λ r. unsigned_abs r ≤ most_observed * 10 ^ 9)

-- ---- what the calls of this crate answer, and what they refuse

-- the observations of a calculation period, or the first reason why there are none
abbrev pub observations_of : ObservedPeriod → Spec (List Observation) NoObservations
observations_of p = unless_broken reported_before (LacksObservations p) (AreObservations p)

-- the observed rate, absent where a daily rate is, or the refusal that a factor passes its limit
abbrev pub observed_rate_of : DailyRateMethod → DailyRates → List Observation → Spec (Option RateFraction) FactorOutOfRange
observed_rate_of method daily os = record {
  Answers = λ x. (PassesLimit method daily os → ⊥) × IsRateOrAbsent method daily os x;
  Refuses = λ _. PassesLimit method daily os;
}

-- the observed rates of a stream with calculation parameters, or the first K48, or else the first K33
abbrev pub overnight_rates_of : OvernightSource → RateTable → Spec (List OvernightRate) Fault
overnight_rates_of source rates = unless_broken comes_before (BreaksObservations source) (AreOvernightRates source rates)

-- its resets with these rates, or the first of K37, K48, K33 and K38 that is broken
abbrev pub overnight_resets_of : DailySource → RateTable → Spec OvernightResets Fault
overnight_resets_of source rates = unless_broken comes_before (BreaksOvernight source) (AreOvernightResets source rates)
