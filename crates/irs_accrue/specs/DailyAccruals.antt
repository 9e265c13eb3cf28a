-- What has accrued on a day in a stream with calculation parameters. The running period earns at the rate that the
-- daily rates of its members before the day give. That the members are those of the whole period is our rule.
use Rattle.std.specs.Prelude.{◌≡◌, ◌⊎◌, ℕ, length, Option, Some, None, option_map, ℤ, pos, ◌<ℤ◌, ◌≤ℤ◌}
use Rattle.irs_base.specs.declared.line.Dec.{Dec}
use Rattle.irs_terms.specs.Lawful.{decimals_of}
use Rattle.irs_terms.specs.declared.amounts.FloatTerms.{FloatTerms}
use Rattle.irs_terms.specs.declared.amounts.Leg.{Leg}
use Rattle.irs_terms.specs.declared.amounts.Leg.TheVariants.{Fixed, Floating}
use Rattle.irs_terms.specs.declared.amounts.StubTerms.{StubTerms}
use Rattle.irs_terms.specs.declared.codes.DayCountCode.{DayCountCode}
use Rattle.irs_terms.specs.declared.parameters.CalculationParameters.{CalculationParameters}
use Rattle.irs_terms.specs.declared.results.Frac.{Frac}
use Rattle.irs_terms.specs.declared.results.Span.{Span}
use Rattle.irs_terms.specs.declared.stream.Stream.{Stream}
use Rattle.irs_calendar.specs.GoodDays.{DaySet}
use Rattle.irs_periods.specs.Spans.{Regular}
use Rattle.irs_resets.specs.Rates.{IsPeriodKind, RateTable}
use Rattle.irs_resets.specs.declared.observed.PeriodKind.{PeriodKind}
use Rattle.irs_observed.specs.ObservedRates.{DailyRates, daily_rates}
use Rattle.irs_observed.specs.Observations.{IsObservationPeriod, ObservedPeriod, observed_period}
use Rattle.irs_observed.specs.OvernightRates.{method_by, HasOwnRate, IsRateBefore}
use Rattle.irs_observed.specs.declared.method.DailyRateMethod.{DailyRateMethod}
use Rattle.irs_observed.specs.declared.overnight_rate.OvernightRate.{OvernightRate}
use Rattle.irs_compound.specs.PeriodRates.{AreRatesBy}
use Rattle.irs_compound.specs.declared.periods.Rates.{Rates}
use Rattle.irs_schedule.specs.Parts.{Part}
use Rattle.irs_schedule.specs.declared.views.CalculationPeriod.{CalculationPeriod}
use Rattle.irs_accrue.specs.Accruals.{IsAccrual, IsAccrued, IsOutside, Runs, HasRun}
use Rattle.irs_accrue.specs.declared.accruals.Accrual.{Accrual}
use Rattle.irs_accrue.specs.declared.accruals.Accrual.TheVariants.{Outside, Inside}

-- what a stream with calculation parameters accrues by: its terms, the applicable business days, and the daily rates
pub record DailyTerms : Type 0 where
  pub leg : Leg
  pub day_count : DayCountCode
  pub float : FloatTerms
  pub parameters : CalculationParameters
  pub applicable : DaySet
  pub fixings : RateTable

-- what a stream accrues by, from its leg, its day count, its terms and its fixings
abbrev pub daily_terms : Leg → DayCountCode → FloatTerms → CalculationParameters → DaySet → RateTable → DailyTerms
daily_terms leg day_count float parameters applicable fixings = record {
  leg = leg;
  day_count = day_count;
  float = float;
  parameters = parameters;
  applicable = applicable;
  fixings = fixings;
}

-- how its daily rates become a rate
abbrev pub method_of : DailyTerms → DailyRateMethod
method_of t = method_by t.parameters.method t.day_count

-- the daily rates of its index
abbrev pub daily_rates_of : DailyTerms → DailyRates
daily_rates_of t = daily_rates t.fixings t.float.index

-- the calculation period x as its daily rates are observed, from its adjusted start to its adjusted end
abbrev pub whole_period : DailyTerms → CalculationPeriod → ObservedPeriod
whole_period t x = observed_period t.parameters.offset t.applicable x.adjusted_start x.adjusted_end

-- the part of x that has run before d: its observation period ends on d, moved back by an observation shift
abbrev pub run_of : DailyTerms → CalculationPeriod → ℤ → ObservedPeriod
run_of t x d = observed_period t.parameters.offset t.applicable x.adjusted_start d

-- no amount yet, in this number of decimals
abbrev pub no_amount_yet : ℕ → Dec
no_amount_yet places = record { units = pos 0; places = places }

-- known is the rate that an observed rate gives with the multiplier and the spread in force on `start`, rounded once
pub record GivesRate (leg : Leg) (start : ℤ) (observed : OvernightRate) (known : Option ℤ) : Type 0 where
  pub rates : Option Rates
  pub are_rates : AreRatesBy leg start observed rates
  pub is : known ≡ option_map (λ r. r.all_in) rates

-- the notional of x earns at the rate that the daily rates of its members before b give
pub record EarnsBefore (t : DailyTerms) (places : ℕ) (x : CalculationPeriod) (b : ℤ) (frac : Frac) (amount : Option Dec)
    : Type 0 where
  pub observed : OvernightRate
  pub is_observed : IsRateBefore (method_of t) (daily_rates_of t) (whole_period t x) b observed
  pub known : Option ℤ
  pub gives : GivesRate t.leg x.start observed known
  pub accrued : IsAccrued places x.notional known frac amount

-- what has accrued before d of the period x, which takes daily rates
pub data AccruesDaily (t : DailyTerms) (places : ℕ) (x : CalculationPeriod) (d : ℤ) (frac : Frac) (amount : Option Dec)
    : Type 0 where
  -- nothing on its first day, whatever the fixings
  on_first : d ≡ x.adjusted_start → amount ≡ Some (no_amount_yet places) → AccruesDaily t places x d frac amount
  -- nothing, and no part of the spread, before its first day is observed
  before_first : x.adjusted_start <ℤ d → (a b : ℤ) → IsObservationPeriod (run_of t x d) a b → b ≤ℤ a
      → amount ≡ Some (no_amount_yet places) → AccruesDaily t places x d frac amount
  -- then by the members before the end of what is observed
  observing : x.adjusted_start <ℤ d → (a b : ℤ) → IsObservationPeriod (run_of t x d) a b → a <ℤ b
      → EarnsBefore t places x b frac amount → AccruesDaily t places x d frac amount
  -- no rate is known without an observation period; in a schedule there is one up to each day (the law
  -- `observations_reach_each_day` of irs_observed)
  unobserved : x.adjusted_start <ℤ d → ((a b : ℤ) → IsObservationPeriod (run_of t x d) a b → ⊥) → amount ≡ None
      → AccruesDaily t places x d frac amount

-- what has accrued before d of the period x of that kind: a stub with a rate of its own earns at it
abbrev pub AccruesAs : DailyTerms → Option StubTerms → PeriodKind → ℕ → CalculationPeriod → ℤ → Frac → Option Dec → Type 0
AccruesAs t stubs kind places x d frac amount =
    (HasOwnRate kind stubs × IsAccrued places x.notional x.rate frac amount)
    ⊎ ((HasOwnRate kind stubs → ⊥) × AccruesDaily t places x d frac amount)

-- what has accrued of the period that runs on d; days and fraction are those of every stream
pub record AccruesBy (t : DailyTerms) (s : Stream) (p : Part) (d : ℤ) (number : ℕ) (days : ℤ) (frac : Frac)
    (amount : Option Dec) : Type 0 where
  pub period : CalculationPeriod
  pub runs : Runs p d number period
  pub has_run : HasRun p.day_count period.adjusted_start d period.adjusted_end days frac
  pub span : Span
  pub regular : Regular s span
  pub kind : PeriodKind
  pub is_kind : IsPeriodKind s span (length p.periods) number kind
  pub accrues : AccruesAs t s.stubs kind (decimals_of p.currency.letters) period d frac amount

-- what has accrued on d in a stream with calculation parameters
abbrev pub IsDailyAccrual : DailyTerms → Stream → Part → ℤ → Accrual → Type 0
IsDailyAccrual t s p d Outside = IsOutside p d
IsDailyAccrual t s p d (Inside number days frac amount) = AccruesBy t s p d number days frac amount

-- ---- a stream of either kind

-- by its calculation parameters, where it has them
abbrev pub IsAccrualWith : Option CalculationParameters → FloatTerms → Stream → DaySet → RateTable → Part → ℤ → Accrual
    → Type 0
IsAccrualWith None float s applicable fixings p d a = IsAccrual p d a
IsAccrualWith (Some parameters) float s applicable fixings p d a =
    IsDailyAccrual (daily_terms s.leg s.day_count float parameters applicable fixings) s p d a

-- by what it pays
abbrev pub IsAccrualBy : Leg → Stream → DaySet → RateTable → Part → ℤ → Accrual → Type 0
IsAccrualBy (Fixed values) s applicable fixings p d a = IsAccrual p d a
IsAccrualBy (Floating float) s applicable fixings p d a =
    IsAccrualWith float.parameters float s applicable fixings p d a

-- what has accrued on d in the stream s, of which p is the part of the schedule. With calculation parameters it is
-- by its daily rates, else by the rates of its periods.
abbrev pub IsAccrualOf : Stream → DaySet → RateTable → Part → ℤ → Accrual → Type 0
IsAccrualOf s applicable fixings p d a = IsAccrualBy s.leg s applicable fixings p d a
