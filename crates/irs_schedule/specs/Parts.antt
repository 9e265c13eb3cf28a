-- What is seen of a schedule: a list of parts, one a stream, with the resets and the terms of each.
use Rattle.std.specs.Prelude.{Bool, true, false, Option, Some, None, ◌≡◌, ◌⊎◌, ℕ, ◌+◌, ◌*◌, ◌^◌, ◌≤◌, if◌then◌else◌}
use Rattle.std.specs.Prelude.{List, [], length, IfSome, slice_get, unsigned_abs, ◌<◌, ◌∷◌, ℤ, pos, ◌<ℤ◌, ◌≤ℤ◌}
use Rattle.irs_base.specs.Limits.{most_rate, most_exchanges, most_numerator, most_periods, most_streams}
use Rattle.irs_base.specs.Lists.{Every, AreDays, CoverNumbers}
use Rattle.irs_base.specs.Outcomes.{First, Spec}
use Rattle.irs_terms.specs.Faults.{comes_before}
use Rattle.irs_terms.specs.declared.places.Fault.{Fault}
use Rattle.irs_base.specs.Days.{IsDay}
use Rattle.irs_base.specs.declared.line.Dec.{Dec}
use Rattle.irs_terms.specs.declared.amounts.Leg.{Leg}
use Rattle.irs_terms.specs.declared.amounts.Leg.TheVariants.{Fixed, Floating}
use Rattle.irs_terms.specs.declared.parameters.CalculationParameters.{CalculationParameters}
use Rattle.irs_terms.specs.declared.stream.Stream.{Stream}
use Rattle.irs_terms.specs.declared.amounts.FloatTerms.{FloatTerms}
use Rattle.irs_terms.specs.declared.results.Reset.{Reset}
use Rattle.irs_terms.specs.Lawful.{decimals_of, IsLawfulCurrency, IsNotional}
use Rattle.irs_terms.specs.declared.currency.Currency.{Currency}
use Rattle.irs_terms.specs.declared.codes.DayCountCode.{DayCountCode}
use Rattle.irs_terms.specs.declared.results.Exchange.{Exchange}
use Rattle.irs_calendar.specs.GoodDays.{DaySet}
use Rattle.irs_resets.specs.Resets.{resets_of, ResetSource}
use Rattle.irs_resets.specs.Rates.{RateTable}
use Rattle.irs_observed.specs.ObservedRates.{most_observed, most_period_rate}
use Rattle.irs_observed.specs.OvernightRates.{overnight_resets_of, HasBounds, daily_source}
use Rattle.irs_observed.specs.declared.daily_resets.OvernightResets.{OvernightResets}
use Rattle.irs_observed.specs.declared.overnight_rate.OvernightRate.{OvernightRate}
use Rattle.irs_observed.specs.declared.overnight_rate.OvernightRate.TheVariants.{OutOfRange}
use Rattle.irs_daycount.specs.Fractions.{denominator_of}
use Rattle.irs_compound.specs.PeriodRates.{most_rounded_rate}
use Rattle.irs_rules.specs.Parameters.{parameters_of}
use Rattle.irs_schedule.specs.declared.kept_terms.KeptTerms.{KeptTerms}
use Rattle.irs_schedule.specs.declared.entries.PaymentEntry.{PaymentEntry}
use Rattle.irs_schedule.specs.declared.entries.PeriodEntry.{PeriodEntry}

-- ---- what a schedule keeps of the terms of a stream

-- whether a stream floats, by what it pays
abbrev pub is_floating : Leg → Bool
is_floating (Fixed values) = false
is_floating (Floating float) = true

-- whether there are calculation parameters
abbrev pub are_given : Option CalculationParameters → Bool
are_given None = false
are_given (Some parameters) = true

-- whether the rates of a stream are worked out of daily rates, by what it pays
abbrev pub is_daily : Leg → Bool
is_daily leg = are_given (parameters_of leg)

-- what is kept of a stream
abbrev pub kept_terms_of : Stream → KeptTerms
kept_terms_of s = record { currency = s.currency; day_count = s.day_count; notional = s.notional; leg = s.leg }

-- ---- the resets of a stream with its observed rates, as a stage, and what holds of them

-- the resets alone, as a stage
abbrev pub resets_alone : ResetSource → RateTable → Spec OvernightResets Fault
resets_alone source fix = record {
  Answers = λ x. (resets_of source fix).Answers x.resets × (x.rates ≡ []);
  Refuses = (resets_of source fix).Refuses;
}

-- the resets with the observed rates, as a stage, by the calculation parameters
abbrev pub resets_by : FloatTerms → Option CalculationParameters → ResetSource → DaySet → RateTable
    → Spec OvernightResets Fault
resets_by float None source applicable fix = resets_alone source fix
resets_by float (Some parameters) source applicable fix =
    overnight_resets_of (daily_source source applicable float parameters) fix

-- the same by what the stream pays; or the first of K37, K48, K33 and K38 that is broken
abbrev pub resets_in : Leg → ResetSource → DaySet → RateTable → Spec OvernightResets Fault
resets_in (Fixed values) source applicable fix = resets_alone source fix
resets_in (Floating float) source applicable fix = resets_by float float.parameters source applicable fix

-- ---- bounds

-- the greatest observed rate in size, in units of 10^-9: 10, and of daily rates 3,650,365
abbrev pub most_observed_rate : Bool → ℕ
most_observed_rate daily = if daily then most_observed * 10 ^ 9 else most_rate

-- an observed rate keeps this limit
abbrev pub HasObserved : Bool → Reset → Type 0
HasObserved daily r = IfSome r.observed (λ x. unsigned_abs x ≤ most_observed_rate daily)

-- the rates of `count` periods: with calculation parameters one for each period, within their bounds
pub record HasRates (leg : Leg) (count : ℕ) (resets : List Reset) (rates : List OvernightRate) : Type 0 where
  pub many : length rates ≡ (if is_daily leg then count else 0)
  pub bounds : Every HasBounds rates
  pub observed : Every (HasObserved (is_daily leg)) resets

-- ---- a compounded factor that passes its limit

-- each daily rate of the period at place k, from 0, is there, and a compounded factor passes its limit
abbrev pub FactorPassesAt : List OvernightRate → ℕ → Type 0
FactorPassesAt rates k = slice_get rates k ≡ Some OutOfRange

-- a refusal of the amounts, or K39 at a period whose factor passes its limit; `passed` is K39 at a period, from 1
abbrev pub RefusesAmounts : {A : Type 0} → (ℕ → Fault) → List OvernightRate → Spec A Fault → Fault → Type 0
RefusesAmounts passed rates amounts f = amounts.Refuses f ⊎ ((k : ℕ) × FactorPassesAt rates k × (f ≡ passed (k + 1)))

-- the amounts, where no factor passes its limit; else the first refusal of both
abbrev pub with_factors : {A : Type 0} → (ℕ → Fault) → List OvernightRate → Spec A Fault → Spec A Fault
with_factors passed rates amounts = record {
  Answers = λ a. ((k : ℕ) → FactorPassesAt rates k → ⊥) × amounts.Answers a;
  Refuses = First comes_before (RefusesAmounts passed rates amounts);
}

-- ---- what is seen of a schedule: a list of parts, one a stream, and the bounds that each part keeps

-- one stream: period i goes from boundary i - 1 to boundary i, reset i is that of period i. Its rates are worked out of
-- daily rates where it has calculation parameters
pub record Part : Type 0 where
  pub currency : Currency
  pub day_count : DayCountCode
  pub floating : Bool
  pub daily : Bool
  pub unadjusted : List ℤ
  pub adjusted : List ℤ
  pub exchanges : List Exchange
  pub payments : List PaymentEntry
  pub periods : List PeriodEntry
  pub resets : List Reset

-- each member is after the one before it
abbrev pub RisesFrom : ℤ → List ℤ → Type 0
RisesFrom d [] = Unit {0}
RisesFrom d (x ∷ xs) = (d <ℤ x) × RisesFrom x xs

-- the list rises strictly
abbrev pub Rises : List ℤ → Type 0
Rises [] = Unit {0}
Rises (x ∷ xs) = RisesFrom x xs

-- the payments cover the periods from this one to the last, in order, without a gap
abbrev pub EntriesCover : ℕ → List PaymentEntry → ℕ → Type 0
EntriesCover next payments last =
    CoverNumbers (λ (p : PaymentEntry). p.first_period) (λ (p : PaymentEntry). p.last_period) next payments last

-- the code of a currency: three capital letters
pub record IsCode (currency : Currency) : Type 0 where
  pub three : length currency.letters ≡ 3
  pub capitals : IsLawfulCurrency currency

-- an amount of a currency: its decimals, at most 10^14 currency units in size
pub record IsAmount (currency : Currency) (v : Dec) : Type 0 where
  pub places : v.places ≡ decimals_of currency.letters
  pub size : unsigned_abs v.units ≤ 10 ^ 14 * 10 ^ v.places

-- the amount of a payment, where it is known, is one of the currency
abbrev pub HasAmount : Currency → PaymentEntry → Type 0
HasAmount currency y = IfSome y.amount (IsAmount currency)

-- both dates of a principal exchange are days of the range
abbrev pub IsDatedExchange : Exchange → Type 0
IsDatedExchange x = IsDay x.unadjusted × IsDay x.adjusted

-- both dates of a payment are days of the range
abbrev pub IsDatedPayment : PaymentEntry → Type 0
IsDatedPayment y = IsDay y.unadjusted × IsDay y.adjusted

-- the reset date and the fixing date of a reset are days of the range
abbrev pub IsDatedReset : Reset → Type 0
IsDatedReset r = IsDay r.reset × IsDay r.fixing

-- every date of the part is a day of the range
pub record HasDays (p : Part) : Type 0 where
  pub unadjusted : AreDays p.unadjusted
  pub adjusted : AreDays p.adjusted
  pub exchanges : Every IsDatedExchange p.exchanges
  pub payments : Every IsDatedPayment p.payments
  pub resets : Every IsDatedReset p.resets

-- the greatest rate of a period in size, in units of 10^-9: 110, and of daily rates 36,503,660
abbrev pub most_entry_rate : Bool → ℕ
most_entry_rate daily = if daily then most_period_rate else most_rounded_rate

-- a period within the limits of days and amounts
pub record IsEntry (daily : Bool) (code : DayCountCode) (e : PeriodEntry) : Type 0 where
  pub days : (pos 0 ≤ℤ e.days) × (e.days ≤ℤ pos most_numerator)
  pub notional : IsNotional e.notional
  pub numerator : (pos 0 ≤ℤ e.frac.num) × (e.frac.num ≤ℤ pos most_numerator)
  pub denominator : e.frac.den ≡ denominator_of code
  pub rate : IfSome e.rate (λ r. unsigned_abs r ≤ most_entry_rate daily)

-- what every part keeps
pub record KeepsBounds (p : Part) : Type 0 where
  pub currency : IsCode p.currency
  pub dates : HasDays p
  pub some : 0 < length p.periods
  pub few : length p.periods ≤ most_periods
  pub unadjusted : length p.unadjusted ≡ length p.periods + 1
  pub adjusted : length p.adjusted ≡ length p.periods + 1
  pub rises : Rises p.unadjusted
  pub adjusted_rises : Rises p.adjusted
  pub covers : EntriesCover 1 p.payments (length p.periods)
  pub exchanges : length p.exchanges ≤ most_exchanges
  pub exchanged : Every (λ x. IsAmount p.currency x.amount) p.exchanges
  pub paid : Every (HasAmount p.currency) p.payments
  pub entries : Every (IsEntry p.daily p.day_count) p.periods
  pub resets : length p.resets ≡ (if p.floating then length p.periods else 0)
  pub observed : Every (HasObserved p.daily) p.resets

-- what every schedule keeps
pub record IsWithin (parts : List Part) : Type 0 where
  pub some : 0 < length parts
  pub few : length parts ≤ most_streams
  pub each : Every KeepsBounds parts
