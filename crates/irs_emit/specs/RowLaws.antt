-- Emitted cash flows read back as the flows that state the schedule.
use Rattle.std.specs.Prelude.{◌≡◌, ◌/◌, ◌^◌, ◌<◌, ◌≤◌, ℤ, pos, ◌≤ℤ◌, unsigned_abs, Some, option_map, true, ℕ, length}
use Rattle.std.specs.Prelude.{Option, IfSome, List, slice_get}
use Rattle.serde_json.specs.Data.{Data}
use Rattle.irs_base.specs.Days.{IsDay}
use Rattle.irs_base.specs.declared.line.Dec.{Dec}
use Rattle.irs_base.specs.Lists.{Every}
use Rattle.irs_terms.specs.declared.currency.Currency.{Currency}
use Rattle.irs_terms.specs.declared.results.Frac.{Frac}
use Rattle.irs_terms.specs.declared.results.Exchange.{Exchange}
use Rattle.irs_terms.specs.declared.results.Reset.{Reset}
use Rattle.irs_json.specs.Reading.{Reads}
use Rattle.irs_elements.specs.Leaves.{leaf_date_at, currency_at, is_currency}
use Rattle.irs_elements.specs.Numbers.{fraction_at, amount_at, whole_at}
use Rattle.irs_read.specs.Readings.{said}
use Rattle.irs_flows.specs.FlowReading.{stated, exchange_in, payment_in, period_in, flow_reset_in, flow_part_in}
use Rattle.irs_flows.specs.FlowReading.{FlowsOf}
use Rattle.irs_schedule.specs.Parts.{Part, KeepsBounds}
use Rattle.irs_schedule.specs.declared.entries.PaymentEntry.{PaymentEntry}
use Rattle.irs_schedule.specs.declared.views.CalculationPeriod.{CalculationPeriod}
use Rattle.irs_schedule.specs.RowsOf.{period_at}
use Rattle.irs_audit.specs.StatedFlows.{stated_amount, stated_fraction, stated_number, stated_exchange, stated_payment}
use Rattle.irs_audit.specs.StatedFlows.{stated_period, stated_reset, stated_flows, stated_part}
use Rattle.irs_audit.specs.Verdicts.{IsVerdict, row_count, unfixed_count}
use Rattle.irs_audit.specs.declared.departures.Verdict.TheVariants.{Yes}
use Rattle.irs_emit.specs.Emitted.{amount_leaf, count_leaf, currency_leaf, day_leaf, fraction_leaf, notional_leaf}
use Rattle.irs_emit.specs.Emitted.{rate_leaf, exchange_value, observation_value, payment_value, period_value}
use Rattle.irs_emit.specs.Emitted.{stream_value}

-- ---- each leaf reads back as its value, by the rules of cash flows

-- a date reads back as its day number
abbrev pub DayReadsBack : Type 0
DayReadsBack = (d : ℤ) → IsDay d → said leaf_date_at (Some (day_leaf d)) ≡ Some d

-- an amount with at most 18 digits before the point reads back
abbrev pub AmountReadsBack : Type 0
AmountReadsBack =
    (v : Dec) → v.places ≤ 12 → unsigned_abs v.units / 10 ^ v.places < 10 ^ 18
    → said amount_at (Some (amount_leaf v)) ≡ Some (stated_amount v)

-- a notional with at most 18 digits before the point reads back
abbrev pub NotionalReadsBack : Type 0
NotionalReadsBack =
    (units : ℤ) → unsigned_abs units / 10 ^ 4 < 10 ^ 18
    → said amount_at (Some (notional_leaf units)) ≡ Some (stated_number units 4)

-- a rate with at most 18 digits before the point reads back
abbrev pub RateReadsBack : Type 0
RateReadsBack =
    (units : ℤ) → unsigned_abs units / 10 ^ 9 < 10 ^ 18
    → said amount_at (Some (rate_leaf units)) ≡ Some (stated_number units 9)

-- a number of days below 10^9 in size reads back
abbrev pub CountReadsBack : Type 0
CountReadsBack = (n : ℤ) → unsigned_abs n < 10 ^ 9 → said whole_at (Some (count_leaf n)) ≡ Some n

-- a fraction that isn't negative and is below 10^18 reads back, with 10 decimals
abbrev pub FractionReadsBack : Type 0
FractionReadsBack =
    (f : Frac) → pos 0 ≤ℤ (stated_fraction f).units → unsigned_abs (stated_fraction f).units / 10 ^ 10 < 10 ^ 18
    → option_map stated (said fraction_at (Some (fraction_leaf f))) ≡ Some (stated_fraction f)

-- a currency of three capital letters reads back
abbrev pub CurrencyReadsBack : Type 0
CurrencyReadsBack = (c : Currency) → is_currency c.letters ≡ true → said currency_at (Some (currency_leaf c)) ≡ Some c

-- ---- each row reads back as the flow that states it

-- a number has at most 18 digits before its point
abbrev pub IsShortNumber : ℤ → ℕ → Type 0
IsShortNumber units places = unsigned_abs units / 10 ^ places < 10 ^ 18

-- an amount of at most 12 decimals and few digits
abbrev pub IsShortAmount : Dec → Type 0
IsShortAmount v = (v.places ≤ 12) × IsShortNumber v.units v.places

-- a rate of few digits
abbrev pub IsShortRate : ℤ → Type 0
IsShortRate units = IsShortNumber units 9

-- an exchange with days of the range and a short amount
pub record IsExchangeShort (x : Exchange) : Type 0 where
  pub unadjusted : IsDay x.unadjusted
  pub adjusted : IsDay x.adjusted
  pub amount : IsShortAmount x.amount

-- a reset with days of the range and a short rate
pub record IsResetShort (r : Reset) : Type 0 where
  pub reset : IsDay r.reset
  pub fixing : IsDay r.fixing
  pub observed : IfSome r.observed IsShortRate

-- a calculation period with days of the range and short numbers
pub record IsPeriodShort (x : CalculationPeriod) : Type 0 where
  pub start : IsDay x.start
  pub «end» : IsDay x.«end»
  pub adjusted_start : IsDay x.adjusted_start
  pub adjusted_end : IsDay x.adjusted_end
  pub days : unsigned_abs x.days < 10 ^ 9
  pub notional : IsShortNumber x.notional 4
  pub rate : IfSome x.rate IsShortRate
  pub fraction : pos 0 ≤ℤ (stated_fraction x.frac).units
  pub short : IsShortNumber (stated_fraction x.frac).units 10

-- a payment of a part: its periods are among those of the part
pub record IsPaymentShort (p : Part) (y : PaymentEntry) : Type 0 where
  pub currency : is_currency p.currency.letters ≡ true
  pub unadjusted : IsDay y.unadjusted
  pub adjusted : IsDay y.adjusted
  pub first : 1 ≤ y.first_period
  pub order : y.first_period ≤ y.last_period
  pub last : y.last_period ≤ length p.periods
  pub amount : IfSome y.amount IsShortAmount

-- the object of an exchange states the exchange
abbrev pub ExchangeReadsBack : Type 0
ExchangeReadsBack = (x : Exchange) → IsExchangeShort x → exchange_in (exchange_value x) ≡ stated_exchange x

-- the object of an observation states the reset
abbrev pub ResetReadsBack : Type 0
ResetReadsBack = (r : Reset) → IsResetShort r → flow_reset_in (observation_value r) ≡ stated_reset r

-- the object of a calculation period states the period, with its reset
abbrev pub PeriodReadsBack : Type 0
PeriodReadsBack =
    (x : CalculationPeriod) (reset : Option Reset) → IsPeriodShort x → IfSome reset IsResetShort
    → period_in (period_value x reset) ≡ stated_period x reset

-- the object of a payment states the payment, with the number of its periods
abbrev pub PaymentReadsBack : Type 0
PaymentReadsBack =
    (p : Part) (y : PaymentEntry) → IsPaymentShort p y → payment_in (payment_value p y) ≡ stated_payment p.currency y

-- ---- the value of a stream, and that of a schedule, states the flows of the schedule

-- a part whose rows are short
pub record IsPartShort (p : Part) : Type 0 where
  pub bounds : KeepsBounds p
  pub exchanges : Every IsExchangeShort p.exchanges
  pub payments : Every (IsPaymentShort p) p.payments
  pub periods : (j : ℕ) → IfSome (period_at p j) IsPeriodShort
  pub resets : (j : ℕ) → IfSome (slice_get p.resets j) IsResetShort

-- the object of a stream states the flows of its part
abbrev pub StreamReadsBack : Type 0
StreamReadsBack = (p : Part) → IsPartShort p → flow_part_in (stream_value p) ≡ stated_part p

-- The bytes read as a value that has no fault of the tables of cash flows. It states exactly the flows that
-- state the schedule, and the audit of these flows is yes.
pub record StatesFlows (bytes : List ℕ) (s : List Part) : Type 0 where
  pub value : Data
  pub reads : Reads bytes value
  pub flows : FlowsOf value (stated_flows s)
  pub audit : IsVerdict (stated_flows s) s (Yes (row_count s) (unfixed_count s))
