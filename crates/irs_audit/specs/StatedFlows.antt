-- The cash flows that state a schedule.
use Rattle.std.specs.Prelude.{ℕ, ◌+◌, ◌-◌, ◌^◌, ℤ, pos, ◌*ℤ◌, List, [], ◌∷◌, map, Option, Some, option_map, slice_get}
use Rattle.std.specs.Prelude.{◌*◌, ◌≤◌, unsigned_abs, ◌≤ℤ◌, ◌<ℤ◌}
use Rattle.irs_base.specs.Limits.{rounded, most_numerator}
use Rattle.irs_base.specs.declared.line.Dec.{Dec}
use Rattle.irs_base.specs.declared.rounding.Direction.TheVariants.{Nearest}
use Rattle.irs_terms.specs.declared.currency.Currency.{Currency}
use Rattle.irs_terms.specs.declared.results.Exchange.{Exchange}
use Rattle.irs_terms.specs.declared.results.Frac.{Frac}
use Rattle.irs_terms.specs.declared.results.Reset.{Reset}
use Rattle.irs_flows.specs.FlowReading.{FlowPart}
use Rattle.irs_flows.specs.declared.flows.FlowExchange.{FlowExchange}
use Rattle.irs_flows.specs.declared.flows.FlowPayment.{FlowPayment}
use Rattle.irs_flows.specs.declared.flows.FlowPeriod.{FlowPeriod}
use Rattle.irs_flows.specs.declared.flows.FlowReset.{FlowReset}
use Rattle.irs_flows.specs.declared.flows.StatedFraction.{StatedFraction}
use Rattle.irs_daycount.specs.Fractions.{act_act_denominator}
use Rattle.irs_schedule.specs.Parts.{Part}
use Rattle.irs_schedule.specs.RowsOf.{dated_period}
use Rattle.irs_schedule.specs.declared.entries.PaymentEntry.{PaymentEntry}
use Rattle.irs_schedule.specs.declared.entries.PeriodEntry.{PeriodEntry}
use Rattle.irs_schedule.specs.declared.views.CalculationPeriod.{CalculationPeriod}

-- ---- the cash flows that state each row of a schedule, and each field of it that the schedule knows

-- units of 10^-places in units of 10^-12, where there are at most 12 places
abbrev pub stated_number : ℤ → ℕ → ℤ
stated_number units places = units *ℤ pos (10 ^ (12 - places))

-- an amount in units of 10^-12
abbrev pub stated_amount : Dec → ℤ
stated_amount v = stated_number v.units v.places

-- a fraction is stated with 10 decimals, rounded to the nearest
abbrev pub stated_fraction : Frac → StatedFraction
stated_fraction f = record { units = rounded Nearest (f.num *ℤ pos (10 ^ 10)) f.den; places = 10 }

-- a principal exchange, with its sign
abbrev pub stated_exchange : Exchange → FlowExchange
stated_exchange x = record {
  unadjusted = Some x.unadjusted;
  adjusted = Some x.adjusted;
  amount = Some (stated_amount x.amount);
}

-- a payment in the currency of its stream; an amount that isn't known isn't stated
abbrev pub stated_payment : Currency → PaymentEntry → FlowPayment
stated_payment currency y = record {
  unadjusted = Some y.unadjusted;
  adjusted = Some y.adjusted;
  periods = y.last_period + 1 - y.first_period;
  currency = Some currency;
  amount = option_map stated_amount y.amount;
}

-- the observation of a reset; a rate that isn't known isn't stated
abbrev pub stated_reset : Reset → FlowReset
stated_reset r = record {
  reset = Some r.reset;
  fixing = Some r.fixing;
  observed = option_map (λ rate. stated_number rate 9) r.observed;
}

-- a calculation period with what is stated of its reset
abbrev pub period_with : CalculationPeriod → Option FlowReset → FlowPeriod
period_with x reset = record {
  start = Some x.start;
  end = Some x.end;
  adjusted_start = Some x.adjusted_start;
  adjusted_end = Some x.adjusted_end;
  days = Some x.days;
  notional = Some (stated_number x.notional 4);
  rate = option_map (λ r. stated_number r 9) x.rate;
  fraction = Some (stated_fraction x.frac);
  reset = reset;
}

-- a calculation period, with its reset on a floating stream
abbrev pub stated_period : CalculationPeriod → Option Reset → FlowPeriod
stated_period x reset = period_with x (option_map stated_reset reset)

-- these periods of a stream, of which the first is at place j, from 0
abbrev pub stated_periods_from : Part → ℕ → List PeriodEntry → List FlowPeriod
stated_periods_from p j [] = []
stated_periods_from p j (e ∷ es) =
    stated_period (dated_period p (j + 1) e) (slice_get p.resets j) ∷ stated_periods_from p (j + 1) es

-- the flows of a stream
abbrev pub stated_part : Part → FlowPart
stated_part p = record {
  exchanges = map stated_exchange p.exchanges;
  payments = map (stated_payment p.currency) p.payments;
  periods = stated_periods_from p 0 p.periods;
}

-- the flows of a schedule: a row for each of its rows
abbrev pub stated_flows : List Part → List FlowPart
stated_flows s = map stated_part s

-- ---- what the comparisons of rows rest on: bounds that every schedule keeps

-- a number, in units of 10^-places, that can be stated in units of 10^-12: at most 10^14 in size
pub record IsStatable (units : ℤ) (places : ℕ) : Type 0 where
  pub decimals : places ≤ 12
  pub size : unsigned_abs units ≤ 10 ^ 14 * 10 ^ places

-- an amount can be stated in units of 10^-12
abbrev pub IsStatableDec : Dec → Type 0
IsStatableDec v = IsStatable v.units v.places

-- a fraction within the bounds of periods
pub record IsBoundedFraction (f : Frac) : Type 0 where
  pub numerator : (pos 0 ≤ℤ f.num) × (f.num ≤ℤ pos most_numerator)
  pub denominator : (pos 0 <ℤ f.den) × (f.den ≤ℤ pos act_act_denominator)
