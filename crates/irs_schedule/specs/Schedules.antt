-- What a schedule is, and the first rule of dates and amounts that is broken where there is none.
use Rattle.std.specs.Prelude.{◌≡◌, ◌+◌, List, length, map, ℤ, ℕ, ◌-◌, [], Option, Some, None, slice_get, ◌==◌}
use Rattle.std.specs.Prelude.{option_map, option_and_then, Bool}
use Rattle.std.specs.List.{range_with_len}
use Rattle.irs_base.specs.Lists.{EachNumbered, Pairs, Every, day_at}
use Rattle.irs_base.specs.declared.line.Dec.{Dec}
use Rattle.irs_terms.specs.Elements.{calculation_period_amount}
use Rattle.irs_base.specs.Outcomes.{Spec, ◌>>=◌, answer, each_in_turn, given_by, refused_as}
use Rattle.irs_terms.specs.Faults.{fault_at, in_stream}
use Rattle.irs_base.specs.Outcomes.{RefusesNothing}
use Rattle.irs_terms.specs.declared.places.Broken.{Broken}
use Rattle.irs_terms.specs.declared.places.Fault.{Fault}
use Rattle.irs_terms.specs.declared.places.Rule.TheVariants.{K39}
use Rattle.irs_terms.specs.declared.results.Payment.{Payment}
use Rattle.irs_terms.specs.declared.stream.Stream.{Stream}
use Rattle.irs_terms.specs.declared.stream_list.Swap.{Swap}
use Rattle.irs_terms.specs.declared.results.Reset.{Reset}
use Rattle.irs_terms.specs.declared.amounts.FloatTerms.{FloatTerms}
use Rattle.irs_terms.specs.declared.amounts.Leg.{Leg}
use Rattle.irs_terms.specs.declared.amounts.Leg.TheVariants.{Fixed, Floating}
use Rattle.irs_terms.specs.declared.parameters.CalculationParameters.{CalculationParameters}
use Rattle.irs_terms.specs.Lawful.{decimals_of}
use Rattle.irs_calendar.specs.declared.sections.Section.{Section}
use Rattle.irs_calendar.specs.GoodDays.{DaySet}
use Rattle.irs_periods.specs.Boundaries.{AdjustedList, Boundaries, adjusted_of, boundaries_of, regular_span_of}
use Rattle.irs_periods.specs.Spans.{Regular}
use Rattle.irs_payments.specs.Payments.{ArePayments, payments_of, principals_of, steps_of}
use Rattle.irs_payments.specs.Exchanges.{AreExchanges}
use Rattle.irs_resets.specs.Rates.{RateTable}
use Rattle.irs_resets.specs.Resets.{source_of, IsResets, ResetSource}
use Rattle.irs_observed.specs.declared.overnight_rate.OvernightRate.{OvernightRate}
use Rattle.irs_observed.specs.OvernightRates.{AreOvernightResets, daily_source}
use Rattle.irs_observed.specs.declared.daily_resets.OvernightResets.{OvernightResets}
use Rattle.irs_daycount.specs.Fractions.{Days, Fraction, days_of, fraction_of}
use Rattle.irs_compound.specs.PeriodRates.{InForce, AreRatesIn, value_in_force, rates_in}
use Rattle.irs_compound.specs.Amounts.{AmountOf, payment_amount_of}
use Rattle.irs_compound.specs.declared.periods.PeriodTerm.{PeriodTerm}
use Rattle.irs_schedule.specs.declared.entries.PaymentEntry.{PaymentEntry}
use Rattle.irs_schedule.specs.Parts.{is_daily, is_floating, Part, kept_terms_of, resets_in, with_factors}
use Rattle.irs_schedule.specs.DaySets.{StreamSets, stream_sets}
use Rattle.irs_schedule.specs.declared.layouts.Layout.{Layout}
use Rattle.irs_schedule.specs.declared.entries.PeriodEntry.{PeriodEntry}
use Rattle.irs_schedule.specs.declared.kept_terms.KeptTerms.{KeptTerms}
use Rattle.irs_schedule.specs.declared.stream.StreamEvents.{StreamEvents}

-- ---- what a schedule is: the list of parts, one a stream, that the terms, the calendars and the fixings determine
-- Here s is a stream, p its part, sets its business days, and fix the fixings.

-- ---- the regular span and the boundaries

-- the span is the stream's regular one, and the lists are its boundaries and these adjusted
pub record IsLayout (sets : StreamSets) (s : Stream) (l : Layout) : Type 0 where
  pub regular : Regular s l.span
  pub unadjusted : Boundaries s l.span l.unadjusted
  pub adjusted : AdjustedList s sets.boundaries l.unadjusted l.adjusted

-- ---- what periods are worked out of

-- what the periods of a stream are worked out of: its terms, its unadjusted and adjusted boundaries, its resets.
-- With calculation parameters its observed rates are there too, not rounded.
pub record StreamDates : Type 0 where
  pub stream : Stream
  pub unadjusted : List ℤ
  pub adjusted : List ℤ
  pub resets : List Reset
  pub rates : List OvernightRate

-- the stream with these boundaries, unadjusted and adjusted, these resets and these rates
abbrev pub dates_of : Stream → List ℤ → List ℤ → List Reset → List OvernightRate → StreamDates
dates_of s unadjusted adjusted resets rates = record {
  stream = s;
  unadjusted = unadjusted;
  adjusted = adjusted;
  resets = resets;
  rates = rates;
}

-- the stream with the boundaries and the resets of its part
abbrev pub part_dates : Stream → Part → List OvernightRate → StreamDates
part_dates s p rates = dates_of s p.unadjusted p.adjusted p.resets rates

-- ---- the resets

-- x are the resets of a floating stream and its observed rates by its calculation parameters.
-- Without these its rates are those of the resets alone.
abbrev pub AreResetsBy : FloatTerms → Option CalculationParameters → ResetSource → DaySet → RateTable → OvernightResets
    → Type 0
AreResetsBy float None source applicable fix x = IsResets source fix x.resets × (x.rates ≡ [])
AreResetsBy float (Some parameters) source applicable fix x =
    AreOvernightResets (daily_source source applicable float parameters) fix x

-- the same by what the stream pays
abbrev pub AreResetsIn : Leg → ResetSource → DaySet → RateTable → OvernightResets → Type 0
AreResetsIn (Fixed values) source applicable fix x = IsResets source fix x.resets × (x.rates ≡ [])
AreResetsIn (Floating float) source applicable fix x = AreResetsBy float float.parameters source applicable fix x

-- ---- the periods, counted from 1

-- the rate that was observed for period i
abbrev pub observed_of : List Reset → ℕ → Option ℤ
observed_of resets i = option_and_then (λ r. r.observed) (slice_get resets (i - 1))

-- the observed rate of period i that isn't rounded; none without calculation parameters
abbrev pub rate_in : List OvernightRate → ℕ → Option OvernightRate
rate_in rates i = slice_get rates (i - 1)

-- notional, rates and fraction of period i; the last period is the last of the stream
pub record IsPeriodTerm (d : StreamDates) (i : ℕ) (t : PeriodTerm) : Type 0 where
  pub notional : InForce d.stream.notional (day_at d.unadjusted (i - 1)) t.notional
  pub rates : AreRatesIn d.stream.leg (day_at d.unadjusted (i - 1)) (observed_of d.resets i) (rate_in d.rates i) t.rates
  pub frac : Fraction d.stream.day_count (day_at d.adjusted (i - 1)) (day_at d.adjusted i)
      (i == length d.adjusted - 1) t.frac

-- what a schedule says of period i
pub record IsPeriodEntry (d : StreamDates) (i : ℕ) (e : PeriodEntry) : Type 0 where
  pub term : PeriodTerm
  pub is_term : IsPeriodTerm d i term
  pub days : Days d.stream.day_count (day_at d.adjusted (i - 1)) (day_at d.adjusted i)
      (i == length d.adjusted - 1) e.days
  pub frac : e.frac ≡ term.frac
  pub notional : e.notional ≡ term.notional
  pub rate : e.rate ≡ option_map (λ r. r.all_in) term.rates

-- ---- the payments

-- the terms of the periods of a payment, in order
pub record AreTerms (d : StreamDates) (p : Payment) (terms : List PeriodTerm) : Type 0 where
  pub count : p.first_period + length terms ≡ p.last_period + 1
  pub each : EachNumbered (IsPeriodTerm d) p.first_period terms

-- a decimal of these units and this number of decimals
abbrev pub dec_of : ℕ → ℤ → Dec
dec_of places units = record { units = units; places = places }

-- the amount of a payment in the decimals of the stream's currency; absent where the rate of one of
-- its periods is
abbrev pub IsAmountBy : Stream → List PeriodTerm → Option Dec → Type 0
IsAmountBy s terms None = AmountOf s.compounding terms (decimals_of s.currency.letters) None
IsAmountBy s terms (Some v) =
    (v.places ≡ decimals_of s.currency.letters)
    × AmountOf s.compounding terms (decimals_of s.currency.letters) (Some v.units)

-- the amount of a payment, by the terms of its periods
pub record IsAmountFor (d : StreamDates) (p : Payment) (amount : Option Dec) : Type 0 where
  pub terms : List PeriodTerm
  pub are_terms : AreTerms d p terms
  pub is_amount : IsAmountBy d.stream terms amount

-- the payment without its amount
abbrev pub payment_of : PaymentEntry → Payment
payment_of y = record {
  unadjusted = y.unadjusted;
  adjusted = y.adjusted;
  first_period = y.first_period;
  last_period = y.last_period;
}

-- what a schedule says of a payment: the amount that its periods give
abbrev pub IsPaymentEntry : StreamDates → PaymentEntry → Type 0
IsPaymentEntry d y = IsAmountFor d (payment_of y) y.amount

-- ---- the schedule

-- p is the part of the stream: every list and every field is in its relation
pub record IsPart (sets : StreamSets) (fix : RateTable) (s : Stream) (p : Part) : Type 0 where
  pub currency : p.currency ≡ s.currency
  pub day_count : p.day_count ≡ s.day_count
  pub floating : p.floating ≡ is_floating s.leg
  pub daily : p.daily ≡ is_daily s.leg
  pub layout : Layout
  pub is_layout : IsLayout sets s layout
  pub unadjusted : p.unadjusted ≡ layout.unadjusted
  pub adjusted : p.adjusted ≡ layout.adjusted
  pub exchanges : AreExchanges s sets.payment p.exchanges
  pub payments : ArePayments s sets.payment p.unadjusted p.adjusted (map payment_of p.payments)
  pub rates : List OvernightRate
  pub amounts : Every (IsPaymentEntry (part_dates s p rates)) p.payments
  pub count : length p.periods + 1 ≡ length p.unadjusted
  pub periods : EachNumbered (IsPeriodEntry (part_dates s p rates)) 1 p.periods
  pub resets : AreResetsIn s.leg (source_of s layout.span p.adjusted sets.reset sets.fixing)
      sets.applicable fix (record { resets = p.resets; rates = rates })

-- one part for each stream of the swap, in order
abbrev pub IsSchedule : Swap → List Section → RateTable → List Part → Type 0
IsSchedule swap cal fix parts = Pairs (λ s p. IsPart (stream_sets cal s) fix s p) swap.streams parts

-- ---- what is worked out for a calculation period, counted from 1

-- how many periods lie between boundaries
abbrev pub period_count : List ℤ → ℕ
period_count boundaries = length boundaries - 1

-- period i starts on boundary i - 1
abbrev pub start_of : List ℤ → ℕ → ℤ
start_of boundaries i = day_at boundaries (i - 1)

-- a period from its adjusted start to its adjusted end, by whether it is the last one, its unadjusted start and its
-- observed rate
abbrev pub entry_by : KeptTerms → ℤ → ℤ → Bool → ℤ → Option ℤ → Option OvernightRate → PeriodEntry
entry_by terms from to last start observed overnight = record {
  days = days_of terms.day_count from to last;
  frac = fraction_of terms.day_count from to last;
  notional = value_in_force terms.notional start;
  rate = option_map (λ r. r.all_in) (rates_in terms.leg start observed overnight);
}

-- period i runs from adjusted boundary i - 1 to adjusted boundary i; notional and rate are those on its unadjusted
-- start
abbrev pub period_by : KeptTerms → List ℤ → List ℤ → List Reset → List OvernightRate → ℕ → PeriodEntry
period_by terms unadjusted adjusted resets rates i =
    entry_by terms (start_of adjusted i) (day_at adjusted i) (i == period_count adjusted) (start_of unadjusted i)
    (observed_of resets i) (slice_get rates (i - 1))

-- the periods between adjusted boundaries
abbrev pub periods_by : KeptTerms → List ℤ → List ℤ → List Reset → List OvernightRate → List PeriodEntry
periods_by terms unadjusted adjusted resets rates =
    map (period_by terms unadjusted adjusted resets rates) (range_with_len 1 (period_count adjusted))

-- ---- what the calculation periods of a stream are worked out of, from a layout and from a table

-- the stream with the boundaries of a layout and these resets
abbrev pub layout_dates : Stream → Layout → List Reset → List OvernightRate → StreamDates
layout_dates s l resets rates = dates_of s l.unadjusted l.adjusted resets rates

-- ---- what a stream and a swap come to: a schedule, or the first rule of their dates and amounts that is broken
-- Each specification is a chain of those of the stages, in the order in which they are worked out.

-- the layout of a stream: its regular span, its boundaries, and these adjusted; or the first of K30 to K34
abbrev pub layout_of : StreamSets → Stream → Spec Layout Fault
layout_of sets s = do
  span ← regular_span_of s
  unadjusted ← boundaries_of s span
  adjusted ← adjusted_of s sets.boundaries unadjusted
  answer (record { span = span; unadjusted = unadjusted; adjusted = adjusted })

-- its payments over a layout, where each step is on a boundary; or the first of K35, K33 and K38, or else of K36
abbrev pub payment_dates_of : StreamSets → Stream → Layout → Spec (List Payment) Fault
payment_dates_of sets s l = do
  payments ← payments_of s sets.payment l.unadjusted l.adjusted
  on_boundaries ← steps_of s l.unadjusted
  answer payments

-- what the resets over a layout are worked out from
abbrev pub resets_over : StreamSets → Stream → Layout → ResetSource
resets_over sets s l = source_of s l.span l.adjusted sets.reset sets.fixing

-- its payments, principal exchanges, resets and observed rates; or the first broken rule.
-- The order is payments, steps, exchanges (K33), resets (K37, K48, K33, K38).
abbrev pub events_of : StreamSets → RateTable → Stream → Layout → Spec StreamEvents Fault
events_of sets fix s l = do
  payments ← payment_dates_of sets s l
  exchanges ← principals_of s sets.payment
  observed ← resets_in s.leg (resets_over sets s l) sets.applicable fix
  answer (record { payments = payments; exchanges = exchanges; resets = observed.resets; rates = observed.rates })

-- K39 at a period
abbrev pub passed_at : ℕ → Fault
passed_at period = fault_at K39 calculation_period_amount period

-- a payment with this amount
abbrev pub paying : Payment → Option Dec → PaymentEntry
paying p amount = record {
  unadjusted = p.unadjusted;
  adjusted = p.adjusted;
  first_period = p.first_period;
  last_period = p.last_period;
  amount = amount;
}

-- a payment with its amount, in the decimals of the currency; or K39 at the first of its periods that leaves its range
abbrev pub entry_of : StreamDates → Payment → Spec PaymentEntry Fault
entry_of d p = do
  terms ← given_by (AreTerms d p)
  units ← refused_as (λ n. passed_at (p.first_period + n - 1))
      (payment_amount_of d.stream.compounding terms (decimals_of d.stream.currency.letters))
  answer (paying p (option_map (dec_of (decimals_of d.stream.currency.letters)) units))

-- payments with their amounts; or K39 at the first period of the first payment that has one
abbrev pub entries_of : StreamDates → List Payment → Spec (List PaymentEntry) Fault
entries_of d payments = each_in_turn (λ _ p. entry_of d p) 1 payments

-- a stream in a schedule
abbrev pub part_over : Stream → Layout → StreamEvents → List PaymentEntry → Part
part_over s l events entries = record {
  currency = s.currency;
  day_count = s.day_count;
  floating = is_floating s.leg;
  daily = is_daily s.leg;
  unadjusted = l.unadjusted;
  adjusted = l.adjusted;
  exchanges = events.exchanges;
  payments = entries;
  periods = periods_by (kept_terms_of s) l.unadjusted l.adjusted events.resets events.rates;
  resets = events.resets;
}

-- the part of a stream; or the first of K30 to K39 and K48 that it breaks. The layout comes first, then the events,
-- then the amounts.
unfoldable pub stream_of : StreamSets → RateTable → Stream → Spec Part Fault
stream_of sets fix s = do
  layout ← layout_of sets s
  events ← events_of sets fix s layout
  entries ← with_factors passed_at events.rates
      (entries_of (layout_dates s layout events.resets events.rates) events.payments)
  answer (part_over s layout events entries)

-- the schedule of a swap; or the first rule that its streams break, one after another, with the stream's number
unfoldable pub schedule_of : Swap → List Section → RateTable → Spec (List Part) Broken
schedule_of swap cal fix =
    each_in_turn (λ n s. refused_as (in_stream n) (stream_of (stream_sets cal s) fix s)) 1 swap.streams

-- ---- the rules of a swap's dates and amounts, K30 to K39 and K48, and the first of them that is broken

-- no rule of the swap is broken
abbrev pub DatedKept : Swap → List Section → RateTable → Type 0
DatedKept swap cal fix = RefusesNothing (schedule_of swap cal fix)

-- x is the first broken rule of the swap
abbrev pub DatedBroken : Swap → List Section → RateTable → Broken → Type 0
DatedBroken swap cal fix x = (schedule_of swap cal fix).Refuses x
