-- When cash flows depart from a schedule, by rows and fields, and the verdict of an audit.
use Rattle.std.specs.Prelude.{◌≡◌, ℕ, ◌^◌, ◌<◌, ◌≤◌, ℤ, pos, ◌*ℤ◌, Option, Some, None, ◌+◌, ◌-◌, Bool, nat_lt, List}
use Rattle.std.specs.Prelude.{codes, option_and_then, slice_get, length, count_by, sum_by, is_none}
use Rattle.irs_base.specs.Limits.{Rounded}
use Rattle.irs_base.specs.declared.line.Dec.{Dec}
use Rattle.irs_base.specs.declared.rounding.Direction.TheVariants.{Nearest}
use Rattle.irs_base.specs.Outcomes.{level, First}
use Rattle.irs_terms.specs.declared.results.Frac.{Frac}
use Rattle.irs_terms.specs.declared.currency.Currency.{Currency}
use Rattle.irs_terms.specs.declared.results.Exchange.{Exchange}
use Rattle.irs_terms.specs.declared.results.Reset.{Reset}
use Rattle.irs_flows.specs.declared.flows.StatedFraction.{StatedFraction}
use Rattle.irs_flows.specs.declared.flows.FlowExchange.{FlowExchange}
use Rattle.irs_flows.specs.declared.flows.FlowPayment.{FlowPayment}
use Rattle.irs_flows.specs.declared.flows.FlowPeriod.{FlowPeriod}
use Rattle.irs_flows.specs.declared.flows.FlowReset.{FlowReset}
use Rattle.irs_flows.specs.FlowReading.{FlowPart}
use Rattle.irs_schedule.specs.declared.entries.PaymentEntry.{PaymentEntry}
use Rattle.irs_schedule.specs.declared.views.CalculationPeriod.{CalculationPeriod}
use Rattle.irs_schedule.specs.Parts.{Part}
use Rattle.irs_schedule.specs.RowsOf.{period_at}
use Rattle.irs_audit.specs.declared.departures.Field.{Field}
use Rattle.irs_audit.specs.declared.departures.Field.TheVariants.{UnadjustedPrincipalExchangeDate}
use Rattle.irs_audit.specs.declared.departures.Field.TheVariants.{AdjustedPrincipalExchangeDate}
use Rattle.irs_audit.specs.declared.departures.Field.TheVariants.{PrincipalExchangeAmount, UnadjustedPaymentDate}
use Rattle.irs_audit.specs.declared.departures.Field.TheVariants.{AdjustedPaymentDate, CalculationPeriod as PeriodCount}
use Rattle.irs_audit.specs.declared.departures.Field.TheVariants.{Currency as CurrencyField, Amount}
use Rattle.irs_audit.specs.declared.departures.Field.TheVariants.{UnadjustedStartDate, UnadjustedEndDate}
use Rattle.irs_audit.specs.declared.departures.Field.TheVariants.{AdjustedStartDate, AdjustedEndDate}
use Rattle.irs_audit.specs.declared.departures.Field.TheVariants.{CalculationPeriodNumberOfDays, NotionalAmount, Rate}
use Rattle.irs_audit.specs.declared.departures.Field.TheVariants.{DayCountYearFraction, ResetDate, AdjustedFixingDate}
use Rattle.irs_audit.specs.declared.departures.Field.TheVariants.{ObservedRate, Missing, Extra}
use Rattle.irs_audit.specs.declared.departures.Departure.{Departure}
use Rattle.irs_audit.specs.declared.departures.RowKind.{RowKind}
use Rattle.irs_audit.specs.declared.departures.RowKind.TheVariants.{Stream, Payment, Period}
use Rattle.irs_audit.specs.declared.departures.Verdict.{Verdict}
use Rattle.irs_audit.specs.declared.departures.Verdict.TheVariants.{Yes, No}
use Rattle.irs_audit.specs.declared.departures.RowKind.TheVariants as row_kind
use Rattle.irs_audit.specs.declared.departures.Field.TheVariants as of_field

-- ---- when a value that cash flows state is that of a schedule, and when a field of it departs

-- a number stated in units of 10^-12 is equal to `units` units of 10^-places
abbrev pub StatesNumber : ℤ → ℕ → ℤ → Type 0
StatesNumber units places stated = (stated *ℤ pos (10 ^ places)) ≡ (units *ℤ pos (10 ^ 12))

-- a stated amount is equal to one of a schedule
abbrev pub StatesAmount : Dec → ℤ → Type 0
StatesAmount v stated = StatesNumber v.units v.places stated

-- A stated fraction agrees with that of a period. With fewer than four decimals it is equal to it. With four
-- or more it is the period's fraction rounded to the nearest with that many decimals. No flows are read with
-- more than twelve.
pub record StatesFraction (f : Frac) (stated : StatedFraction) : Type 0 where
  pub decimals : stated.places ≤ 12
  pub exact : stated.places < 4 → (stated.units *ℤ f.den) ≡ (f.num *ℤ pos (10 ^ stated.places))
  pub nearest : 4 ≤ stated.places → Rounded Nearest (f.num *ℤ pos (10 ^ stated.places)) f.den stated.units

-- a field that may be left out departs where it is stated with another value
abbrev pub StatedWrongly : {Y : Type 0} → (Y → Type 0) → Option Y → Type 0
StatedWrongly Is None = ⊥
StatedWrongly Is (Some y) = ¬ (Is y)

-- a field that must be stated departs where it is left out too
abbrev pub NotStatedRightly : {Y : Type 0} → (Y → Type 0) → Option Y → Type 0
NotStatedRightly Is None = Unit {0}
NotStatedRightly Is (Some y) = ¬ (Is y)

-- what the schedule doesn't know isn't compared
abbrev pub WhereKnown : {X : Type 0} → (X → Type 0) → Option X → Type 0
WhereKnown P None = ⊥
WhereKnown P (Some x) = P x

-- ---- which fields of a row of cash flows depart from the schedule's row: one line a field

-- the fields of a principal exchange that depart
abbrev pub ExchangeDeparts : Exchange → FlowExchange → Field → Type 0
ExchangeDeparts x y UnadjustedPrincipalExchangeDate = StatedWrongly (λ d. d ≡ x.unadjusted) y.unadjusted
ExchangeDeparts x y AdjustedPrincipalExchangeDate = NotStatedRightly (λ d. d ≡ x.adjusted) y.adjusted
ExchangeDeparts x y PrincipalExchangeAmount = NotStatedRightly (StatesAmount x.amount) y.amount
ExchangeDeparts x y _ = ⊥

-- the fields of a payment, in the currency of its stream; its number of periods is always stated
abbrev pub PaymentDeparts : Currency → PaymentEntry → FlowPayment → Field → Type 0
PaymentDeparts currency x y UnadjustedPaymentDate = StatedWrongly (λ d. d ≡ x.unadjusted) y.unadjusted
PaymentDeparts currency x y AdjustedPaymentDate = NotStatedRightly (λ d. d ≡ x.adjusted) y.adjusted
PaymentDeparts currency x y PeriodCount = ¬ (y.periods ≡ x.last_period + 1 - x.first_period)
PaymentDeparts currency x y CurrencyField = StatedWrongly (λ c. c ≡ currency) y.currency
PaymentDeparts currency x y Amount = WhereKnown (λ v. NotStatedRightly (StatesAmount v) y.amount) x.amount
PaymentDeparts currency x y _ = ⊥

-- the fields of a calculation period: notionals are in units of 10^-4, rates in units of 10^-9
abbrev pub PeriodDeparts : CalculationPeriod → FlowPeriod → Field → Type 0
PeriodDeparts x y UnadjustedStartDate = StatedWrongly (λ d. d ≡ x.start) y.start
PeriodDeparts x y UnadjustedEndDate = StatedWrongly (λ d. d ≡ x.end) y.end
PeriodDeparts x y AdjustedStartDate = NotStatedRightly (λ d. d ≡ x.adjusted_start) y.adjusted_start
PeriodDeparts x y AdjustedEndDate = NotStatedRightly (λ d. d ≡ x.adjusted_end) y.adjusted_end
PeriodDeparts x y CalculationPeriodNumberOfDays = StatedWrongly (λ n. n ≡ x.days) y.days
PeriodDeparts x y NotionalAmount = StatedWrongly (StatesNumber x.notional 4) y.notional
PeriodDeparts x y Rate = WhereKnown (λ r. StatedWrongly (StatesNumber r 9) y.rate) x.rate
PeriodDeparts x y DayCountYearFraction = StatedWrongly (StatesFraction x.frac) y.fraction
PeriodDeparts x y _ = ⊥

-- the fields of a reset that depart
abbrev pub ResetDeparts : Reset → FlowReset → Field → Type 0
ResetDeparts x y ResetDate = StatedWrongly (λ d. d ≡ x.reset) y.reset
ResetDeparts x y AdjustedFixingDate = NotStatedRightly (λ d. d ≡ x.fixing) y.fixing
ResetDeparts x y ObservedRate = WhereKnown (λ r. StatedWrongly (StatesNumber r 9) y.observed) x.observed
ResetDeparts x y _ = ⊥

-- ---- the orders of departures and of fields

-- the place of a kind of rows in the order
abbrev pub kind_place : RowKind → ℕ
kind_place Stream = 0
kind_place row_kind.Exchange = 1
kind_place Payment = 2
kind_place Period = 3
kind_place row_kind.Reset = 4

-- the place of a field in the order
abbrev pub field_place : Field → ℕ
field_place Missing = 0
field_place Extra = 1
field_place UnadjustedPrincipalExchangeDate = 2
field_place AdjustedPrincipalExchangeDate = 3
field_place PrincipalExchangeAmount = 4
field_place UnadjustedPaymentDate = 5
field_place AdjustedPaymentDate = 6
field_place of_field.CalculationPeriod = 7
field_place of_field.Currency = 8
field_place Amount = 9
field_place UnadjustedStartDate = 10
field_place UnadjustedEndDate = 11
field_place AdjustedStartDate = 12
field_place AdjustedEndDate = 13
field_place CalculationPeriodNumberOfDays = 14
field_place NotionalAmount = 15
field_place Rate = 16
field_place DayCountYearFraction = 17
field_place ResetDate = 18
field_place AdjustedFixingDate = 19
field_place ObservedRate = 20

-- fields come in the order of their places
abbrev pub field_before : Field → Field → Bool
field_before f g = nat_lt (field_place f) (field_place g)

-- departures are ordered by the stream, then the kind of row, then the row, then the field
abbrev pub departs_before : Departure → Departure → Bool
departs_before d e =
    level d.stream e.stream
    (level (kind_place d.kind) (kind_place e.kind) (level d.row e.row (field_before d.field e.field)))

-- ---- the names of the kinds of rows and of the fields, as an audit and the breaks print them

-- a kind of rows
abbrev pub row_name : RowKind → List ℕ
row_name row_kind.Stream = codes "stream"
row_name row_kind.Exchange = codes "exchange"
row_name row_kind.Payment = codes "payment"
row_name row_kind.Period = codes "period"
row_name row_kind.Reset = codes "reset"

-- what departs: the row, or the field by its name in FpML
abbrev pub field_name : Field → List ℕ
field_name of_field.Missing = codes "missing"
field_name of_field.Extra = codes "extra"
field_name of_field.UnadjustedPrincipalExchangeDate = codes "unadjustedPrincipalExchangeDate"
field_name of_field.AdjustedPrincipalExchangeDate = codes "adjustedPrincipalExchangeDate"
field_name of_field.PrincipalExchangeAmount = codes "principalExchangeAmount"
field_name of_field.UnadjustedPaymentDate = codes "unadjustedPaymentDate"
field_name of_field.AdjustedPaymentDate = codes "adjustedPaymentDate"
field_name of_field.CalculationPeriod = codes "calculationPeriod"
field_name of_field.Currency = codes "currency"
field_name of_field.Amount = codes "amount"
field_name of_field.UnadjustedStartDate = codes "unadjustedStartDate"
field_name of_field.UnadjustedEndDate = codes "unadjustedEndDate"
field_name of_field.AdjustedStartDate = codes "adjustedStartDate"
field_name of_field.AdjustedEndDate = codes "adjustedEndDate"
field_name of_field.CalculationPeriodNumberOfDays = codes "calculationPeriodNumberOfDays"
field_name of_field.NotionalAmount = codes "notionalAmount"
field_name of_field.Rate = codes "rate"
field_name of_field.DayCountYearFraction = codes "dayCountYearFraction"
field_name of_field.ResetDate = codes "resetDate"
field_name of_field.AdjustedFixingDate = codes "adjustedFixingDate"
field_name of_field.ObservedRate = codes "observedRate"

-- ---- when cash flows depart from a schedule, and when they agree with it

-- A row of the schedule and one of the flows, each where there is one. One that only the schedule has is missing, and
-- one that only the flows have is extra. Where both are there, Fields compares their fields.
abbrev pub RowDeparts : {X Y : Type 0} → (X → Y → Field → Type 0) → Option X → Option Y → Field → Type 0
RowDeparts Fields (Some x) (Some y) field = Fields x y field
RowDeparts Fields (Some x) None field = field ≡ Missing
RowDeparts Fields None (Some y) field = field ≡ Extra
RowDeparts Fields None None field = ⊥

-- the reset that the flows state for the calculation period at place j
abbrev pub stated_reset_at : FlowPart → ℕ → Option FlowReset
stated_reset_at g j = option_and_then (λ y. y.reset) (slice_get g.periods j)

-- what departs between the rows of a kind at place j, from 0, in a stream that both have
abbrev pub KindDeparts : RowKind → Part → FlowPart → ℕ → Field → Type 0
KindDeparts Stream p g j field = ⊥
KindDeparts row_kind.Exchange p g j field = RowDeparts ExchangeDeparts (slice_get p.exchanges j) (slice_get g.exchanges j) field
KindDeparts Payment p g j field =
    RowDeparts (PaymentDeparts p.currency) (slice_get p.payments j) (slice_get g.payments j) field
KindDeparts Period p g j field = RowDeparts PeriodDeparts (period_at p j) (slice_get g.periods j) field
KindDeparts row_kind.Reset p g j field = RowDeparts ResetDeparts (slice_get p.resets j) (stated_reset_at g j) field

-- A stream of the schedule and one of the flows, each where there is one. Where only one of them is there, nothing else
-- departs. Rows count from 1.
abbrev pub StreamDeparts : Option Part → Option FlowPart → RowKind → ℕ → Field → Type 0
StreamDeparts (Some p) (Some g) kind row field = (0 < row) × KindDeparts kind p g (row - 1) field
StreamDeparts (Some p) None kind row field = (kind ≡ Stream) × (row ≡ 0) × (field ≡ Missing)
StreamDeparts None (Some g) kind row field = (kind ≡ Stream) × (row ≡ 0) × (field ≡ Extra)
StreamDeparts None None kind row field = ⊥

-- the flows depart from the schedule at d; streams count from 1
abbrev pub Departs : List FlowPart → List Part → Departure → Type 0
Departs f s d =
    (0 < d.stream) × StreamDeparts (slice_get s (d.stream - 1)) (slice_get f (d.stream - 1)) d.kind d.row d.field

-- the flows agree with the schedule where nothing departs
abbrev pub Agrees : List FlowPart → List Part → Type 0
Agrees f s = (d : Departure) → Departs f s d → ⊥

-- ---- the verdict of an audit

-- how many exchanges, payments, calculation periods and resets a stream has
abbrev pub stream_row_count : Part → ℕ
stream_row_count p = length p.exchanges + length p.payments + length p.periods + length p.resets

-- how many payments of a stream have no amount
abbrev pub stream_unfixed : Part → ℕ
stream_unfixed p = count_by (λ (y : PaymentEntry). is_none y.amount) p.payments

-- how many exchanges, payments, calculation periods and resets a schedule has
abbrev pub row_count : List Part → ℕ
row_count s = sum_by stream_row_count s

-- how many payments of a schedule have no amount
abbrev pub unfixed_count : List Part → ℕ
unfixed_count s = sum_by stream_unfixed s

-- the verdict on cash flows by a schedule: the first departure where something departs, else the counts
abbrev pub IsVerdict : List FlowPart → List Part → Verdict → Type 0
IsVerdict f s (Yes rows unfixed) = Agrees f s × (rows ≡ row_count s) × (unfixed ≡ unfixed_count s)
IsVerdict f s (No d) = First departs_before (Departs f s) d

-- the verdict is that the flows depart
abbrev pub IsNo : Verdict → Type 0
IsNo (Yes rows unfixed) = ⊥
IsNo (No d) = Unit {0}
