-- Private: no public contract rests on this file.
-- Of private functions: how cash flows are compared.
use Rattle.std.specs.Prelude.{ℕ, ◌*◌, ◌^◌, ◌≤◌, ℤ, unsigned_abs, IfSome, List, [], ◌∷◌, Bool, Option, Some, None}
use Rattle.std.specs.Prelude.{if◌then◌else◌, ◌≡◌, ◌-◌, ◌<◌, map}
use Rattle.irs_base.specs.declared.line.Dec.{Dec}
use Rattle.irs_base.specs.Limits.{most_numerator, most_periods}
use Rattle.irs_flows.specs.FlowReading.{FlowPart}
use Rattle.irs_schedule.specs.declared.entries.PaymentEntry.{PaymentEntry}
use Rattle.irs_schedule.specs.declared.views.CalculationPeriod.{CalculationPeriod}
use Rattle.irs_schedule.specs.Parts.{Part}
use Rattle.irs_audit.specs.declared.departures.Field.{Field}
use Rattle.irs_audit.specs.declared.departures.Departure.{Departure}
use Rattle.irs_audit.specs.declared.departures.RowKind.{RowKind}
use Rattle.irs_audit.specs.Verdicts.{KindDeparts, StreamDeparts}
use Rattle.irs_audit.specs.StatedFlows.{IsStatable, stated_part}
use Rattle.irs_audit.specs.declared.stated_rows.StatedRows.{StatedRows}
use Rattle.irs_audit.specs.declared.stated_rows.StatedStreams.{StatedStreams}
use Rattle.irs_audit.specs.declared.stated_rows.StatedRows.TheVariants as rows
use Rattle.irs_audit.specs.declared.stated_rows.StatedStreams.TheVariants as streams

-- ---- what the comparisons of rows rest on: bounds that every schedule keeps

-- the greatest numerator in units of 10^-12
abbrev pub most_scaled : ℕ
most_scaled = most_numerator * 10 ^ 12

-- a payment with its periods in order and within the limit, and an amount of at most 12 decimals
pub record IsComparedPayment (x : PaymentEntry) : Type 0 where
  pub order : x.first_period ≤ x.last_period
  pub last : x.last_period ≤ most_periods
  pub decimals : IfSome x.amount (λ v. v.places ≤ 12)

-- a rate, in units of 10^-9, can be stated in units of 10^-12
abbrev pub IsStatableRate : ℤ → Type 0
IsStatableRate rate = IsStatable rate 9

-- the notional and the rate of a period can be stated
pub record IsStatablePeriod (x : CalculationPeriod) : Type 0 where
  pub notional : IsStatable x.notional 4
  pub rate : IfSome x.rate IsStatableRate

-- ---- a table of fields in order, each with whether it departs

-- the first field that departs
abbrev pub first_true : List (Field × Bool) → Option Field
first_true [] = None
first_true (t ∷ ts) = if t.1 then Some t.0 else first_true ts

-- ---- the departures among some of the rows of a stream that both have

-- the departures among the rows of a kind, up to the row numbered `last`
pub record AmongRows (k : ℕ) (kind : RowKind) (p : Part) (g : FlowPart) (last : ℕ) (d : Departure) : Type 0 where
  pub stream : d.stream ≡ k
  pub is_kind : d.kind ≡ kind
  pub low : 0 < d.row
  pub high : d.row ≤ last
  pub departs : KindDeparts kind p g (d.row - 1) d.field

-- the departures among all rows of the stream
pub record AmongStream (k : ℕ) (p : Part) (g : FlowPart) (d : Departure) : Type 0 where
  pub stream : d.stream ≡ k
  pub low : 0 < d.row
  pub departs : KindDeparts d.kind p g (d.row - 1) d.field

-- ---- the rows that an audit compares with those of a schedule

-- the rows of flows, or those that state a stream of a schedule
abbrev pub rows_in : StatedRows → FlowPart
rows_in (rows.Flows f) = f.now
rows_in (rows.Schedule p) = stated_part p.now

-- the streams of flows, or those that state a schedule
abbrev pub flow_parts_of : StatedStreams → List FlowPart
flow_parts_of (streams.Flows fs) = fs.now
flow_parts_of (streams.Schedule ps) = map stated_part ps.now

-- ---- the departures of one stream

-- d is a departure of the stream of that number
pub record OfStream (k : ℕ) (p : Option Part) (g : Option FlowPart) (d : Departure) : Type 0 where
  pub stream : d.stream ≡ k
  pub departs : StreamDeparts p g d.kind d.row d.field
