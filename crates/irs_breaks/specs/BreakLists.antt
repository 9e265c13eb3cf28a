-- The breaks between a schedule and cash flows, row by row.
use Rattle.std.specs.Prelude.{◌≡◌, ℕ, ◌+◌, ◌-◌, min, Bool, true, false, ◌==◌, if◌then◌else◌, ℤ, List, [], ◌++◌, length}
use Rattle.std.specs.Prelude.{map, take, drop, sum_by, Option, Some, None, option_map, option_and_then, unwrap_or}
use Rattle.std.specs.Prelude.{slice_get, max}
use Rattle.irs_base.specs.Days.{first_day}
use Rattle.irs_base.specs.declared.line.Dec.{Dec}
use Rattle.irs_terms.specs.Lawful.{decimals_of}
use Rattle.irs_terms.specs.declared.results.Exchange.{Exchange}
use Rattle.irs_terms.specs.declared.results.Reset.{Reset}
use Rattle.irs_flows.specs.FlowReading.{FlowPart}
use Rattle.irs_flows.specs.declared.flows.FlowExchange.{FlowExchange}
use Rattle.irs_flows.specs.declared.flows.FlowPayment.{FlowPayment}
use Rattle.irs_flows.specs.declared.flows.FlowPeriod.{FlowPeriod}
use Rattle.irs_flows.specs.declared.flows.FlowReset.{FlowReset}
use Rattle.irs_schedule.specs.Parts.{Part}
use Rattle.irs_schedule.specs.RowsOf.{period_at}
use Rattle.irs_schedule.specs.declared.entries.PaymentEntry.{PaymentEntry}
use Rattle.irs_schedule.specs.declared.views.CalculationPeriod.{CalculationPeriod}
use Rattle.irs_audit.specs.declared.departures.RowKind.{RowKind}
use Rattle.irs_audit.specs.declared.departures.RowKind.TheVariants as row
use Rattle.irs_breaks.specs.Findings.{AreBreaks, counts_in, exchange_fields, payment_fields, period_fields}
use Rattle.irs_breaks.specs.Findings.{reset_fields, reset_or_nothing, notional_of, EachRow, Exactly, Findings, Then}
use Rattle.irs_breaks.specs.Findings.{one_pair, no_findings, one_break, UpTo}
use Rattle.irs_breaks.specs.Pairing.{IsPairing}
use Rattle.irs_breaks.specs.declared.counting.Counts.{Counts}
use Rattle.irs_breaks.specs.declared.dated.PairedRow.{PairedRow}
use Rattle.irs_breaks.specs.declared.findings.Break.{Break}
use Rattle.irs_breaks.specs.declared.findings.BreakPlace.{BreakPlace}
use Rattle.irs_breaks.specs.declared.findings.What.{What}
use Rattle.irs_breaks.specs.declared.values.FieldValues.{FieldValues}
use Rattle.irs_breaks.specs.declared.findings.What.TheVariants as what

-- ---- the findings of the rows of a stream: exchanges, payments, calculation periods and resets

-- ---- breaks

-- rows are numbered from 1
abbrev pub numbered : Option ℕ → Option ℕ
numbered place = option_map (λ n. n + 1) place

-- where a break is: the stream, the kind of row, the date and the numbers of the rows
abbrev pub break_place : ℕ → RowKind → PairedRow → BreakPlace
break_place stream kind m =
    record { stream = stream; kind = kind; day = m.day; ours = numbered m.ours; theirs = numbered m.theirs }

-- something breaks at a place
abbrev pub break_at : BreakPlace → What → Break
break_at place w = record { place = place; what = w }

-- a row of theirs alone is extra, or undated where it has no date
abbrev pub unpaired : Option ℤ → ℕ → Option ℤ → What
unpaired (Some day) places value = what.Extra places value
unpaired None places value = what.Undated places value

-- the finding of a row that only theirs has
abbrev pub theirs_alone : BreakPlace → ℕ → Option ℤ → Findings
theirs_alone place places value = one_break (break_at place (unpaired place.day places value))

-- the finding of a row that only ours has
abbrev pub ours_alone : BreakPlace → Option Dec → Findings
ours_alone place value = one_break (break_at place (what.Missing value))

-- the breaks of these fields, each at the same place
abbrev pub field_breaks : BreakPlace → List FieldValues → List Break
field_breaks place fields = map (λ f. break_at place (what.Field f)) fields

-- each field that differs is a break, in order
abbrev pub AreFieldBreaks : BreakPlace → List FieldValues → Findings → Type 0
AreFieldBreaks place fields list = (differing : List FieldValues) × AreBreaks fields differing
    × (list ≡ record { breaks = field_breaks place differing; pairs = [] })

-- ---- rows

-- the findings of a row of ours and one of theirs, or of one alone
abbrev pub IsRow : {X Y : Type 0} → (X → Y → Findings → Type 0) → (X → Findings) → (Y → Findings)
    → Option X → Option Y → Findings → Type 0
IsRow Both ours theirs (Some x) (Some y) list = Both x y list
IsRow Both ours theirs (Some x) None list = list ≡ ours x
IsRow Both ours theirs None (Some y) list = list ≡ theirs y
IsRow Both ours theirs None None list = list ≡ no_findings

-- the member at a place, where there is a place
abbrev pub member_at : {X : Type 0} → List X → Option ℕ → Option X
member_at xs place = option_and_then (λ n. slice_get xs n) place

-- the findings of two lists of rows with these dates, in the order of their pairing
pub record FindsRows (from : ℤ) (ours theirs : List (Option ℤ)) (Told : PairedRow → Findings → Type 0) (list : Findings) : Type 0 where
  pub rows : List PairedRow
  pub paired : IsPairing from ours theirs rows
  pub each : EachRow Told rows list

-- ---- principal exchanges

-- a pair of exchanges: its fields are counted, and those that differ are breaks
abbrev pub FindsExchange : BreakPlace → Exchange → FlowExchange → Findings → Type 0
FindsExchange place x y list =
    Then (Exactly (one_pair (counts_in (exchange_fields x y)))) (AreFieldBreaks place (exchange_fields x y)) list

-- the findings of a row of the pairing of exchanges
abbrev pub IsExchangeRow : ℕ → Part → FlowPart → PairedRow → Findings → Type 0
IsExchangeRow stream p g m list =
    IsRow (FindsExchange (break_place stream row.Exchange m)) (λ x. ours_alone (break_place stream row.Exchange m) (Some x.amount))
    (λ y. theirs_alone (break_place stream row.Exchange m) (decimals_of p.currency.letters) y.amount)
    (member_at p.exchanges m.ours) (member_at g.exchanges m.theirs) list

-- ---- resets

-- the place of a reset: that of its calculation periods
abbrev pub reset_place : BreakPlace → BreakPlace
reset_place place = record { stream = place.stream; kind = row.Reset; day = place.day; ours = place.ours; theirs = place.theirs }

-- the break of a reset that only theirs has: it has no number of ours
abbrev pub extra_reset : BreakPlace → FlowReset → Break
extra_reset place y =
    break_at (record { stream = place.stream; kind = row.Reset; day = place.day; ours = None; theirs = place.theirs })
    (what.Extra 9 y.observed)

-- the findings of a reset: its fields, or an extra reset that is stated for a fixed stream
abbrev pub FindsReset : BreakPlace → Option Reset → Option FlowReset → Findings → Type 0
FindsReset place (Some r) stated list = AreFieldBreaks (reset_place place) (reset_fields r (reset_or_nothing stated)) list
FindsReset place None (Some y) list = list ≡ one_break (extra_reset place y)
FindsReset place None None list = list ≡ no_findings

-- the fields of a reset that are counted: those of a floating stream
abbrev pub counted_reset : Option Reset → Option FlowReset → List FieldValues
counted_reset (Some r) stated = reset_fields r (reset_or_nothing stated)
counted_reset None stated = []

-- ---- calculation periods

-- the findings of a pair of calculation periods, followed by those of its reset
abbrev pub ArePeriods : BreakPlace → Option Reset → CalculationPeriod → FlowPeriod → Findings → Type 0
ArePeriods place reset x y list =
    Then (Exactly (one_pair (counts_in (period_fields x y ++ counted_reset reset y.reset))))
    (Then (AreFieldBreaks place (period_fields x y)) (FindsReset place reset y.reset))
    list

-- the findings of a row of the pairing of calculation periods, with its places in the stream
abbrev pub IsPeriodRow : ℕ → Part → FlowPart → PairedRow → Findings → Type 0
IsPeriodRow stream p g m list =
    IsRow (ArePeriods (break_place stream row.Period m) (member_at p.resets m.ours))
    (λ x. ours_alone (break_place stream row.Period m) (Some (notional_of x.notional)))
    (λ y. theirs_alone (break_place stream row.Period m) 4 y.notional)
    (option_and_then (period_at p) m.ours) (member_at g.periods m.theirs) list

-- how many periods come before those of the payment at a place, at most all of them
abbrev pub periods_before : FlowPart → ℕ → ℕ
periods_before g place = min (length g.periods) (sum_by (λ (y : FlowPayment). y.periods) (take place g.payments))

-- the calculation periods of a payment of ours by their adjusted starts: period i starts on boundary i - 1
abbrev pub our_starts : Part → PaymentEntry → List (Option ℤ)
our_starts p x =
    map (λ (d : ℤ). Some d) (take (x.last_period + 1 - x.first_period) (drop (x.first_period - 1) p.adjusted))

-- the stated adjusted starts of the periods of a payment of theirs, after `before` periods
abbrev pub their_starts : FlowPart → ℕ → FlowPayment → List (Option ℤ)
their_starts g before y = map (λ (z : FlowPeriod). z.adjusted_start) (take y.periods (drop before g.periods))

-- a row with its places in longer lists, which begin `ours` and `theirs` rows earlier
abbrev pub moved : ℕ → ℕ → PairedRow → PairedRow
moved ours theirs m = record {
  day = m.day;
  ours = option_map (λ n. ours + n) m.ours;
  theirs = option_map (λ n. theirs + n) m.theirs;
}

-- the findings of the periods of a pair of payments; `before` periods come before those of theirs
abbrev pub ArePeriodsOf : ℕ → Part → FlowPart → PaymentEntry → ℕ → FlowPayment → Findings → Type 0
ArePeriodsOf stream p g x before y list =
    FindsRows first_day (our_starts p x) (their_starts g before y)
    (λ m. IsPeriodRow stream p g (moved (x.first_period - 1) before m)) list

-- ---- payments

-- a payment that has no calculation periods leaves one more field unstated
abbrev pub payment_counts : Bool → Counts → Counts
payment_counts bare c = record { compared = c.compared; unstated = c.unstated + (if bare then 1 else 0); unknown = c.unknown }

-- the findings of the periods of a pair of payments: none where the payment of theirs has no periods
abbrev pub UnlessBare : Bool → (Findings → Type 0) → Findings → Type 0
UnlessBare true Told list = list ≡ no_findings
UnlessBare false Told list = Told list

-- the findings of a pair of payments, followed by those of its calculation periods
abbrev pub FindsPayment : BreakPlace → Part → FlowPart → ℕ → PaymentEntry → FlowPayment → Findings → Type 0
FindsPayment place p g before x y list =
    Then (Exactly (one_pair (payment_counts (y.periods == 0) (counts_in (payment_fields p.currency x y)))))
    (Then (AreFieldBreaks place (payment_fields p.currency x y))
    (UnlessBare (y.periods == 0) (ArePeriodsOf place.stream p g x before y)))
    list

-- the findings of a row of the pairing of payments
abbrev pub IsPaymentRow : ℕ → Part → FlowPart → PairedRow → Findings → Type 0
IsPaymentRow stream p g m list =
    IsRow (FindsPayment (break_place stream row.Payment m) p g (periods_before g (unwrap_or m.theirs 0))) (λ x. ours_alone (break_place stream row.Payment m) x.amount)
    (λ y. theirs_alone (break_place stream row.Payment m) (decimals_of p.currency.letters) y.amount)
    (member_at p.payments m.ours) (member_at g.payments m.theirs) list

-- ---- the list of the breaks between a schedule and cash flows

-- the dates of the exchanges of ours: the adjusted ones
abbrev pub exchange_dates : List Exchange → List (Option ℤ)
exchange_dates xs = map (λ (x : Exchange). Some x.adjusted) xs

-- the dates of the exchanges of theirs, where they are stated
abbrev pub stated_exchange_dates : List FlowExchange → List (Option ℤ)
stated_exchange_dates ys = map (λ (y : FlowExchange). y.adjusted) ys

-- the dates of the payments of ours
abbrev pub payment_row_dates : List PaymentEntry → List (Option ℤ)
payment_row_dates xs = map (λ (x : PaymentEntry). Some x.adjusted) xs

-- the dates of the payments of theirs, where they are stated
abbrev pub stated_payment_dates : List FlowPayment → List (Option ℤ)
stated_payment_dates ys = map (λ (y : FlowPayment). y.adjusted) ys

-- the findings of the exchanges of a stream that both have, from a day on
abbrev pub AreExchangesOf : ℤ → ℕ → Part → FlowPart → Findings → Type 0
AreExchangesOf from stream p g list =
    FindsRows from (exchange_dates p.exchanges) (stated_exchange_dates g.exchanges) (IsExchangeRow stream p g) list

-- the findings of the payments of a stream that both have, from a day on
abbrev pub ArePaymentsOf : ℤ → ℕ → Part → FlowPart → Findings → Type 0
ArePaymentsOf from stream p g list =
    FindsRows from (payment_row_dates p.payments) (stated_payment_dates g.payments) (IsPaymentRow stream p g) list

-- the finding of a stream that only one side has
abbrev pub whole_stream : ℕ → What → Findings
whole_stream stream w =
    one_break (break_at (record { stream = stream; kind = row.Stream; day = None; ours = None; theirs = None }) w)

-- A stream of ours and one of theirs, each where there is one: the exchanges, then the payments. For a stream
-- of one side alone, nothing below it is reported.
abbrev pub IsStream : ℤ → ℕ → Option Part → Option FlowPart → Findings → Type 0
IsStream from stream (Some p) (Some g) list = Then (AreExchangesOf from stream p g) (ArePaymentsOf from stream p g) list
IsStream from stream (Some p) None list = list ≡ whole_stream stream (what.Missing None)
IsStream from stream None (Some g) list = list ≡ whole_stream stream (what.Extra 0 None)
IsStream from stream None None list = list ≡ no_findings

-- the findings of the streams at a place; streams are numbered from 1
abbrev pub StreamAt : ℤ → List Part → List FlowPart → ℕ → Findings → Type 0
StreamAt from s f place list = IsStream from (place + 1) (slice_get s place) (slice_get f place) list

-- the first day to be compared: the earliest possible day where none is named
abbrev pub first_due : Option ℤ → ℤ
first_due None = first_day
first_due (Some d) = d

-- the breaks between a schedule and cash flows from a day on, and the counts: the streams in order
abbrev pub IsBreakList : Option ℤ → List Part → List FlowPart → Findings → Type 0
IsBreakList from s f list = UpTo (StreamAt (first_due from) s f) (max (length s) (length f)) list

-- there is at least one break
abbrev pub HasBreak : Findings → Type 0
HasBreak list = ¬ (list.breaks ≡ [])
