-- There is a list of breaks between any schedule and any cash flows, in that there can't be none.
use Rattle.std.proofs.Common.{ℕ, zero, suc, ◌+◌, Bool, true, false, List, [], ◌∷◌, length, Option, Some, None, ℤ, refl}
use Rattle.std.proofs.Common.{inl, inr}
use Rattle.std.specs.Prelude.{slice_get, max, option_and_then, unwrap_or, ◌==◌, ◌-◌, ◌++◌}
use Rattle.irs_base.specs.Days.{first_day}
use Rattle.irs_terms.specs.declared.results.Reset.{Reset}
use Rattle.irs_schedule.specs.RowsOf.{period_at}
use Rattle.irs_schedule.specs.Parts.{Part}
use Rattle.irs_schedule.specs.declared.entries.PaymentEntry.{PaymentEntry}
use Rattle.irs_flows.specs.FlowReading.{FlowPart}
use Rattle.irs_flows.specs.declared.flows.FlowPayment.{FlowPayment}
use Rattle.irs_flows.specs.declared.flows.FlowReset.{FlowReset}
use Rattle.irs_audit.specs.declared.departures.RowKind.TheVariants as row
use Rattle.irs_breaks.specs.BreakLists.{AreExchangesOf, ArePaymentsOf, IsBreakList, IsStream, StreamAt, first_due}
use Rattle.irs_breaks.specs.BreakLists.{exchange_dates, payment_row_dates, stated_exchange_dates, stated_payment_dates}
use Rattle.irs_breaks.specs.BreakLists.{FindsExchange, AreFieldBreaks, FindsPayment, ArePeriods, ArePeriodsOf}
use Rattle.irs_breaks.specs.BreakLists.{FindsRows, IsExchangeRow, IsPaymentRow, IsPeriodRow, FindsReset, IsRow}
use Rattle.irs_breaks.specs.BreakLists.{UnlessBare, counted_reset, field_breaks, member_at, moved, payment_counts}
use Rattle.irs_breaks.specs.BreakLists.{reset_place, periods_before, break_place, our_starts, their_starts}
use Rattle.irs_breaks.specs.BreakLists.{extra_reset, whole_stream}
use Rattle.irs_breaks.specs.Findings.{AreBreaks, counts_in, exchange_fields, payment_fields, period_fields}
use Rattle.irs_breaks.specs.Findings.{reset_fields, reset_or_nothing, EachRow, Exactly, Findings, OnRow, RowAt, Then}
use Rattle.irs_breaks.specs.Findings.{UpTo, one_break, one_pair, joined_findings, no_findings}
use Rattle.irs_breaks.specs.declared.dated.PairedRow.{PairedRow}
use Rattle.irs_breaks.specs.declared.findings.BreakPlace.{BreakPlace}
use Rattle.irs_breaks.specs.declared.findings.What.TheVariants as what
use Rattle.irs_breaks.specs.declared.values.FieldValues.{FieldValues}
use Rattle.irs_breaks.proofs.PairingThere.{pairing_there}

-- it can't be that P holds of no findings
abbrev ThereIs : (Findings → Type 0) → Type 0
ThereIs P = ((l : Findings) → P l → ⊥) → ⊥

there_exactly : (wanted : Findings) → ThereIs (Exactly wanted)
there_exactly wanted none = none wanted refl

there_then : (P Q : Findings → Type 0) → ThereIs P → ThereIs Q → ThereIs (Then P Q)
there_then P Q p q none = p (λ a first. q (λ b second. none (joined_findings a b) (record {
  first = a;
  second = b;
  is_first = first;
  is_second = second;
  is = refl;
})))

there_up_to : (Is : ℕ → Findings → Type 0) → ((n : ℕ) → ThereIs (Is n)) → (n : ℕ) → ThereIs (UpTo Is n)
there_up_to Is each zero none = none no_findings refl
there_up_to Is each (suc n) none = there_then (UpTo Is n) (Is n) (there_up_to Is each n) (each n) none

there_on_row : {X : Type 0} (Told : X → Findings → Type 0) → ((x : X) → ThereIs (Told x)) → (o : Option X)
    → ThereIs (λ l. OnRow Told o l)
there_on_row Told each None none = none no_findings refl
there_on_row Told each (Some x) none = each x none

there_each : {X : Type 0} (Told : X → Findings → Type 0) → ((x : X) → ThereIs (Told x)) → (rows : List X)
    → ThereIs (EachRow Told rows)
there_each Told each rows none =
    there_up_to (RowAt Told rows) (λ n. there_on_row Told each (slice_get rows n)) (length rows) none

-- ---- fields

breaks_there : (fields : List FieldValues) → ((breaks : List FieldValues) → AreBreaks fields breaks → ⊥) → ⊥
breaks_there [] none = none [] refl
breaks_there (f ∷ fs) none = breaks_there fs (λ rest is.
    none rest (inr (λ differs. none (f ∷ rest) (inl (differs, (rest, refl, is))), is)))

there_fields : (place : BreakPlace) (fields : List FieldValues) → ThereIs (AreFieldBreaks place fields)
there_fields place fields none = breaks_there fields (λ differing is.
    none (record { breaks = field_breaks place differing; pairs = [] }) (differing, is, refl))

-- ---- rows

there_row : {X Y : Type 0} (Both : X → Y → Findings → Type 0) (ours : X → Findings) (theirs : Y → Findings)
    → ((x : X) (y : Y) → ThereIs (Both x y)) → (o : Option X) (q : Option Y) → ThereIs (IsRow Both ours theirs o q)
there_row Both ours theirs each (Some x) (Some y) none = each x y none
there_row Both ours theirs each (Some x) None none = none (ours x) refl
there_row Both ours theirs each None (Some y) none = none (theirs y) refl
there_row Both ours theirs each None None none = none no_findings refl

there_told : (from : ℤ) (ours theirs : List (Option ℤ)) (Told : PairedRow → Findings → Type 0)
    → ((m : PairedRow) → ThereIs (Told m)) → ThereIs (FindsRows from ours theirs Told)
there_told from ours theirs Told each none = pairing_there from ours theirs (λ rows paired.
    there_each Told each rows (λ l told. none l (record { rows = rows; paired = paired; each = told })))

-- ---- exchanges

there_exchange : (stream : ℕ) (p : Part) (g : FlowPart) (m : PairedRow) → ThereIs (IsExchangeRow stream p g m)
there_exchange stream p g m none =
    there_row (FindsExchange (break_place stream row.Exchange m)) _ _
    (λ x y. there_then (Exactly (one_pair (counts_in (exchange_fields x y))))
    (AreFieldBreaks (break_place stream row.Exchange m) (exchange_fields x y)) (there_exactly _)
    (there_fields (break_place stream row.Exchange m) (exchange_fields x y)))
    (member_at p.exchanges m.ours) (member_at g.exchanges m.theirs) none

-- ---- calculation periods

there_reset : (place : BreakPlace) (r : Option Reset) (s : Option FlowReset) → ThereIs (FindsReset place r s)
there_reset place (Some r) s none = there_fields (reset_place place) (reset_fields r (reset_or_nothing s)) none
there_reset place None (Some y) none = none (one_break (extra_reset place y)) refl
there_reset place None None none = none no_findings refl

there_period : (stream : ℕ) (p : Part) (g : FlowPart) (m : PairedRow) → ThereIs (IsPeriodRow stream p g m)
there_period stream p g m none =
    let place = break_place stream row.Period m in
    let reset = member_at p.resets m.ours in
    there_row (ArePeriods place reset) _ _
    (λ x y. there_then (Exactly (one_pair (counts_in (period_fields x y ++ counted_reset reset y.reset))))
    (Then (AreFieldBreaks place (period_fields x y)) (FindsReset place reset y.reset)) (there_exactly _)
    (there_then (AreFieldBreaks place (period_fields x y)) (FindsReset place reset y.reset)
    (there_fields place (period_fields x y)) (there_reset place reset y.reset)))
    (option_and_then (period_at p) m.ours) (member_at g.periods m.theirs) none

there_periods : (stream : ℕ) (p : Part) (g : FlowPart) (x : PaymentEntry) (before : ℕ) (y : FlowPayment)
    → ThereIs (ArePeriodsOf stream p g x before y)
there_periods stream p g x before y none =
    there_told first_day (our_starts p x) (their_starts g before y) _
    (λ m. there_period stream p g (moved (x.first_period - 1) before m)) none

-- ---- payments

there_unless_bare : (bare : Bool) (Told : Findings → Type 0) → ThereIs Told → ThereIs (UnlessBare bare Told)
there_unless_bare true Told told none = none no_findings refl
there_unless_bare false Told told none = told none

there_payment : (stream : ℕ) (p : Part) (g : FlowPart) (m : PairedRow) → ThereIs (IsPaymentRow stream p g m)
there_payment stream p g m none =
    let place = break_place stream row.Payment m in
    let before = periods_before g (unwrap_or m.theirs 0) in
    there_row (FindsPayment place p g before) _ _
    (λ x y. there_then (Exactly (one_pair (payment_counts (y.periods == 0) (counts_in (payment_fields p.currency x y)))))
    (Then (AreFieldBreaks place (payment_fields p.currency x y))
    (UnlessBare (y.periods == 0) (ArePeriodsOf stream p g x before y))) (there_exactly _)
    (there_then (AreFieldBreaks place (payment_fields p.currency x y))
    (UnlessBare (y.periods == 0) (ArePeriodsOf stream p g x before y))
    (there_fields place (payment_fields p.currency x y))
    (there_unless_bare (y.periods == 0) (ArePeriodsOf stream p g x before y) (there_periods stream p g x before y))))
    (member_at p.payments m.ours) (member_at g.payments m.theirs) none

-- ---- streams

there_stream : (from : ℤ) (stream : ℕ) (o : Option Part) (q : Option FlowPart) → ThereIs (IsStream from stream o q)
there_stream from stream (Some p) (Some g) none =
    there_then (AreExchangesOf from stream p g) (ArePaymentsOf from stream p g)
    (there_told from (exchange_dates p.exchanges) (stated_exchange_dates g.exchanges) (IsExchangeRow stream p g)
    (there_exchange stream p g))
    (there_told from (payment_row_dates p.payments) (stated_payment_dates g.payments) (IsPaymentRow stream p g)
    (there_payment stream p g)) none
there_stream from stream (Some p) None none = none (whole_stream stream (what.Missing None)) refl
there_stream from stream None (Some g) none = none (whole_stream stream (what.Extra 0 None)) refl
there_stream from stream None None none = none no_findings refl

-- it can't be that a schedule and cash flows have no list of breaks
pub list_there : (from : Option ℤ) (s : List Part) (f : List FlowPart) → ((l : Findings) → IsBreakList from s f l → ⊥) → ⊥
list_there from s f none =
    there_up_to (StreamAt (first_due from) s f)
    (λ n. there_stream (first_due from) (n + 1) (slice_get s n) (slice_get f n)) (max (length s) (length f)) none
