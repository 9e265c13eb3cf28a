-- The list of breaks is the only one.
use Rattle.std.proofs.Common.{◌≡◌, inl, inr, ℕ, zero, suc, ◌+◌, Bool, true, false, List, [], ◌∷◌, length, Option, Some, None}
use Rattle.std.proofs.Common.{ℤ, sym, subst, ap, ap₂, ◌∙◌}
use Rattle.std.specs.Prelude.{slice_get, max, option_and_then, unwrap_or, ◌==◌, ◌-◌, ◌++◌}
use Rattle.irs_schedule.specs.RowsOf.{period_at}
use Rattle.irs_terms.specs.declared.results.Reset.{Reset}
use Rattle.irs_schedule.specs.Parts.{Part}
use Rattle.irs_flows.specs.FlowReading.{FlowPart}
use Rattle.irs_flows.specs.declared.flows.FlowReset.{FlowReset}
use Rattle.irs_audit.specs.declared.departures.RowKind.TheVariants as row
use Rattle.irs_breaks.specs.BreakLists.{AreExchangesOf, ArePaymentsOf, IsBreakList, IsStream, StreamAt, first_due}
use Rattle.irs_breaks.specs.BreakLists.{exchange_dates, payment_row_dates, stated_exchange_dates, stated_payment_dates}
use Rattle.irs_breaks.specs.BreakLists.{FindsExchange, AreFieldBreaks, FindsPayment, ArePeriods, ArePeriodsOf}
use Rattle.irs_breaks.specs.BreakLists.{FindsRows, IsExchangeRow, IsPaymentRow, IsPeriodRow, FindsReset, IsRow}
use Rattle.irs_breaks.specs.BreakLists.{UnlessBare, counted_reset, field_breaks, member_at, moved, payment_counts}
use Rattle.irs_breaks.specs.BreakLists.{reset_place, periods_before, break_place, our_starts, their_starts}
use Rattle.irs_breaks.specs.Findings.{AreBreaks, counts_in, exchange_fields, payment_fields, period_fields}
use Rattle.irs_breaks.specs.Findings.{reset_fields, reset_or_nothing, EachRow, Exactly, Findings, OnRow, RowAt, Then}
use Rattle.irs_breaks.specs.Findings.{UpTo, one_pair, joined_findings}
use Rattle.irs_base.specs.Days.{first_day}
use Rattle.irs_breaks.specs.declared.dated.PairedRow.{PairedRow}
use Rattle.irs_breaks.specs.declared.findings.BreakPlace.{BreakPlace}
use Rattle.irs_breaks.specs.declared.values.FieldValues.{FieldValues}
use Rattle.irs_schedule.specs.declared.entries.PaymentEntry.{PaymentEntry}
use Rattle.irs_flows.specs.declared.flows.FlowPayment.{FlowPayment}
use Rattle.irs_breaks.proofs.OnePairing.{one_pairing}

-- P holds of one list of findings at most
abbrev Only : (Findings → Type 0) → Type 0
Only P = (a b : Findings) → P a → P b → a ≡ b

only_exactly : (wanted : Findings) → Only (Exactly wanted)
only_exactly wanted a b h k = h ∙ sym k

only_then : (P Q : Findings → Type 0) → Only P → Only Q → Only (Then P Q)
only_then P Q p q a b h k =
    h.is ∙ (ap₂ joined_findings (p h.first k.first h.is_first k.is_first) (q h.second k.second h.is_second k.is_second) ∙ sym k.is)

only_up_to : (Is : ℕ → Findings → Type 0) → ((n : ℕ) → Only (Is n)) → (n : ℕ) → Only (UpTo Is n)
only_up_to Is each zero a b h k = h ∙ sym k
only_up_to Is each (suc n) a b h k = only_then (UpTo Is n) (Is n) (only_up_to Is each n) (each n) a b h k

only_on_row : {X : Type 0} (Told : X → Findings → Type 0) → ((x : X) → Only (Told x)) → (o : Option X)
    → Only (λ l. OnRow Told o l)
only_on_row Told each None a b h k = h ∙ sym k
only_on_row Told each (Some x) a b h k = each x a b h k

only_each : {X : Type 0} (Told : X → Findings → Type 0) → ((x : X) → Only (Told x)) → (rows : List X) → Only (EachRow Told rows)
only_each Told each rows a b h k =
    only_up_to (RowAt Told rows) (λ n. only_on_row Told each (slice_get rows n)) (length rows) a b h k

-- ---- fields

one_breaks : (fields a b : List FieldValues) → AreBreaks fields a → AreBreaks fields b → a ≡ b
one_breaks [] a b h k = h ∙ sym k
one_breaks (f ∷ fs) a b (inl h) (inl k) =
    h.1.1 ∙ (ap (λ (z : List FieldValues). f ∷ z) (one_breaks fs h.1.0 k.1.0 h.1.2 k.1.2) ∙ sym k.1.1)
one_breaks (f ∷ fs) a b (inl h) (inr k) = absurd (k.0 h.0)
one_breaks (f ∷ fs) a b (inr h) (inl k) = absurd (h.0 k.0)
one_breaks (f ∷ fs) a b (inr h) (inr k) = one_breaks fs a b h.1 k.1

-- each of these fields breaks at the place
abbrev broken : BreakPlace → List FieldValues → Findings
broken place fields = record { breaks = field_breaks place fields; pairs = [] }

only_fields : (place : BreakPlace) (fields : List FieldValues) → Only (AreFieldBreaks place fields)
only_fields place fields a b h k = h.2 ∙ (ap (broken place) (one_breaks fields h.0 k.0 h.1 k.1) ∙ sym k.2)

-- ---- rows

only_row : {X Y : Type 0} (Both : X → Y → Findings → Type 0) (ours : X → Findings) (theirs : Y → Findings)
    → ((x : X) (y : Y) → Only (Both x y)) → (o : Option X) (q : Option Y) → Only (IsRow Both ours theirs o q)
only_row Both ours theirs each (Some x) (Some y) a b h k = each x y a b h k
only_row Both ours theirs each (Some x) None a b h k = h ∙ sym k
only_row Both ours theirs each None (Some y) a b h k = h ∙ sym k
only_row Both ours theirs each None None a b h k = h ∙ sym k

only_told : (from : ℤ) (ours theirs : List (Option ℤ)) (Told : PairedRow → Findings → Type 0)
    → ((m : PairedRow) → Only (Told m)) → Only (FindsRows from ours theirs Told)
only_told from ours theirs Told each a b h k =
    let same = one_pairing from ours theirs h.rows k.rows h.paired k.paired in
    only_each Told each k.rows a b (subst (λ (rows : List PairedRow). EachRow Told rows a) same h.each) k.each

-- ---- exchanges

only_exchange : (stream : ℕ) (p : Part) (g : FlowPart) (m : PairedRow) → Only (IsExchangeRow stream p g m)
only_exchange stream p g m a b h k =
    only_row (FindsExchange (break_place stream row.Exchange m)) _ _
    (λ x y. only_then (Exactly (one_pair (counts_in (exchange_fields x y))))
    (AreFieldBreaks (break_place stream row.Exchange m) (exchange_fields x y)) (only_exactly _)
    (only_fields (break_place stream row.Exchange m) (exchange_fields x y)))
    (member_at p.exchanges m.ours) (member_at g.exchanges m.theirs) a b h k

-- ---- calculation periods

only_reset : (place : BreakPlace) (r : Option Reset) (s : Option FlowReset) → Only (FindsReset place r s)
only_reset place (Some r) s a b h k = only_fields (reset_place place) (reset_fields r (reset_or_nothing s)) a b h k
only_reset place None (Some y) a b h k = h ∙ sym k
only_reset place None None a b h k = h ∙ sym k

only_period : (stream : ℕ) (p : Part) (g : FlowPart) (m : PairedRow) → Only (IsPeriodRow stream p g m)
only_period stream p g m a b h k =
    let place = break_place stream row.Period m in
    let reset = member_at p.resets m.ours in
    only_row (ArePeriods place reset) _ _
    (λ x y. only_then (Exactly (one_pair (counts_in (period_fields x y ++ counted_reset reset y.reset))))
    (Then (AreFieldBreaks place (period_fields x y)) (FindsReset place reset y.reset)) (only_exactly _)
    (only_then (AreFieldBreaks place (period_fields x y)) (FindsReset place reset y.reset)
    (only_fields place (period_fields x y)) (only_reset place reset y.reset)))
    (option_and_then (period_at p) m.ours) (member_at g.periods m.theirs) a b h k

only_periods : (stream : ℕ) (p : Part) (g : FlowPart) (x : PaymentEntry) (before : ℕ) (y : FlowPayment)
    → Only (ArePeriodsOf stream p g x before y)
only_periods stream p g x before y a b h k =
    only_told first_day (our_starts p x) (their_starts g before y) _
    (λ m. only_period stream p g (moved (x.first_period - 1) before m)) a b h k

-- ---- payments

only_bare : (bare : Bool) (Told : Findings → Type 0) → Only Told → Only (UnlessBare bare Told)
only_bare true Told one a b h k = h ∙ sym k
only_bare false Told one a b h k = one a b h k

only_payment : (stream : ℕ) (p : Part) (g : FlowPart) (m : PairedRow) → Only (IsPaymentRow stream p g m)
only_payment stream p g m a b h k =
    let place = break_place stream row.Payment m in
    let before = periods_before g (unwrap_or m.theirs 0) in
    only_row (FindsPayment place p g before) _ _
    (λ x y. only_then (Exactly (one_pair (payment_counts (y.periods == 0) (counts_in (payment_fields p.currency x y)))))
    (Then (AreFieldBreaks place (payment_fields p.currency x y))
    (UnlessBare (y.periods == 0) (ArePeriodsOf stream p g x before y))) (only_exactly _)
    (only_then (AreFieldBreaks place (payment_fields p.currency x y))
    (UnlessBare (y.periods == 0) (ArePeriodsOf stream p g x before y)) (only_fields place (payment_fields p.currency x y))
    (only_bare (y.periods == 0) (ArePeriodsOf stream p g x before y) (only_periods stream p g x before y))))
    (member_at p.payments m.ours) (member_at g.payments m.theirs) a b h k

-- ---- streams

only_stream : (from : ℤ) (stream : ℕ) (o : Option Part) (q : Option FlowPart) → Only (IsStream from stream o q)
only_stream from stream (Some p) (Some g) a b h k =
    only_then (AreExchangesOf from stream p g) (ArePaymentsOf from stream p g)
    (only_told from (exchange_dates p.exchanges) (stated_exchange_dates g.exchanges) (IsExchangeRow stream p g)
    (only_exchange stream p g))
    (only_told from (payment_row_dates p.payments) (stated_payment_dates g.payments) (IsPaymentRow stream p g)
    (only_payment stream p g)) a b h k
only_stream from stream (Some p) None a b h k = h ∙ sym k
only_stream from stream None (Some g) a b h k = h ∙ sym k
only_stream from stream None None a b h k = h ∙ sym k

-- a schedule and cash flows have one list of breaks only
pub one_list : (from : Option ℤ) (s : List Part) (f : List FlowPart) (a b : Findings) → IsBreakList from s f a
    → IsBreakList from s f b → a ≡ b
one_list from s f a b h k =
    only_up_to (StreamAt (first_due from) s f)
    (λ n. only_stream (first_due from) (n + 1) (slice_get s n) (slice_get f n)) (max (length s) (length f)) a b h k
