-- Where nothing breaks, nothing is unstated and each pair has one number, the flows agree with the schedule.
use Rattle.std.proofs.Common.{◌≡◌, inl, inr, ℕ, zero, suc, ◌+◌, ◌-◌, ◌<◌, ◌≤◌, Bool, true, false, List, [], ◌∷◌, ◌++◌, length, get_or}
use Rattle.std.proofs.Common.{take, drop, Option, Some, None, ℤ, arith, refl, sym, subst, ap, ◌∙◌}
use Rattle.std.specs.Prelude.{slice_get, option_map, option_and_then, max, ◌==◌, sum_by, IfSome, unwrap_or, if◌then◌else◌}
use Rattle.std.proofs.lemmas.Bool.{cases_lt, eq-eqb}
use Rattle.std.proofs.lemmas.List.Sums.{sum_by-cons, sum_by_more, sum_by-take-le}
use Rattle.std.proofs.lemmas.Option.{get_or_from_slice_get, none-some, same_Some, slice_get_cases, slice_get_past, slice_get_within}
use Rattle.irs_base.specs.Days.{IsDay, first_day}
use Rattle.irs_base.specs.Lists.{AreDays, Every, Pairs}
use Rattle.irs_base.proofs.MemberLemmas.{every_get}
use Rattle.irs_base.proofs.Orders.{true_le}
use Rattle.irs_base.specs.declared.line.Dec.{Dec}
use Rattle.irs_terms.specs.Lawful.{decimals_of}
use Rattle.irs_terms.specs.declared.currency.Currency.{Currency}
use Rattle.irs_terms.specs.declared.results.Exchange.{Exchange}
use Rattle.irs_terms.specs.declared.results.Reset.{Reset}
use Rattle.irs_schedule.specs.Parts.{EntriesCover, IsDatedExchange, IsDatedPayment, IsWithin, KeepsBounds, Part}
use Rattle.irs_schedule.specs.RowsOf.{dated_period, period_at}
use Rattle.irs_schedule.specs.declared.entries.PaymentEntry.{PaymentEntry}
use Rattle.irs_schedule.specs.declared.entries.PeriodEntry.{PeriodEntry}
use Rattle.irs_schedule.specs.declared.views.CalculationPeriod.{CalculationPeriod}
use Rattle.irs_audit.specs.Verdicts.{Agrees, KindDeparts, RowDeparts, StreamDeparts, ExchangeDeparts, PaymentDeparts}
use Rattle.irs_audit.specs.Verdicts.{PeriodDeparts, ResetDeparts, StatesAmount, StatesNumber, NotStatedRightly}
use Rattle.irs_audit.specs.Verdicts.{StatedWrongly, WhereKnown}
use Rattle.irs_flows.specs.FlowReading.{FlowsAreWithin, KeepsFlowBounds, FlowPart}
use Rattle.irs_audit.specs.declared.departures.Field.{Field}
use Rattle.irs_audit.specs.declared.departures.Field.TheVariants as field
use Rattle.irs_audit.specs.declared.departures.RowKind.{RowKind}
use Rattle.irs_audit.specs.declared.departures.RowKind.TheVariants as row
use Rattle.irs_flows.specs.declared.flows.FlowExchange.{FlowExchange}
use Rattle.irs_flows.specs.declared.flows.FlowPayment.{FlowPayment}
use Rattle.irs_flows.specs.declared.flows.FlowPeriod.{FlowPeriod}
use Rattle.irs_flows.specs.declared.flows.FlowReset.{FlowReset}
use Rattle.irs_breaks.specs.BreakLists.{AreExchangesOf, ArePaymentsOf, HasBreak, IsBreakList, IsStream, StreamAt}
use Rattle.irs_breaks.specs.BreakLists.{FindsExchange, AreFieldBreaks, FindsPayment, ArePeriods, ArePeriodsOf}
use Rattle.irs_breaks.specs.BreakLists.{IsExchangeRow, IsPaymentRow, IsPeriodRow, FindsReset, IsRow, UnlessBare}
use Rattle.irs_breaks.specs.BreakLists.{break_at, counted_reset, extra_reset, member_at, moved, our_starts, ours_alone}
use Rattle.irs_breaks.specs.BreakLists.{payment_counts, periods_before, break_place, reset_place, their_starts}
use Rattle.irs_breaks.specs.BreakLists.{theirs_alone}
use Rattle.irs_breaks.specs.Pairing.{is_due}
use Rattle.irs_breaks.specs.Findings.{counts_in, number_of, same_standing, exchange_fields, notional_of, payment_fields}
use Rattle.irs_breaks.specs.Findings.{period_fields, rate_decimal, reset_fields, reset_or_nothing, Exactly, Findings}
use Rattle.irs_breaks.specs.Findings.{Then, one_pair, Differ, standing_of, stands_by}
use Rattle.irs_breaks.specs.Laws.{HaveOneNumber, PairsHaveOneNumber, RowsHaveOneNumber}
use Rattle.irs_breaks.specs.declared.counting.Counts.{Counts}
use Rattle.irs_breaks.specs.declared.dated.PairedRow.{PairedRow}
use Rattle.irs_breaks.specs.declared.findings.BreakPlace.{BreakPlace}
use Rattle.irs_breaks.specs.declared.findings.What.TheVariants as what
use Rattle.irs_breaks.specs.declared.values.FieldValues.{FieldValues}
use Rattle.irs_breaks.specs.declared.values.Standing.TheVariants.{Unstated}
use Rattle.irs_breaks.specs.declared.values.Values.TheVariants.{Numbers}
use Rattle.irs_breaks.proofs.Agreed.{Match, get_part, nat_same, pairs_at, take_few}
use Rattle.irs_breaks.proofs.Partners.{AreQuiet, has_partner, is_partner}
use Rattle.irs_breaks.proofs.PaymentPlaces.{HasCount, payment_at}
use Rattle.irs_breaks.proofs.Quiet.{IsQuiet, IsSettled, extra_loud, missing_loud, quiet_counted, quiet_then, quiet_up_to}
use Rattle.irs_breaks.proofs.Quiet.{settled, told_loud, unstated_append}

-- ---- settled fields don't depart

-- a field that must be stated doesn't depart where it is settled
must_settled : {Y : Type 0} (Is : Y → Type 0) (s : Option Y) → ¬ (StatedWrongly Is s)
    → same_standing (stands_by s) Unstated ≡ false → NotStatedRightly Is s → ⊥
must_settled Is None same told h = absurd (cc)
must_settled Is (Some y) same told h = same h

-- nor does an amount, whether or not it is known
amount_settled : (o : Option Dec) (s : Option ℤ) → ¬ (Differ (Numbers o s))
    → same_standing (standing_of (Numbers o s)) Unstated ≡ false → WhereKnown (λ v. NotStatedRightly (StatesAmount v) s) o → ⊥
amount_settled None s same told h = h
amount_settled (Some v) s same told h = must_settled (StatesAmount v) s same told h

-- nor does a rate
rate_settled : (o : Option ℤ) (s : Option ℤ) → ¬ (Differ (Numbers (rate_decimal o) s))
    → WhereKnown (λ r. StatedWrongly (StatesNumber r 9) s) o → ⊥
rate_settled None s same h = h
rate_settled (Some r) s same h = same h

-- no field of an exchange departs
exchange_settled : (x : Exchange) (y : FlowExchange) → Every IsSettled (exchange_fields x y) → (f : Field)
    → ExchangeDeparts x y f → ⊥
exchange_settled x y h field.UnadjustedPrincipalExchangeDate d = h.0.same d
exchange_settled x y h field.AdjustedPrincipalExchangeDate d =
    must_settled (λ (e : ℤ). e ≡ x.adjusted) y.adjusted h.1.0.same h.1.0.told d
exchange_settled x y h field.PrincipalExchangeAmount d =
    must_settled (StatesAmount x.amount) y.amount h.1.1.0.same h.1.1.0.told d
exchange_settled x y h _ d = absurd d

-- no field of a payment does, where the number of its periods is right
payment_settled : (currency : Currency) (x : PaymentEntry) (y : FlowPayment)
    → Every IsSettled (payment_fields currency x y) → HasCount x y → (f : Field) → PaymentDeparts currency x y f → ⊥
payment_settled currency x y h count field.UnadjustedPaymentDate d = h.0.same d
payment_settled currency x y h count field.AdjustedPaymentDate d =
    must_settled (λ (e : ℤ). e ≡ x.adjusted) y.adjusted h.1.0.same h.1.0.told d
payment_settled currency x y h count field.CalculationPeriod d = d count
payment_settled currency x y h count field.Currency d = h.1.1.0.same d
payment_settled currency x y h count field.Amount d =
    amount_settled x.amount y.amount h.1.1.1.0.same h.1.1.1.0.told d
payment_settled currency x y h count _ d = absurd d

-- no field of a period does
period_settled : (x : CalculationPeriod) (y : FlowPeriod) → Every IsSettled (period_fields x y) → (f : Field)
    → PeriodDeparts x y f → ⊥
period_settled x y h field.UnadjustedStartDate d = h.0.same d
period_settled x y h field.UnadjustedEndDate d = h.1.0.same d
period_settled x y h field.AdjustedStartDate d =
    must_settled (λ (e : ℤ). e ≡ x.adjusted_start) y.adjusted_start h.1.1.0.same h.1.1.0.told d
period_settled x y h field.AdjustedEndDate d =
    must_settled (λ (e : ℤ). e ≡ x.adjusted_end) y.adjusted_end h.1.1.1.0.same h.1.1.1.0.told d
period_settled x y h field.CalculationPeriodNumberOfDays d = h.1.1.1.1.0.same d
period_settled x y h field.NotionalAmount d = h.1.1.1.1.1.0.same d
period_settled x y h field.Rate d = rate_settled x.rate y.rate h.1.1.1.1.1.1.0.same d
period_settled x y h field.DayCountYearFraction d = h.1.1.1.1.1.1.1.0.same d
period_settled x y h _ d = absurd d

-- no field of a reset does
reset_fields_settled : (x : Reset) (y : FlowReset) → Every IsSettled (reset_fields x y) → (f : Field)
    → ResetDeparts x y f → ⊥
reset_fields_settled x y h field.ResetDate d = h.0.same d
reset_fields_settled x y h field.AdjustedFixingDate d =
    must_settled (λ (e : ℤ). e ≡ x.fixing) y.fixing h.1.0.same h.1.0.told d
reset_fields_settled x y h field.ObservedRate d = rate_settled x.observed y.observed h.1.1.0.same d
reset_fields_settled x y h _ d = absurd d

-- a reset without a `rateObservation` leaves its date unstated; a `rateObservation` of a fixed stream breaks
reset_settled : (place : BreakPlace) (r : Option Reset) (s : Option FlowReset) (a : Findings) → FindsReset place r s a
    → IsQuiet a → number_of Unstated (counted_reset r s) ≡ 0 → (f : Field) → RowDeparts ResetDeparts r s f → ⊥
reset_settled place (Some r) (Some y) a h q zeros f d =
    reset_fields_settled r y (settled (reset_place place) (reset_fields r y) a h q zeros) f d
reset_settled place (Some r) None a h q zeros f d =
    let each = settled (reset_place place) (reset_fields r (reset_or_nothing None)) a h q zeros in
    let told = each.0.told in
    absurd (cc)
reset_settled place None (Some y) a h q zeros f d = told_loud (extra_reset place y) a h q
reset_settled place None None a h q zeros f d = d

-- ---- pairs

-- what a row reports that both sides have
both_rows : {X Y : Type 0} (Both : X → Y → Findings → Type 0) (ours : X → Findings) (theirs : Y → Findings)
    (o : Option X) (q : Option Y) (x : X) (y : Y) (a : Findings) → o ≡ Some x → q ≡ Some y → IsRow Both ours theirs o q a
    → Both x y a
both_rows Both ours theirs None q x y a e f h = absurd (none-some x e)
both_rows Both ours theirs (Some z) None x y a e f h = absurd (none-some y f)
both_rows {X = X} {Y = Y} Both ours theirs (Some z) (Some w) x y a e f h =
    subst (λ (v : Y). Both x v a) (same_Some w y f) (subst (λ (v : X). Both v w a) (same_Some z x e) h)

-- the fields of a pair of exchanges are settled
exchange_pair : (place : BreakPlace) (x : Exchange) (y : FlowExchange) (a : Findings) → FindsExchange place x y a
    → IsQuiet a → Every IsSettled (exchange_fields x y)
exchange_pair place x y a h q =
    let parts = quiet_then (Exactly (one_pair (counts_in (exchange_fields x y)))) (AreFieldBreaks place (exchange_fields x y)) a h q in
    settled place (exchange_fields x y) h.second h.is_second parts.1
    (quiet_counted (counts_in (exchange_fields x y)) h.first h.is_first parts.0)

-- a pair of payments: its fields are settled, it has periods, and these report nothing
record IsPair (stream : ℕ) (p : Part) (g : FlowPart) (before : ℕ) (x : PaymentEntry) (y : FlowPayment) : Type 0 where
  fields : Every IsSettled (payment_fields p.currency x y)
  some : 0 < y.periods
  all : Findings
  periods : ArePeriodsOf stream p g x before y all
  quiet : IsQuiet all

-- a payment without periods leaves a field unstated
bare_pair : (stream : ℕ) (p : Part) (g : FlowPart) (before : ℕ) (x : PaymentEntry) (y : FlowPayment) (bare : Bool)
    (a : Findings) → (y.periods == 0) ≡ bare → (payment_counts bare (counts_in (payment_fields p.currency x y))).unstated ≡ 0
    → Every IsSettled (payment_fields p.currency x y) → UnlessBare bare (ArePeriodsOf stream p g x before y) a → IsQuiet a
    → IsPair stream p g before x y
bare_pair stream p g before x y true a e zeros fields h q = absurd (omega (arith, zeros))
bare_pair stream p g before x y false a e zeros fields h q = record {
  fields = fields;
  some = elim (cases_lt 0 y.periods) [
    | inl low ↦ low
    | inr high ↦ let none : y.periods ≡ 0 = omega (arith, high) in let yes = eq-eqb y.periods 0 none in absurd (cc)
  ];
  all = a;
  periods = h;
  quiet = q;
}

-- the counts of a payment are those of its fields at least
fields_zero : (bare : Bool) (fields : List FieldValues) → (payment_counts bare (counts_in fields)).unstated ≡ 0
    → number_of Unstated fields ≡ 0
fields_zero true fields zeros = absurd (omega (arith, zeros))
fields_zero false fields zeros = omega (arith, zeros)

-- a pair of payments whose findings are quiet
payment_pair : (place : BreakPlace) (p : Part) (g : FlowPart) (before : ℕ) (x : PaymentEntry) (y : FlowPayment) (a : Findings)
    → FindsPayment place p g before x y a → IsQuiet a → IsPair place.stream p g before x y
payment_pair place p g before x y a h q =
    let fields = payment_fields p.currency x y in
    let first = quiet_then (Exactly (one_pair (payment_counts (y.periods == 0) (counts_in fields))))
    (Then (AreFieldBreaks place fields) (UnlessBare (y.periods == 0) (ArePeriodsOf place.stream p g x before y))) a h q in
    let rest = quiet_then (AreFieldBreaks place fields) (UnlessBare (y.periods == 0) (ArePeriodsOf place.stream p g x before y))
    h.second h.is_second first.1 in
    let zeros = quiet_counted (payment_counts (y.periods == 0) (counts_in fields)) h.first h.is_first first.0 in
    bare_pair place.stream p g before x y (y.periods == 0) h.is_second.second refl zeros
    (settled place fields h.is_second.first h.is_second.is_first rest.0 (fields_zero (y.periods == 0) fields zeros))
    h.is_second.is_second rest.1

-- the fields of a pair of periods and of its reset don't depart
period_pair : (place : BreakPlace) (reset : Option Reset) (x : CalculationPeriod) (y : FlowPeriod) (a : Findings)
    → ArePeriods place reset x y a → IsQuiet a
    → ((f : Field) → PeriodDeparts x y f → ⊥) × ((f : Field) → RowDeparts ResetDeparts reset y.reset f → ⊥)
period_pair place reset x y a h q =
    let fields = period_fields x y in
    let first = quiet_then (Exactly (one_pair (counts_in (fields ++ counted_reset reset y.reset))))
    (Then (AreFieldBreaks place fields) (FindsReset place reset y.reset)) a h q in
    let rest = quiet_then (AreFieldBreaks place fields) (FindsReset place reset y.reset) h.second h.is_second first.1 in
    let zeros = unstated_append fields (counted_reset reset y.reset)
    (quiet_counted (counts_in (fields ++ counted_reset reset y.reset)) h.first h.is_first first.0) in (
      period_settled x y (settled place fields h.is_second.first h.is_second.is_first rest.0 zeros.0),
      reset_settled place reset y.reset h.is_second.second h.is_second.is_second rest.1 zeros.1,
    )

-- ---- places

-- the day at a place of a list of days
days_get : (days : List ℤ) (k : ℕ) (d : ℤ) → AreDays days → slice_get days k ≡ Some d → IsDay d
days_get [] k d h at = absurd (none-some d at)
days_get (x ∷ xs) zero d h at = subst IsDay (same_Some x d at) h.0
days_get (x ∷ xs) (suc k) d h at = days_get xs k d h.1 at

-- a day of the range is due from the first day on
due_first : (d : ℤ) → IsDay d → is_due first_day d ≡ true
due_first d h = true_le first_day d h.0

-- so is a stated one
due_stated : (s : Option ℤ) → IfSome s IsDay → IfSome s (λ d. is_due first_day d ≡ true)
due_stated None h = tt
due_stated (Some d) h = due_first d h

-- each period belongs to a payment
covering : (from last : ℕ) (xs : List PaymentEntry) (j : ℕ) → EntriesCover from xs last → from ≤ j + 1 → j < last
    → (n : ℕ) × (x : PaymentEntry) × (slice_get xs n ≡ Some x) × (x.first_period ≤ j + 1) × (j + 1 ≤ x.last_period)
covering from last [] j h low high = let empty = h in absurd (omega (arith, empty, low, high))
covering from last (x ∷ xs) j h low high = elim (cases_lt x.last_period (j + 1)) [
  | inl behind ↦
      let rest = covering (x.last_period + 1) last xs j h.2 (omega (arith, behind)) high in
      (suc rest.0, rest.1, rest.2, rest.3, rest.4)
  | inr within ↦ let first = h.0 in (zero, x, refl, omega (arith, first, low), omega (arith, within))
]

-- payments with the right numbers of periods have all periods of the stream together
all_counted : (from last : ℕ) (xs : List PaymentEntry) (ys : List FlowPayment) → EntriesCover from xs last → Pairs HasCount xs ys
    → from + sum_by (λ (y : FlowPayment). y.periods) ys ≡ last + 1
all_counted from last [] [] h same = let empty = h in omega (arith, empty)
all_counted from last [] (y ∷ ys) h same = absurd same
all_counted from last (x ∷ xs) [] h same = absurd same
all_counted from last (x ∷ xs) (y ∷ ys) h same =
    let rest = all_counted (x.last_period + 1) last xs ys h.2 same.1 in
    let more = sum_by-cons (λ (w : FlowPayment). w.periods) y ys in
    let first = h.0 in
    let order = h.1 in
    let count = same.0 in
    omega (arith, rest, more, first, order, count)

-- a member of a part of a list is one of the list
part_member : {X : Type 0} (i k j : ℕ) (xs : List X) (x : X) → slice_get (take k (drop i xs)) j ≡ Some x
    → (j < k) × (slice_get xs (i + j) ≡ Some x)
part_member i k j xs x at =
    let few = take_few k (drop i xs) in
    let within = slice_get_within (take k (drop i xs)) j x at in
    let low : j < k = omega (arith, few, within) in
    (low, sym (get_part i k j xs low) ∙ at)

-- and the other way round
member_part : {X : Type 0} (i k j : ℕ) (xs : List X) (x : X) → j < k → slice_get xs (i + j) ≡ Some x
    → slice_get (take k (drop i xs)) j ≡ Some x
member_part i k j xs x low at = get_part i k j xs low ∙ at

-- there is a member within the length
member_within : {X : Type 0} (xs : List X) (n : ℕ) → n < length xs → (x : X) × (slice_get xs n ≡ Some x)
member_within xs n low = elim (slice_get_cases xs n).1 [
  | inl w ↦ (w.0, w.2)
  | inr w ↦ let past = w.0 in absurd (omega (arith, low, past))
]

-- a stream has a reset for each period, or none
few_resets : (floating : Bool) (periods resets : ℕ) → resets ≡ (if floating then periods else 0) → resets ≤ periods
few_resets true periods resets h = omega (arith, h)
few_resets false periods resets h = omega (arith, h)

-- the place of a whole stream
abbrev stream_place : ℕ → BreakPlace
stream_place stream = record { stream = stream; kind = row.Stream; day = None; ours = None; theirs = None }

-- ---- a stream that both have

module _ (p : Part) (g : FlowPart) (bounds : KeepsBounds p) (flows : KeepsFlowBounds g)
    (numbers : RowsHaveOneNumber first_day p g) (stream : ℕ) where
  -- the exchanges of a stream, where they report nothing
  quiet_exchanges : (l : Findings) → AreExchangesOf first_day stream p g l → IsQuiet l
      → AreQuiet first_day p.exchanges g.exchanges (λ (x : Exchange). x.adjusted) (λ (y : FlowExchange). y.adjusted)
      (IsExchangeRow stream p g)
  quiet_exchanges l h q = record {
    all = l;
    are_told = h;
    quiet = q;
    our_dates = λ n x at. due_first x.adjusted (every_get IsDatedExchange p.exchanges n x bounds.dates.exchanges at).1;
    their_dates = λ n y at. due_stated y.adjusted
        (every_get (λ (z : FlowExchange). IfSome z.adjusted IsDay) g.exchanges n y flows.exchanges at);
    missing = λ n x d a at told quiet.
        let m : PairedRow = record { day = Some d; ours = Some n; theirs = None } in
        missing_loud (FindsExchange (break_place stream row.Exchange m)) (break_place stream row.Exchange m) (λ (z : Exchange). Some z.amount)
        _ (slice_get p.exchanges n) x a at told quiet;
    extra = λ n y date a at told quiet.
        let m : PairedRow = record { day = date; ours = None; theirs = Some n } in
        extra_loud (FindsExchange (break_place stream row.Exchange m))
        (λ (z : Exchange). ours_alone (break_place stream row.Exchange m) (Some z.amount)) (break_place stream row.Exchange m) (decimals_of p.currency.letters)
        (λ (z : FlowExchange). z.amount) (slice_get g.exchanges n) y a at told quiet;
  }

  -- no exchange departs
  exchange_agrees : (l : Findings) → AreExchangesOf first_day stream p g l → IsQuiet l → (n : ℕ) (o : Option Exchange)
      (q : Option FlowExchange) → slice_get p.exchanges n ≡ o → slice_get g.exchanges n ≡ q → (f : Field)
      → RowDeparts ExchangeDeparts o q f → ⊥
  exchange_agrees l h quiet n (Some x) (Some y) e f name d =
      has_partner first_day p.exchanges g.exchanges (λ (x : Exchange). x.adjusted)
      (λ (y : FlowExchange). y.adjusted) (IsExchangeRow stream p g) (quiet_exchanges l h quiet) n x e
      (λ s z a pair at told calm.
      let same : s.place ≡ n = let number = numbers.exchanges _ s pair in omega (arith, number) in
      let there : z ≡ y = same_Some z y (sym at ∙ (ap (λ (k : ℕ). slice_get g.exchanges k) same ∙ f)) in
      let m : PairedRow = record { day = Some x.adjusted; ours = Some n; theirs = Some s.place } in
      let both = both_rows (FindsExchange (break_place stream row.Exchange m))
      (λ (w : Exchange). ours_alone (break_place stream row.Exchange m) (Some w.amount))
      (λ (w : FlowExchange). theirs_alone (break_place stream row.Exchange m) (decimals_of p.currency.letters) w.amount) (slice_get p.exchanges n) (slice_get g.exchanges s.place)
      x z a e at told in
      exchange_settled x z (exchange_pair (break_place stream row.Exchange m) x z a both calm) name
      (subst (λ (w : FlowExchange). ExchangeDeparts x w name) (sym there) d))
  exchange_agrees l h quiet n (Some x) None e f name d =
      has_partner first_day p.exchanges g.exchanges (λ (x : Exchange). x.adjusted)
      (λ (y : FlowExchange). y.adjusted) (IsExchangeRow stream p g) (quiet_exchanges l h quiet) n x e
      (λ s z a pair at told calm.
      let same : s.place ≡ n = let number = numbers.exchanges _ s pair in omega (arith, number) in
      none-some z (sym f ∙ (sym (ap (λ (k : ℕ). slice_get g.exchanges k) same) ∙ at)))
  exchange_agrees l h quiet n None (Some y) e f name d =
      is_partner first_day p.exchanges g.exchanges (λ (x : Exchange). x.adjusted)
      (λ (y : FlowExchange). y.adjusted) (IsExchangeRow stream p g) (quiet_exchanges l h quiet) n y f
      (λ r x day pair at.
      let same : r.place ≡ n = let number = numbers.exchanges r _ pair in omega (arith, number) in
      none-some x (sym e ∙ (sym (ap (λ (k : ℕ). slice_get p.exchanges k) same) ∙ at)))
  exchange_agrees l h quiet n None None e f name d = d

  -- ---- the periods of a pair of payments

  -- theirs are within the periods of the stream
  periods_within : (n : ℕ) (y : FlowPayment) → slice_get g.payments n ≡ Some y
      → periods_before g n + y.periods ≤ length g.periods
  periods_within n y at =
      let within = slice_get_within g.payments n y at in
      let more = sum_by_more (λ (w : FlowPayment). w.periods) g.payments n y within in
      let member : get_or g.payments n y ≡ y = get_or_from_slice_get g.payments n y y at in
      let count : (get_or g.payments n y).periods ≡ y.periods = ap (λ (w : FlowPayment). w.periods) member in
      let high = sum_by-take-le (λ (w : FlowPayment). w.periods) g.payments (n + 1) in
      let all = flows.periods in
      omega (arith, more, count, high, all)

  -- the adjusted starts of the periods of a payment of ours
  abbrev our_days : PaymentEntry → List ℤ
  our_days x = take (x.last_period + 1 - x.first_period) (drop (x.first_period - 1) p.adjusted)

  -- the periods of a payment of theirs, where this many come before them
  abbrev their_periods : ℕ → FlowPayment → List FlowPeriod
  their_periods b y = take y.periods (drop b g.periods)

  -- a row of the periods of a pair of payments
  abbrev PeriodRow : PaymentEntry → ℕ → PairedRow → Findings → Type 0
  PeriodRow x b m list = IsPeriodRow stream p g (moved (x.first_period - 1) b m) list

  -- the periods of a pair of payments, where they report nothing
  quiet_periods : (x : PaymentEntry) (n : ℕ) (b : ℕ) (y : FlowPayment) → slice_get p.payments n ≡ Some x
      → (l : Findings) → ArePeriodsOf stream p g x b y l → IsQuiet l
      → AreQuiet first_day (our_days x) (their_periods b y) (λ (d : ℤ). d) (λ (z : FlowPeriod). z.adjusted_start)
      (λ m a. PeriodRow x b m a)
  quiet_periods x n b y at l h q =
      let i = x.first_period - 1 in
      let k = x.last_period + 1 - x.first_period in
      record {
        all = l;
        are_told = h;
        quiet = q;
        our_dates = λ j d here. let part = part_member i k j p.adjusted d here in
            due_first d (days_get p.adjusted (i + j) d bounds.dates.adjusted part.1);
        their_dates = λ j z there. let part = part_member b y.periods j g.periods z there in
            due_stated z.adjusted_start
            (every_get (λ (w : FlowPeriod). IfSome w.adjusted_start IsDay) g.periods (b + j) z flows.starts part.1);
        missing = λ j d day a here told quiet.
            let part = part_member i k j p.adjusted d here in
            let has = payment_at p n x bounds at in
            let first = has.first in
            let order = has.order in
            let high = has.within in
            let low = part.0 in
            let e = member_within p.periods (i + j) (omega (arith, first, order, high, low)) in
            let there : period_at p (i + j) ≡ Some (dated_period p (i + j + 1) e.0) =
            ap (λ (o : Option PeriodEntry). option_map (dated_period p (i + j + 1)) o) e.1 in
            let m : PairedRow = moved i b (record { day = Some day; ours = Some j; theirs = None }) in
            missing_loud (ArePeriods (break_place stream row.Period m) (member_at p.resets m.ours)) (break_place stream row.Period m)
            (λ (z : CalculationPeriod). Some (notional_of z.notional)) _ (period_at p (i + j)) _ a there told quiet;
        extra = λ j z date a there told quiet.
            let part = part_member b y.periods j g.periods z there in
            let m : PairedRow = moved i b (record { day = date; ours = None; theirs = Some j }) in
            extra_loud (ArePeriods (break_place stream row.Period m) (member_at p.resets m.ours))
            (λ (w : CalculationPeriod). ours_alone (break_place stream row.Period m) (Some (notional_of w.notional))) (break_place stream row.Period m) 4
            (λ (w : FlowPeriod). w.notional) (slice_get g.periods (b + j)) z a part.1 told quiet;
      }

  -- a day of the boundaries at which a period of a payment starts
  our_start : (x : PaymentEntry) (n : ℕ) (j : ℕ) → slice_get p.payments n ≡ Some x → j < x.last_period + 1 - x.first_period
      → (d : ℤ) × (slice_get (our_days x) j ≡ Some d)
  our_start x n j at low =
      let has = payment_at p n x bounds at in
      let first = has.first in
      let order = has.order in
      let high = has.within in
      let count = bounds.adjusted in
      let d = member_within p.adjusted (x.first_period - 1 + j) (omega (arith, first, order, high, count, low)) in
      (d.0, member_part (x.first_period - 1) (x.last_period + 1 - x.first_period) j p.adjusted d.0 low d.1)

  -- a period of theirs
  their_start : (y : FlowPayment) (n j : ℕ) → slice_get g.payments n ≡ Some y → j < y.periods
      → (z : FlowPeriod) × (slice_get (their_periods (periods_before g n) y) j ≡ Some z)
  their_start y n j at low =
      let within = periods_within n y at in
      let z = member_within g.periods (periods_before g n + j) (omega (arith, within, low)) in
      (z.0, member_part (periods_before g n) y.periods j g.periods z.0 low z.1)

  -- the periods of a pair of payments have one number
  abbrev HaveOneStart : PaymentEntry → ℕ → FlowPayment → Type 0
  HaveOneStart x m y = PairsHaveOneNumber first_day (x.first_period - 1) (periods_before g m) (our_starts p x)
      (their_starts g (periods_before g m) y)

  -- as many periods of theirs come before those of the payment as of ours
  same_before : (x : PaymentEntry) (n : ℕ) (y : FlowPayment) (m : ℕ) → slice_get p.payments n ≡ Some x
      → slice_get g.payments m ≡ Some y → HaveOneStart x m y → IsPair stream p g (periods_before g m) x y
      → periods_before g m ≡ x.first_period - 1
  same_before x n y m at there one pair =
      let b = periods_before g m in
      let rows = quiet_periods x n b y at pair.all pair.periods pair.quiet in
      let has = payment_at p n x bounds at in
      let order = has.order in
      let first = our_start x n 0 at (omega (arith, order)) in
      let theirs = their_start y m 0 there pair.some in
      nat_same b (x.first_period - 1) (λ other.
      has_partner first_day (our_days x) (their_periods b y) (λ (d : ℤ). d)
      (λ (z : FlowPeriod). z.adjusted_start) (λ m a. PeriodRow x b m a) rows 0 first.0 first.1 (λ s z a paired here told calm.
      is_partner first_day (our_days x) (their_periods b y) (λ (d : ℤ). d)
      (λ (z : FlowPeriod). z.adjusted_start) (λ m a. PeriodRow x b m a) rows 0 theirs.0 theirs.1 (λ r d day paired2 here2.
      let up = one _ s paired in
      let down = one r _ paired2 in
      other (omega (arith, up, down)))))

  -- and a pair of payments has as many periods on both sides
  same_count : (x : PaymentEntry) (n : ℕ) (y : FlowPayment) (m : ℕ) → slice_get p.payments n ≡ Some x
      → slice_get g.payments m ≡ Some y → HaveOneStart x m y → IsPair stream p g (periods_before g m) x y → HasCount x y
  same_count x n y m at there one pair =
      let b = periods_before g m in
      let k = x.last_period + 1 - x.first_period in
      let rows = quiet_periods x n b y at pair.all pair.periods pair.quiet in
      let before = same_before x n y m at there one pair in
      let has = payment_at p n x bounds at in
      let order = has.order in
      let some = pair.some in
      let last = our_start x n (k - 1) at (omega (arith, order)) in
      let theirs = their_start y m (y.periods - 1) there (omega (arith, some)) in
      nat_same y.periods k (λ other.
      has_partner first_day (our_days x) (their_periods b y) (λ (d : ℤ). d)
      (λ (z : FlowPeriod). z.adjusted_start) (λ m a. PeriodRow x b m a) rows (k - 1) last.0 last.1 (λ s z a paired here told calm.
      is_partner first_day (our_days x) (their_periods b y) (λ (d : ℤ). d)
      (λ (z : FlowPeriod). z.adjusted_start) (λ m a. PeriodRow x b m a) rows (y.periods - 1) theirs.0 theirs.1 (λ r d day paired2 here2.
      let up = one _ s paired in
      let down = one r _ paired2 in
      let high = (part_member b y.periods s.place g.periods z here).0 in
      let low = (part_member (x.first_period - 1) k r.place p.adjusted d here2).0 in
      other (omega (arith, up, down, high, low, before, order, some)))))

  -- ---- payments

  -- the payments of a stream, where they report nothing
  quiet_payments : (l : Findings) → ArePaymentsOf first_day stream p g l → IsQuiet l
      → AreQuiet first_day p.payments g.payments (λ (x : PaymentEntry). x.adjusted) (λ (y : FlowPayment). y.adjusted)
      (IsPaymentRow stream p g)
  quiet_payments l h q = record {
    all = l;
    are_told = h;
    quiet = q;
    our_dates = λ n x at. due_first x.adjusted (every_get IsDatedPayment p.payments n x bounds.dates.payments at).1;
    their_dates = λ n y at. due_stated y.adjusted
        (every_get (λ (z : FlowPayment). IfSome z.adjusted IsDay) g.payments n y flows.payments at);
    missing = λ n x d a at told quiet.
        let m : PairedRow = record { day = Some d; ours = Some n; theirs = None } in
        missing_loud (FindsPayment (break_place stream row.Payment m) p g (periods_before g (unwrap_or m.theirs 0))) (break_place stream row.Payment m)
        (λ (z : PaymentEntry). z.amount) _ (slice_get p.payments n) x a at told quiet;
    extra = λ n y date a at told quiet.
        let m : PairedRow = record { day = date; ours = None; theirs = Some n } in
        extra_loud (FindsPayment (break_place stream row.Payment m) p g (periods_before g (unwrap_or m.theirs 0)))
        (λ (z : PaymentEntry). ours_alone (break_place stream row.Payment m) z.amount) (break_place stream row.Payment m)
        (decimals_of p.currency.letters) (λ (z : FlowPayment). z.amount) (slice_get g.payments n) y a at told quiet;
  }

  -- each payment of ours has one of theirs at its place
  paired_payment : (l : Findings) → ArePaymentsOf first_day stream p g l → IsQuiet l → (n : ℕ) (x : PaymentEntry)
      → slice_get p.payments n ≡ Some x
      → ((y : FlowPayment) → slice_get g.payments n ≡ Some y → HaveOneStart x n y → IsPair stream p g (periods_before g n) x y → ⊥)
      → ⊥
  paired_payment l h quiet n x e next =
      has_partner first_day p.payments g.payments (λ (x : PaymentEntry). x.adjusted)
      (λ (y : FlowPayment). y.adjusted) (IsPaymentRow stream p g) (quiet_payments l h quiet) n x e
      (λ s y a paired at told calm.
      let same : s.place ≡ n = let number = numbers.payments _ s paired in omega (arith, number) in
      let m : PairedRow = record { day = Some x.adjusted; ours = Some n; theirs = Some s.place } in
      let both = both_rows (FindsPayment (break_place stream row.Payment m) p g (periods_before g s.place))
      (λ (w : PaymentEntry). ours_alone (break_place stream row.Payment m) w.amount)
      (λ (w : FlowPayment). theirs_alone (break_place stream row.Payment m) (decimals_of p.currency.letters) w.amount) (slice_get p.payments n)
      (slice_get g.payments s.place) x y a e at told in
      let one = numbers.periods _ s paired x y e at in
      let pair = payment_pair (break_place stream row.Payment m) p g (periods_before g s.place) x y a both calm in
      next y (subst (λ (k : ℕ). slice_get g.payments k ≡ Some y) same at) (subst (λ (k : ℕ). HaveOneStart x k y) same one)
      (subst (λ (k : ℕ). IsPair stream p g (periods_before g k) x y) same pair))

  -- no payment departs
  payment_agrees : (l : Findings) → ArePaymentsOf first_day stream p g l → IsQuiet l → (n : ℕ) (o : Option PaymentEntry)
      (q : Option FlowPayment) → slice_get p.payments n ≡ o → slice_get g.payments n ≡ q → (f : Field)
      → RowDeparts (PaymentDeparts p.currency) o q f → ⊥
  payment_agrees l h quiet n (Some x) (Some y) e f name d = paired_payment l h quiet n x e (λ z at one pair.
      let there : z ≡ y = same_Some z y (sym at ∙ f) in
      payment_settled p.currency x z pair.fields (same_count x n z n e at one pair) name
      (subst (λ (w : FlowPayment). PaymentDeparts p.currency x w name) (sym there) d))
  payment_agrees l h quiet n (Some x) None e f name d = paired_payment l h quiet n x e (λ z at one pair.
      none-some z (sym f ∙ at))
  payment_agrees l h quiet n None (Some y) e f name d =
      is_partner first_day p.payments g.payments (λ (x : PaymentEntry). x.adjusted)
      (λ (y : FlowPayment). y.adjusted) (IsPaymentRow stream p g) (quiet_payments l h quiet) n y f
      (λ r x day pair at.
      let same : r.place ≡ n = let number = numbers.payments r _ pair in omega (arith, number) in
      none-some x (sym e ∙ (sym (ap (λ (k : ℕ). slice_get p.payments k) same) ∙ at)))
  payment_agrees l h quiet n None None e f name d = d

  -- at each place are payments with as many periods, or none
  count_match : (l : Findings) → ArePaymentsOf first_day stream p g l → IsQuiet l → (n : ℕ) (o : Option PaymentEntry)
      (q : Option FlowPayment) → slice_get p.payments n ≡ o → slice_get g.payments n ≡ q → Match HasCount o q
  count_match l h quiet n (Some x) (Some y) e f =
      nat_same y.periods (x.last_period + 1 - x.first_period)
      (payment_agrees l h quiet n (Some x) (Some y) e f field.CalculationPeriod)
  count_match l h quiet n (Some x) None e f = payment_agrees l h quiet n (Some x) None e f field.Missing refl
  count_match l h quiet n None (Some y) e f = payment_agrees l h quiet n None (Some y) e f field.Extra refl
  count_match l h quiet n None None e f = tt

  -- so both sides have as many periods
  same_length : (l : Findings) → ArePaymentsOf first_day stream p g l → IsQuiet l → length g.periods ≡ length p.periods
  same_length l h quiet =
      let pairs = pairs_at HasCount p.payments g.payments
      (λ k. count_match l h quiet k (slice_get p.payments k) (slice_get g.payments k) refl refl) in
      let all = all_counted 1 (length p.periods) p.payments g.payments bounds.covers pairs in
      let sum = flows.periods in
      omega (arith, all, sum)

  -- ---- periods and resets

  -- no period and no reset at a place within the stream departs
  period_within : (l : Findings) → ArePaymentsOf first_day stream p g l → IsQuiet l → (j : ℕ) → j < length p.periods
      → ((x : CalculationPeriod) (z : FlowPeriod) → period_at p j ≡ Some x → slice_get g.periods j ≡ Some z
      → ((f : Field) → PeriodDeparts x z f → ⊥) → ((f : Field) → RowDeparts ResetDeparts (slice_get p.resets j) z.reset f → ⊥) → ⊥)
      → ⊥
  period_within l h quiet j low next =
      let cover = covering 1 (length p.periods) p.payments j bounds.covers (omega arith) low in
      let n = cover.0 in
      let x = cover.1 in
      let at = cover.2 in
      let from = cover.3 in
      let to = cover.4 in
      paired_payment l h quiet n x at (λ y there one pair.
      let b = periods_before g n in
      let i = x.first_period - 1 in
      let k = x.last_period + 1 - x.first_period in
      let q = j - i in
      let rows = quiet_periods x n b y at pair.all pair.periods pair.quiet in
      let has = payment_at p n x bounds at in
      let first = has.first in
      let d = our_start x n q at (omega (arith, from, to, first)) in
      has_partner first_day (our_days x) (their_periods b y) (λ (d : ℤ). d)
      (λ (z : FlowPeriod). z.adjusted_start) (λ m a. PeriodRow x b m a) rows q d.0 d.1 (λ s z a paired here told calm.
      let number = one (record { day = d.0; place = q }) s paired in
      let ours : i + q ≡ j = omega (arith, from, first) in
      let theirs : b + s.place ≡ j = omega (arith, number, ours) in
      let part = part_member b y.periods s.place g.periods z here in
      let e = member_within p.periods j low in
      let own : period_at p j ≡ Some (dated_period p (j + 1) e.0) =
      ap (λ (o : Option PeriodEntry). option_map (dated_period p (j + 1)) o) e.1 in
      let m : PairedRow = moved i b (record { day = Some d.0; ours = Some q; theirs = Some s.place }) in
      let own2 : period_at p (i + q) ≡ Some (dated_period p (j + 1) e.0) = ap (λ (c : ℕ). period_at p c) ours ∙ own in
      let both = both_rows (ArePeriods (break_place stream row.Period m) (slice_get p.resets (i + q)))
      (λ (w : CalculationPeriod). ours_alone (break_place stream row.Period m) (Some (notional_of w.notional)))
      (λ (w : FlowPeriod). theirs_alone (break_place stream row.Period m) 4 w.notional) (period_at p (i + q))
      (slice_get g.periods (b + s.place)) (dated_period p (j + 1) e.0) z a own2 part.1 told in
      let fields = period_pair (break_place stream row.Period m) (slice_get p.resets (i + q)) (dated_period p (j + 1) e.0) z a both calm in
      next (dated_period p (j + 1) e.0) z own (subst (λ (c : ℕ). slice_get g.periods c ≡ Some z) theirs part.1) fields.0
      (subst (λ (c : ℕ). (f : Field) → RowDeparts ResetDeparts (slice_get p.resets c) z.reset f → ⊥) ours fields.1)))

  -- past the end of the periods there are none
  periods_past : (l : Findings) → ArePaymentsOf first_day stream p g l → IsQuiet l → (j : ℕ) → length p.periods ≤ j
      → (period_at p j ≡ None) × (slice_get g.periods j ≡ None) × (slice_get p.resets j ≡ None)
  periods_past l h quiet j high =
      let count = same_length l h quiet in
      let resets = few_resets p.floating (length p.periods) (length p.resets) bounds.resets in (
        ap (λ (o : Option PeriodEntry). option_map (dated_period p (j + 1)) o) (slice_get_past p.periods j high),
        slice_get_past g.periods j (omega (arith, count, high)),
        slice_get_past p.resets j (omega (arith, resets, high)),
      )

  -- no period departs
  period_agrees : (l : Findings) → ArePaymentsOf first_day stream p g l → IsQuiet l → (j : ℕ) (f : Field)
      → KindDeparts row.Period p g j f → ⊥
  period_agrees l h quiet j f d = elim (cases_lt j (length p.periods)) [
    | inl low ↦ period_within l h quiet j low (λ x z at there fields resets.
        fields f (subst (λ (o : Option CalculationPeriod). RowDeparts PeriodDeparts o (Some z) f) at
        (subst (λ (q : Option FlowPeriod). RowDeparts PeriodDeparts (period_at p j) q f) there d)))
    | inr high ↦
        let past = periods_past l h quiet j high in
        subst (λ (o : Option CalculationPeriod). RowDeparts PeriodDeparts o None f) past.0
        (subst (λ (q : Option FlowPeriod). RowDeparts PeriodDeparts (period_at p j) q f) past.1 d)
  ]

  -- no reset departs
  reset_agrees : (l : Findings) → ArePaymentsOf first_day stream p g l → IsQuiet l → (j : ℕ) (f : Field)
      → KindDeparts row.Reset p g j f → ⊥
  reset_agrees l h quiet j f d = elim (cases_lt j (length p.periods)) [
    | inl low ↦ period_within l h quiet j low (λ x z at there fields resets.
        resets f (subst (λ (q : Option FlowPeriod). RowDeparts ResetDeparts (slice_get p.resets j) (option_and_then (λ w. w.reset) q) f)
        there d))
    | inr high ↦
        let past = periods_past l h quiet j high in
        subst (λ (o : Option Reset). RowDeparts ResetDeparts o None f) past.2
        (subst (λ (q : Option FlowPeriod). RowDeparts ResetDeparts (slice_get p.resets j) (option_and_then (λ w. w.reset) q) f)
        past.1 d)
  ]

  -- no row of the stream departs
  rows_agree : (l : Findings) → Then (AreExchangesOf first_day stream p g) (ArePaymentsOf first_day stream p g) l → IsQuiet l
      → (kind : RowKind) (j : ℕ) (f : Field) → KindDeparts kind p g j f → ⊥
  rows_agree l h q row.Stream j f d = d
  rows_agree l h q row.Exchange j f d =
      let parts = quiet_then (AreExchangesOf first_day stream p g) (ArePaymentsOf first_day stream p g) l h q in
      exchange_agrees h.first h.is_first parts.0 j (slice_get p.exchanges j) (slice_get g.exchanges j) refl refl f d
  rows_agree l h q row.Payment j f d =
      let parts = quiet_then (AreExchangesOf first_day stream p g) (ArePaymentsOf first_day stream p g) l h q in
      payment_agrees h.second h.is_second parts.1 j (slice_get p.payments j) (slice_get g.payments j) refl refl f d
  rows_agree l h q row.Period j f d =
      let parts = quiet_then (AreExchangesOf first_day stream p g) (ArePaymentsOf first_day stream p g) l h q in
      period_agrees h.second h.is_second parts.1 j f d
  rows_agree l h q row.Reset j f d =
      let parts = quiet_then (AreExchangesOf first_day stream p g) (ArePaymentsOf first_day stream p g) l h q in
      reset_agrees h.second h.is_second parts.1 j f d

-- ---- the streams

-- no stream departs
stream_agrees : (stream : ℕ) (o : Option Part) (q : Option FlowPart) (a : Findings)
    → ((p : Part) → o ≡ Some p → KeepsBounds p) → ((g : FlowPart) → q ≡ Some g → KeepsFlowBounds g)
    → ((p : Part) (g : FlowPart) → o ≡ Some p → q ≡ Some g → RowsHaveOneNumber first_day p g)
    → IsStream first_day stream o q a → IsQuiet a → (kind : RowKind) (n : ℕ) (f : Field) → StreamDeparts o q kind n f → ⊥
stream_agrees stream (Some p) (Some g) a bounds flows numbers h quiet kind n f d =
    rows_agree p g (bounds p refl) (flows g refl) (numbers p g refl refl) stream a h quiet kind (n - 1) f d.1
stream_agrees stream (Some p) None a bounds flows numbers h quiet kind n f d =
    told_loud (break_at (stream_place stream) (what.Missing None)) a h quiet
stream_agrees stream None (Some g) a bounds flows numbers h quiet kind n f d =
    told_loud (break_at (stream_place stream) (what.Extra 0 None)) a h quiet
stream_agrees stream None None a bounds flows numbers h quiet kind n f d = d

-- there is no stream past the longer list
none_past : (s : List Part) (f : List FlowPart) (k : ℕ) → max (length s) (length f) ≤ k
    → (slice_get s k ≡ None) × (slice_get f k ≡ None)
none_past s f k high = (slice_get_past s k (omega (arith, high)), slice_get_past f k (omega (arith, high)))

-- where nothing breaks, nothing is unstated and each pair has one number, nothing departs
pub nothing_departs : (s : List Part) (f : List FlowPart) (l : Findings) → IsWithin s → FlowsAreWithin f
    → HaveOneNumber None s f → IsBreakList None s f l → IsQuiet l → Agrees f s
nothing_departs s f l within flows numbers h quiet d departs =
    let k = d.stream - 1 in
    elim (cases_lt k (max (length s) (length f))) [
      | inl low ↦
          let told = quiet_up_to (StreamAt first_day s f) (max (length s) (length f)) l h quiet k low in
          stream_agrees (k + 1) (slice_get s k) (slice_get f k) told.0 (λ p e. every_get KeepsBounds s k p within.each e)
          (λ g e. every_get KeepsFlowBounds f k g flows e) (λ p g e q. numbers k p g e q) told.1 told.2 d.kind d.row d.field departs.1
      | inr high ↦
          let none = none_past s f k high in
          subst (λ (o : Option Part). StreamDeparts o None d.kind d.row d.field) none.0
          (subst (λ (q : Option FlowPart). StreamDeparts (slice_get s k) q d.kind d.row d.field) none.1 departs.1)
    ]

-- a list that can't have a member is empty
none_of : {X : Type 0} (xs : List X) → ¬ (¬ (xs ≡ [])) → xs ≡ []
none_of [] h = refl
none_of (x ∷ xs) h = absurd (h (λ some. cc))

-- where no break is listed, no field is unstated and each pair has one number, the flows agree
pub unbroken_agrees : (s : List Part) (f : List FlowPart) (l : Findings) → IsWithin s → FlowsAreWithin f
    → HaveOneNumber None s f → IsBreakList None s f l → ¬ (HasBreak l) → sum_by (λ (c : Counts). c.unstated) l.pairs ≡ 0
    → Agrees f s
unbroken_agrees s f l within flows numbers h unbroken whole =
    nothing_departs s f l within flows numbers h (record { unbroken = none_of l.breaks unbroken; whole = whole })
