-- Where the flows agree with the schedule nothing breaks.
use Rattle.std.proofs.Common.{◌≡◌, inl, inr, ℕ, zero, suc, ◌+◌, ◌-◌, ◌<◌, ◌≤◌, Bool, true, false, List, [], ◌∷◌, ◌++◌, length, map}
use Rattle.std.proofs.Common.{take, drop, Option, Some, None, ℤ, pos, arith, refl, sym, subst, ap, ap₂, ◌∙◌}
use Rattle.std.specs.Prelude.{slice_get, option_map, option_and_then, max, ◌==◌}
use Rattle.std.specs.Ordering.{int_eq}
use Rattle.std.proofs.lemmas.Bool.{cases_Bool, cases_lt}
use Rattle.std.proofs.lemmas.Option.{none-some, same_Some, slice_get-get_or, slice_get-map, slice_get_cases, slice_get_past}
use Rattle.std.proofs.lemmas.Option.{slice_get_within}
use Rattle.irs_base.specs.Days.{first_day}
use Rattle.irs_base.specs.Lists.{Every, Pairs, day_at}
use Rattle.irs_base.proofs.MemberLemmas.{every_get}
use Rattle.irs_terms.specs.declared.results.Exchange.{Exchange}
use Rattle.irs_terms.specs.declared.results.Reset.{Reset}
use Rattle.irs_schedule.specs.Parts.{IsWithin, KeepsBounds, Part}
use Rattle.irs_schedule.specs.RowsOf.{period_at}
use Rattle.irs_schedule.specs.declared.entries.PaymentEntry.{PaymentEntry}
use Rattle.irs_schedule.specs.declared.views.CalculationPeriod.{CalculationPeriod}
use Rattle.irs_audit.specs.Verdicts.{Agrees, KindDeparts, RowDeparts, StreamDeparts, stated_reset_at, ExchangeDeparts}
use Rattle.irs_audit.specs.Verdicts.{PaymentDeparts, PeriodDeparts, ResetDeparts, NotStatedRightly}
use Rattle.irs_flows.specs.FlowReading.{FlowPart}
use Rattle.irs_audit.specs.declared.departures.Field.{Field}
use Rattle.irs_audit.specs.declared.departures.Field.TheVariants as field
use Rattle.irs_audit.specs.declared.departures.RowKind.{RowKind}
use Rattle.irs_audit.specs.declared.departures.RowKind.TheVariants as row
use Rattle.irs_flows.specs.declared.flows.FlowExchange.{FlowExchange}
use Rattle.irs_flows.specs.declared.flows.FlowPayment.{FlowPayment}
use Rattle.irs_flows.specs.declared.flows.FlowPeriod.{FlowPeriod}
use Rattle.irs_flows.specs.declared.flows.FlowReset.{FlowReset}
use Rattle.irs_breaks.specs.BreakLists.{AreExchangesOf, ArePaymentsOf, IsBreakList, IsStream, StreamAt, first_due}
use Rattle.irs_breaks.specs.BreakLists.{exchange_dates, payment_row_dates, stated_exchange_dates, stated_payment_dates}
use Rattle.irs_breaks.specs.BreakLists.{FindsExchange, AreFieldBreaks, FindsPayment, ArePeriods, ArePeriodsOf}
use Rattle.irs_breaks.specs.BreakLists.{FindsRows, IsExchangeRow, IsPaymentRow, IsPeriodRow, FindsReset, IsRow}
use Rattle.irs_breaks.specs.BreakLists.{UnlessBare, counted_reset, field_breaks, moved, our_starts, payment_counts}
use Rattle.irs_breaks.specs.BreakLists.{periods_before, break_place, reset_place, their_starts}
use Rattle.irs_breaks.specs.Findings.{AreBreaks, TiesTo, counts_in, exchange_fields, payment_fields, period_fields}
use Rattle.irs_breaks.specs.Findings.{reset_fields, Exactly, Findings, OnRow, RowAt, Then, UpTo, one_pair}
use Rattle.irs_breaks.specs.Findings.{joined_findings, no_findings}
use Rattle.irs_breaks.specs.declared.dated.PairedRow.{PairedRow}
use Rattle.irs_breaks.specs.declared.findings.BreakPlace.{BreakPlace}
use Rattle.irs_breaks.specs.declared.values.FieldValues.{FieldValues}
use Rattle.irs_breaks.proofs.FieldTies.{exchange_ties, payment_ties, period_ties, reset_ties}
use Rattle.irs_breaks.proofs.PaymentPlaces.{HasCount, covers_sum, payment_at}
use Rattle.irs_breaks.proofs.PlacedRows.{IsSameRow, same_row, same_rows}
use Rattle.irs_breaks.proofs.RowLemmas.{eq_true, true_eq}

-- ---- what holds of all findings that are joined

-- a property that holds of no findings, and of two joined findings where it holds of each
pub record IsClosed (Good : Findings → Type 0) : Type 0 where
  pub none : Good no_findings
  pub both : (a b : Findings) → Good a → Good b → Good (joined_findings a b)

good_then : (Good : Findings → Type 0) → IsClosed Good → (P Q : Findings → Type 0) (l : Findings)
    → ((a : Findings) → P a → Good a) → ((a : Findings) → Q a → Good a) → Then P Q l → Good l
good_then Good closed P Q l p q h =
    subst Good (sym h.is) (closed.both h.first h.second (p h.first h.is_first) (q h.second h.is_second))

good_exactly : (Good : Findings → Type 0) (wanted a : Findings) → Good wanted → Exactly wanted a → Good a
good_exactly Good wanted a h e = subst Good (sym e) h

good_up_to : (Good : Findings → Type 0) → IsClosed Good → (Is : ℕ → Findings → Type 0) (n : ℕ) (l : Findings)
    → ((k : ℕ) (a : Findings) → Is k a → Good a) → UpTo Is n l → Good l
good_up_to Good closed Is zero l each h = subst Good (sym h) closed.none
good_up_to Good closed Is (suc n) l each h =
    good_then Good closed (UpTo Is n) (Is n) l (λ a k. good_up_to Good closed Is n a each k) (each n) h

good_on_row : {X : Type 0} (Good : Findings → Type 0) → IsClosed Good → (Told : X → Findings → Type 0) (o : Option X)
    (l : Findings) → ((x : X) → o ≡ Some x → Told x l → Good l) → OnRow Told o l → Good l
good_on_row Good closed Told None l each h = subst Good (sym h) closed.none
good_on_row Good closed Told (Some x) l each h = each x refl h

good_told : (Good : Findings → Type 0) → IsClosed Good → (from : ℤ) (days : List ℤ) (ours theirs : List (Option ℤ))
    (Told : PairedRow → Findings → Type 0) (l : Findings) → ours ≡ map (λ (d : ℤ). Some d) days
    → theirs ≡ map (λ (d : ℤ). Some d) days
    → ((m : PairedRow) (a : Findings) → IsSameRow (length ours) m → Told m a → Good a)
    → FindsRows from ours theirs Told l → Good l
good_told Good closed from days ours theirs Told l e f each h =
    good_up_to Good closed (RowAt Told h.rows) (length h.rows) l
    (λ k a is. good_on_row Good closed Told (slice_get h.rows k) a
    (λ m at told. each m a (same_rows from days ours theirs h.rows e f h.paired k m at) told) is) h.each

-- rows that do not depart: both are there, or neither
good_row : {X Y : Type 0} (Good : Findings → Type 0) → IsClosed Good → (Fields : X → Y → Field → Type 0)
    (Both : X → Y → Findings → Type 0) (ours : X → Findings) (theirs : Y → Findings) (o : Option X) (q : Option Y)
    (l : Findings) → ((f : Field) → RowDeparts Fields o q f → ⊥)
    → ((x : X) (y : Y) → o ≡ Some x → q ≡ Some y → ((f : Field) → Fields x y f → ⊥) → Both x y l → Good l)
    → IsRow Both ours theirs o q l → Good l
good_row Good closed Fields Both ours theirs (Some x) (Some y) l agree each h = each x y refl refl agree h
good_row Good closed Fields Both ours theirs (Some x) None l agree each h = absurd (agree field.Missing refl)
good_row Good closed Fields Both ours theirs None (Some y) l agree each h = absurd (agree field.Extra refl)
good_row Good closed Fields Both ours theirs None None l agree each h = subst Good (sym h) closed.none

-- ---- fields

no_breaks : (Departs : Field → Type 0) (fields breaks : List FieldValues) → Every (TiesTo Departs) fields
    → ((f : Field) → Departs f → ⊥) → AreBreaks fields breaks → breaks ≡ []
no_breaks Departs [] breaks ties agree h = h
no_breaks Departs (f ∷ fs) breaks ties agree (inl h) = absurd (agree f.field (ties.0.departs h.0))
no_breaks Departs (f ∷ fs) breaks ties agree (inr h) = no_breaks Departs fs breaks ties.1 agree h.1

-- each of these fields breaks at the place
abbrev broken : BreakPlace → List FieldValues → Findings
broken place fields = record { breaks = field_breaks place fields; pairs = [] }

good_fields : (Good : Findings → Type 0) → IsClosed Good → (Departs : Field → Type 0) (place : BreakPlace)
    (fields : List FieldValues) (l : Findings) → Every (TiesTo Departs) fields → ((f : Field) → Departs f → ⊥)
    → AreFieldBreaks place fields l → Good l
good_fields Good closed Departs place fields l ties agree h =
    let none : h.0 ≡ [] = no_breaks Departs fields h.0 ties agree h.1 in
    subst Good (sym (h.2 ∙ ap (broken place) none)) closed.none

-- ---- dates

int_same : (a b : ℤ) → ((¬ (a ≡ b)) → ⊥) → a ≡ b
int_same a b h = elim (cases_Bool (int_eq a b)) [
  | inl t ↦ eq_true a b t
  | inr f ↦ absurd (h (λ e. let t = true_eq a b e in cc))
]

-- numbers that can't be unequal are equal
pub nat_same : (a b : ℕ) → ((¬ (a ≡ b)) → ⊥) → a ≡ b
nat_same a b h = elim (cases_lt a b) [
  | inl l ↦ absurd (h (λ e. omega (arith, l, e)))
  | inr g ↦ elim (cases_lt b a) [ inl l ↦ absurd (h (λ e. omega (arith, l, e))) | inr k ↦ omega (arith, g, k) ]
]

right_day : (d : ℤ) (s : Option ℤ) → (NotStatedRightly (λ (e : ℤ). e ≡ d) s → ⊥) → s ≡ Some d
right_day d None h = absurd (h tt)
right_day d (Some e) h = ap (λ (z : ℤ). Some z) (int_same e d h)

-- two lists with the same member at each place are the same
pub list_same : {X : Type 0} (xs ys : List X) → ((k : ℕ) → slice_get xs k ≡ slice_get ys k) → xs ≡ ys
list_same [] [] h = refl
list_same [] (y ∷ ys) h = absurd (none-some y (h zero))
list_same (x ∷ xs) [] h = absurd (none-some x (sym (h zero)))
list_same (x ∷ xs) (y ∷ ys) h = ap₂ ◌∷◌ (same_Some x y (h zero)) (list_same xs ys (λ k. h (suc k)))

dates_same : {X Y : Type 0} (f : X → Option ℤ) (g : Y → Option ℤ) (xs : List X) (ys : List Y)
    → ((k : ℕ) → option_map g (slice_get ys k) ≡ option_map f (slice_get xs k)) → map g ys ≡ map f xs
dates_same f g xs ys h =
    list_same (map g ys) (map f xs) (λ k. slice_get-map g ys k ∙ (h k ∙ sym (slice_get-map f xs k)))

dated : {X : Type 0} (f : X → ℤ) (xs : List X)
    → map (λ (x : X). Some (f x)) xs ≡ map (λ (d : ℤ). Some d) (map f xs)
dated f [] = refl
dated f (x ∷ xs) = ap (λ (z : List (Option ℤ)). Some (f x) ∷ z) (dated f xs)

exchange_date : (o : Option Exchange) (q : Option FlowExchange) → ((f : Field) → RowDeparts ExchangeDeparts o q f → ⊥)
    → option_map (λ (y : FlowExchange). y.adjusted) q ≡ option_map (λ (x : Exchange). Some x.adjusted) o
exchange_date (Some x) (Some y) h =
    ap (λ (z : Option ℤ). Some z) (right_day x.adjusted y.adjusted (h field.AdjustedPrincipalExchangeDate))
exchange_date (Some x) None h = absurd (h field.Missing refl)
exchange_date None (Some y) h = absurd (h field.Extra refl)
exchange_date None None h = refl

payment_date : (p : Part) (o : Option PaymentEntry) (q : Option FlowPayment)
    → ((f : Field) → RowDeparts (PaymentDeparts p.currency) o q f → ⊥)
    → option_map (λ (y : FlowPayment). y.adjusted) q ≡ option_map (λ (x : PaymentEntry). Some x.adjusted) o
payment_date p (Some x) (Some y) h =
    ap (λ (z : Option ℤ). Some z) (right_day x.adjusted y.adjusted (h field.AdjustedPaymentDate))
payment_date p (Some x) None h = absurd (h field.Missing refl)
payment_date p None (Some y) h = absurd (h field.Extra refl)
payment_date p None None h = refl

-- ---- members at places

get_take : {X : Type 0} (k j : ℕ) (xs : List X) → j < k → slice_get (take k xs) j ≡ slice_get xs j
get_take zero j xs h = absurd (omega (arith, h))
get_take (suc k) j [] h = refl
get_take (suc k) zero (x ∷ xs) h = refl
get_take (suc k) (suc j) (x ∷ xs) h = get_take k j xs (omega (arith, h))

-- a front of k members has at most k
pub take_few : {X : Type 0} (k : ℕ) (xs : List X) → length (take k xs) ≤ k
take_few zero xs = omega arith
take_few (suc k) [] = omega arith
take_few (suc k) (x ∷ xs) = let rest = take_few k xs in omega (arith, rest)

get_drop : {X : Type 0} (i j : ℕ) (xs : List X) → slice_get (drop i xs) j ≡ slice_get xs (i + j)
get_drop zero j xs = let e : j ≡ 0 + j = omega arith in ap (λ (n : ℕ). slice_get xs n) e
get_drop (suc i) j [] = refl
get_drop (suc i) j (x ∷ xs) =
    let e : suc (i + j) ≡ suc i + j = omega arith in
    get_drop i j xs ∙ ap (λ (n : ℕ). slice_get (x ∷ xs) n) e

-- a member of a part of a list, by its place in the list
pub get_part : {X : Type 0} (i k j : ℕ) (xs : List X) → j < k → slice_get (take k (drop i xs)) j ≡ slice_get xs (i + j)
get_part i k j xs h = get_take k j (drop i xs) h ∙ get_drop i j xs

get_past : {X : Type 0} (i k j : ℕ) (xs : List X) → k ≤ j → slice_get (take k (drop i xs)) j ≡ None
get_past i k j xs h = let few = take_few k (drop i xs) in slice_get_past (take k (drop i xs)) j (omega (arith, few, h))

-- the members at each place are both there and related by R, or neither is there
abbrev pub Match : {X Y : Type 0} → (X → Y → Type 0) → Option X → Option Y → Type 0
Match R (Some x) (Some y) = R x y
Match R (Some x) None = ⊥
Match R None (Some y) = ⊥
Match R None None = Unit {0}

-- lists that match at each place are related member by member
pub pairs_at : {X Y : Type 0} (R : X → Y → Type 0) (xs : List X) (ys : List Y)
    → ((k : ℕ) → Match R (slice_get xs k) (slice_get ys k)) → Pairs R xs ys
pairs_at R [] [] h = tt
pairs_at R [] (y ∷ ys) h = h zero
pairs_at R (x ∷ xs) [] h = h zero
pairs_at R (x ∷ xs) (y ∷ ys) h = (h zero, pairs_at R xs ys (λ k. h (suc k)))

-- ---- a stream that both have

-- no row of a stream departs
abbrev pub IsAgreed : Part → FlowPart → Type 0
IsAgreed p g = (kind : RowKind) (j : ℕ) (f : Field) → KindDeparts kind p g j f → ⊥

-- the counts of each pair are good
pub record HasGoodCounts (Good : Findings → Type 0) (p : Part) (g : FlowPart) : Type 0 where
  pub exchanges : (n : ℕ) (x : Exchange) (y : FlowExchange) → slice_get p.exchanges n ≡ Some x → slice_get g.exchanges n ≡ Some y
      → Good (one_pair (counts_in (exchange_fields x y)))
  pub payments : (n : ℕ) (x : PaymentEntry) (y : FlowPayment) → slice_get p.payments n ≡ Some x → slice_get g.payments n ≡ Some y
      → Good (one_pair (payment_counts (y.periods == 0) (counts_in (payment_fields p.currency x y))))
  pub periods : (n : ℕ) (x : CalculationPeriod) (y : FlowPeriod) → period_at p n ≡ Some x → slice_get g.periods n ≡ Some y
      → Good (one_pair (counts_in (period_fields x y ++ counted_reset (slice_get p.resets n) y.reset)))

module _ (Good : Findings → Type 0) (closed : IsClosed Good) (p : Part) (g : FlowPart) (bounds : KeepsBounds p)
    (agreed : IsAgreed p g) (counts : HasGoodCounts Good p g) (stream : ℕ) where
  good_exchange : (n : ℕ) (d : ℤ) (l : Findings) → IsExchangeRow stream p g (same_row n d) l → Good l
  good_exchange n d l h =
      let place = break_place stream row.Exchange (same_row n d) in
      good_row Good closed ExchangeDeparts (FindsExchange place) _ _ (slice_get p.exchanges n) (slice_get g.exchanges n) l
      (λ f. agreed row.Exchange n f)
      (λ x y e f agree both. good_then Good closed (Exactly (one_pair (counts_in (exchange_fields x y))))
      (AreFieldBreaks place (exchange_fields x y)) l
      (λ a is. good_exactly Good _ a (counts.exchanges n x y e f) is)
      (λ a is. good_fields Good closed (ExchangeDeparts x y) place (exchange_fields x y) a (exchange_ties x y) agree is) both) h

  good_exchanges : (from : ℤ) (l : Findings) → AreExchangesOf from stream p g l → Good l
  good_exchanges from l h =
      let dates = dates_same (λ (x : Exchange). Some x.adjusted) (λ (y : FlowExchange). y.adjusted) p.exchanges g.exchanges
      (λ k. exchange_date (slice_get p.exchanges k) (slice_get g.exchanges k) (λ f. agreed row.Exchange k f)) in
      let own = dated (λ (x : Exchange). x.adjusted) p.exchanges in
      good_told Good closed from (map (λ (x : Exchange). x.adjusted) p.exchanges) (exchange_dates p.exchanges)
      (stated_exchange_dates g.exchanges) (IsExchangeRow stream p g) l own (dates ∙ own)
      (λ m a same told. good_exchange same.place same.day a
      (subst (λ (z : PairedRow). IsExchangeRow stream p g z a) same.is told)) h

  good_reset : (place : BreakPlace) (r : Option Reset) (s : Option FlowReset) (l : Findings)
      → ((f : Field) → RowDeparts ResetDeparts r s f → ⊥) → FindsReset place r s l → Good l
  good_reset place (Some r) (Some y) l agree h =
      good_fields Good closed (ResetDeparts r y) (reset_place place) (reset_fields r y) l (reset_ties r y) agree h
  good_reset place (Some r) None l agree h = absurd (agree field.Missing refl)
  good_reset place None (Some y) l agree h = absurd (agree field.Extra refl)
  good_reset place None None l agree h = subst Good (sym h) closed.none

  good_period : (n : ℕ) (d : ℤ) (l : Findings) → IsPeriodRow stream p g (same_row n d) l → Good l
  good_period n d l h =
      let place = break_place stream row.Period (same_row n d) in
      let reset = slice_get p.resets n in
      good_row Good closed PeriodDeparts (ArePeriods place reset) _ _ (period_at p n) (slice_get g.periods n) l
      (λ f. agreed row.Period n f)
      (λ x y e f agree both.
      let stated : stated_reset_at g n ≡ y.reset = ap (λ (o : Option FlowPeriod). option_and_then (λ z. z.reset) o) f in
      good_then Good closed (Exactly (one_pair (counts_in (period_fields x y ++ counted_reset reset y.reset))))
      (Then (AreFieldBreaks place (period_fields x y)) (FindsReset place reset y.reset)) l
      (λ a is. good_exactly Good _ a (counts.periods n x y e f) is)
      (λ a is. good_then Good closed (AreFieldBreaks place (period_fields x y)) (FindsReset place reset y.reset) a
      (λ b k. good_fields Good closed (PeriodDeparts x y) place (period_fields x y) b (period_ties x y) agree k)
      (λ b k. good_reset place reset y.reset b
      (subst (λ (s : Option FlowReset). (f : Field) → RowDeparts ResetDeparts reset s f → ⊥) stated
      (λ f. agreed row.Reset n f)) k) is) both) h

  period_there : (q : ℕ) → q < length p.periods → q < length g.periods
  period_there q low = elim (slice_get_cases p.periods q).1 [
    | inl w ↦ elim (slice_get_cases g.periods q).1 [
      | inl v ↦ slice_get_within g.periods q v.0 v.2
      | inr v ↦
          let here = w.2 in
          let there = v.1 in
          absurd (agreed row.Period q field.Missing (rw (here, there) refl))
    ]
    | inr w ↦ let past = w.0 in absurd (omega (arith, low, past))
  ]

  period_date : (q : ℕ) → q < length p.periods
      → option_map (λ (z : FlowPeriod). z.adjusted_start) (slice_get g.periods q)
      ≡ option_map (λ (d : ℤ). Some d) (slice_get p.adjusted q)
  period_date q low = elim (slice_get_cases p.periods q).1 [
    | inl w ↦ elim (slice_get_cases g.periods q).1 [
      | inl v ↦
          let here = w.2 in
          let there = v.2 in
          let count = bounds.adjusted in
          let own = slice_get-get_or p.adjusted q (pos 0) (omega (arith, low, count)) in
          let back : q + 1 - 1 ≡ q = omega arith in
          let day : (v.0).adjusted_start ≡ Some (day_at p.adjusted (q + 1 - 1)) =
          right_day (day_at p.adjusted (q + 1 - 1)) (v.0).adjusted_start
          (λ k. agreed row.Period q field.AdjustedStartDate (rw (here, there) k)) in
          rw (there, own) (ap (λ (z : Option ℤ). Some z) (day ∙ ap (λ (n : ℕ). Some (day_at p.adjusted n)) back))
      | inr v ↦
          let here = w.2 in
          let there = v.1 in
          absurd (agreed row.Period q field.Missing (rw (here, there) refl))
    ]
    | inr w ↦ let past = w.0 in absurd (omega (arith, low, past))
  ]

  payment_match : (o : Option PaymentEntry) (q : Option FlowPayment)
      → ((f : Field) → RowDeparts (PaymentDeparts p.currency) o q f → ⊥) → Match HasCount o q
  payment_match (Some x) (Some y) h = nat_same y.periods (x.last_period + 1 - x.first_period) (h field.CalculationPeriod)
  payment_match (Some x) None h = h field.Missing refl
  payment_match None (Some y) h = h field.Extra refl
  payment_match None None h = tt

  same_counts : Pairs HasCount p.payments g.payments
  same_counts = pairs_at HasCount p.payments g.payments
      (λ k. payment_match (slice_get p.payments k) (slice_get g.payments k) (λ f. agreed row.Payment k f))

  start_is : (n : ℕ) (x : PaymentEntry) → slice_get p.payments n ≡ Some x → periods_before g n ≡ x.first_period - 1
  start_is n x at =
      let has = payment_at p n x bounds at in
      let sum = covers_sum 1 (length p.periods) p.payments g.payments n x bounds.covers same_counts at in
      let first = has.first in
      let order = has.order in
      let within = has.within in
      let there = period_there (x.first_period - 1) (omega (arith, first, order, within)) in
      omega (arith, sum, first, there)

  good_periods : (n : ℕ) (x : PaymentEntry) (y : FlowPayment) (l : Findings) → slice_get p.payments n ≡ Some x
      → HasCount x y → ArePeriodsOf stream p g x (periods_before g n) y l → Good l
  good_periods n x y l at count h =
      let i = x.first_period - 1 in
      let k = x.last_period + 1 - x.first_period in
      let has = payment_at p n x bounds at in
      let first = has.first in
      let order = has.order in
      let within = has.within in
      let before : periods_before g n ≡ i = start_is n x at in
      let days = take k (drop i p.adjusted) in
      let starts : map (λ (z : FlowPeriod). z.adjusted_start) (take k (drop i g.periods)) ≡ map (λ (d : ℤ). Some d) days =
      dates_same (λ (d : ℤ). Some d) (λ (z : FlowPeriod). z.adjusted_start) days (take k (drop i g.periods))
      (λ j. elim (cases_lt j k) [
        | inl low ↦
            rw (get_part i k j g.periods low, get_part i k j p.adjusted low)
            (period_date (i + j) (omega (arith, low, first, order, within)))
        | inr high ↦
            rw (get_past i k j g.periods (omega (arith, high)), get_past i k j p.adjusted (omega (arith, high))) refl
      ]) in
      let theirs : their_starts g (periods_before g n) y ≡ map (λ (d : ℤ). Some d) days =
      ap (λ (c : ℕ). map (λ (z : FlowPeriod). z.adjusted_start) (take c (drop (periods_before g n) g.periods))) count
      ∙ (ap (λ (b : ℕ). map (λ (z : FlowPeriod). z.adjusted_start) (take k (drop b g.periods))) before ∙ starts) in
      good_told Good closed first_day days (our_starts p x) (their_starts g (periods_before g n) y)
      (λ m. IsPeriodRow stream p g (moved i (periods_before g n) m)) l refl theirs
      (λ m a same told.
      let told2 : IsPeriodRow stream p g (moved i (periods_before g n) (same_row same.place same.day)) a =
      subst (λ (z : PairedRow). IsPeriodRow stream p g (moved i (periods_before g n) z) a) same.is told in
      good_period (i + same.place) same.day a
      (subst (λ (b : ℕ). IsPeriodRow stream p g (moved i b (same_row same.place same.day)) a) before told2)) h

  good_bare : (bare : Bool) (Told : Findings → Type 0) (l : Findings) → (Told l → Good l) → UnlessBare bare Told l → Good l
  good_bare true Told l each h = subst Good (sym h) closed.none
  good_bare false Told l each h = each h

  good_payment : (n : ℕ) (d : ℤ) (l : Findings) → IsPaymentRow stream p g (same_row n d) l → Good l
  good_payment n d l h =
      let place = break_place stream row.Payment (same_row n d) in
      let before = periods_before g n in
      good_row Good closed (PaymentDeparts p.currency) (FindsPayment place p g before) _ _ (slice_get p.payments n)
      (slice_get g.payments n) l (λ f. agreed row.Payment n f)
      (λ x y e f agree both.
      good_then Good closed (Exactly (one_pair (payment_counts (y.periods == 0) (counts_in (payment_fields p.currency x y)))))
      (Then (AreFieldBreaks place (payment_fields p.currency x y))
      (UnlessBare (y.periods == 0) (ArePeriodsOf stream p g x before y))) l
      (λ a is. good_exactly Good _ a (counts.payments n x y e f) is)
      (λ a is. good_then Good closed (AreFieldBreaks place (payment_fields p.currency x y))
      (UnlessBare (y.periods == 0) (ArePeriodsOf stream p g x before y)) a
      (λ b k. good_fields Good closed (PaymentDeparts p.currency x y) place (payment_fields p.currency x y) b
      (payment_ties p.currency x y) agree k)
      (λ b k. good_bare (y.periods == 0) (ArePeriodsOf stream p g x before y) b
      (good_periods n x y b e (payment_match (Some x) (Some y) agree)) k) is) both) h

  good_payments : (from : ℤ) (l : Findings) → ArePaymentsOf from stream p g l → Good l
  good_payments from l h =
      let dates = dates_same (λ (x : PaymentEntry). Some x.adjusted) (λ (y : FlowPayment). y.adjusted) p.payments g.payments
      (λ k. payment_date p (slice_get p.payments k) (slice_get g.payments k) (λ f. agreed row.Payment k f)) in
      let own = dated (λ (x : PaymentEntry). x.adjusted) p.payments in
      good_told Good closed from (map (λ (x : PaymentEntry). x.adjusted) p.payments) (payment_row_dates p.payments)
      (stated_payment_dates g.payments) (IsPaymentRow stream p g) l own (dates ∙ own)
      (λ m a same told. good_payment same.place same.day a
      (subst (λ (z : PairedRow). IsPaymentRow stream p g z a) same.is told)) h

-- ---- the streams

good_stream : (Good : Findings → Type 0) → IsClosed Good → (from : ℤ) (stream : ℕ) (o : Option Part) (q : Option FlowPart)
    (l : Findings) → ((p : Part) → o ≡ Some p → KeepsBounds p)
    → ((p : Part) (g : FlowPart) → o ≡ Some p → q ≡ Some g → HasGoodCounts Good p g)
    → ((kind : RowKind) (n : ℕ) (f : Field) → StreamDeparts o q kind n f → ⊥) → IsStream from stream o q l → Good l
good_stream Good closed from stream (Some p) (Some g) l bounds counts agree h =
    let agreed : IsAgreed p g = λ kind j f d.
    let back : j ≡ j + 1 - 1 = omega arith in
    agree kind (j + 1) f (omega arith, subst (λ (n : ℕ). KindDeparts kind p g n f) back d) in
    good_then Good closed (AreExchangesOf from stream p g) (ArePaymentsOf from stream p g) l
    (λ a k. good_exchanges Good closed p g (bounds p refl) agreed (counts p g refl refl) stream from a k)
    (λ a k. good_payments Good closed p g (bounds p refl) agreed (counts p g refl refl) stream from a k) h
good_stream Good closed from stream (Some p) None l bounds counts agree h =
    absurd (agree row.Stream 0 field.Missing (refl, refl, refl))
good_stream Good closed from stream None (Some g) l bounds counts agree h =
    absurd (agree row.Stream 0 field.Extra (refl, refl, refl))
good_stream Good closed from stream None None l bounds counts agree h = subst Good (sym h) closed.none

-- where the flows agree, every closed property of the counts holds of the list of breaks
pub good_list : (Good : Findings → Type 0) → IsClosed Good → (from : Option ℤ) (s : List Part) (w : List FlowPart) (l : Findings)
    → IsWithin s → ((p : Part) (g : FlowPart) (k : ℕ) → slice_get s k ≡ Some p → slice_get w k ≡ Some g → HasGoodCounts Good p g)
    → Agrees w s → IsBreakList from s w l → Good l
good_list Good closed from s w l within counts agree h =
    good_up_to Good closed (StreamAt (first_due from) s w) (max (length s) (length w)) l
    (λ k a is. good_stream Good closed (first_due from) (k + 1) (slice_get s k) (slice_get w k) a
    (λ p e. every_get KeepsBounds s k p within.each e) (λ p g e f. counts p g k e f)
    (λ kind n f d.
    let back : k ≡ k + 1 - 1 = omega arith in
    agree (record { stream = k + 1; kind = kind; row = n; field = f })
    (omega arith, subst (λ (j : ℕ). StreamDeparts (slice_get s j) (slice_get w j) kind n f) back d)) is) h

-- ---- no break

-- the findings have no break
abbrev IsUnbroken : Findings → Type 0
IsUnbroken l = l.breaks ≡ []

unbroken_closed : IsClosed IsUnbroken
unbroken_closed = record { none = refl; both = λ a b h k. ap₂ ◌++◌ h k }

unbroken_counts : (p : Part) (g : FlowPart) → HasGoodCounts IsUnbroken p g
unbroken_counts p g = record {
  exchanges = λ n x y e f. refl;
  payments = λ n x y e f. refl;
  periods = λ n x y e f. refl;
}

-- where the flows agree with the schedule, the list has no break
pub no_break : (from : Option ℤ) (s : List Part) (w : List FlowPart) (l : Findings) → IsWithin s → Agrees w s
    → IsBreakList from s w l → l.breaks ≡ []
no_break from s w l within agree h =
    good_list IsUnbroken unbroken_closed from s w l within (λ p g k e f. unbroken_counts p g) agree h
