-- The value of a schedule states its flows.
use Rattle.irs_flows.specs.FlowFaults.{few, payments_in, periods_in, flow_periods_of}
use Rattle.irs_flows.specs.FlowReading.{exchange_in, flows_in, payment_in, period_in, flow_part_in, flow_parts_in}
use Rattle.irs_flows.specs.FlowReading.{FlowPart}
use Rattle.irs_audit.specs.StatedFlows.{stated_exchange, stated_flows, stated_part, stated_payment, stated_period}
use Rattle.irs_audit.specs.StatedFlows.{stated_periods_from}
use Rattle.irs_flows.specs.declared.flows.FlowExchange.{FlowExchange}
use Rattle.irs_flows.specs.declared.flows.FlowPayment.{FlowPayment}
use Rattle.irs_flows.specs.declared.flows.FlowPeriod.{FlowPeriod}
use Rattle.irs_audit.proofs.BoundLemmas.{payments_few}
use Rattle.irs_base.specs.Limits.{most_rows}
use Rattle.irs_base.specs.Lists.{Every}
use Rattle.irs_elements.specs.Elements.{once, values_in, values_of}
use Rattle.irs_emit.proofs.RowsRead.{array_values, exchange_reads, payment_reads, period_reads}
use Rattle.irs_emit.specs.Emitted.{array_of, cashflows_value, emit_value, exchange_value, known_exchanges}
use Rattle.irs_emit.specs.Emitted.{listed_period, object_with, one_period, payment_value, period_values, put_known}
use Rattle.irs_emit.specs.Emitted.{stream_value}
use Rattle.irs_emit.specs.RowLaws.{IsPartShort, StreamReadsBack, IsExchangeShort, IsPaymentShort, IsPeriodShort}
use Rattle.irs_json.specs.Leaves.{present}
use Rattle.irs_read.specs.Documents.{the_swap}
use Rattle.irs_schedule.proofs.WalkLemmas.{covers_within}
use Rattle.irs_schedule.specs.Parts.{Part, EntriesCover, KeepsBounds}
use Rattle.irs_schedule.specs.RowsOf.{dated_period, period_at}
use Rattle.irs_schedule.specs.declared.entries.PaymentEntry.{PaymentEntry}
use Rattle.irs_schedule.specs.declared.entries.PeriodEntry.{PeriodEntry}
use Rattle.irs_schedule.specs.declared.views.CalculationPeriod.{CalculationPeriod}
use Rattle.irs_terms.specs.declared.results.Exchange.{Exchange}
use Rattle.serde_json.specs.Data.{Data, object, string, no_members, put}
use Rattle.std.proofs.Common.{◌≡◌, ℕ, zero, suc, ◌+◌, ◌-◌, ◌≤◌, nat_le, true, List, [], ◌∷◌, ◌++◌, length, map, codes}
use Rattle.std.proofs.Common.{Option, Some, None, IfSome, Ok, option_map, refl, sym, ap, ap₂, ◌∙◌, subst, append_assoc}
use Rattle.std.proofs.Common.{append-nil, option_and_then, arith}
use Rattle.std.proofs.lemmas.Bool.Decides.{nat_tests}
use Rattle.std.proofs.lemmas.List.{map-append}
use Rattle.std.specs.Prelude.{slice_get}

-- ---- lists of rows

all_read : {X F : Type 0} (read : Data → F) (write : X → Data) (state : X → F) (P : X → Type 0) (xs : List X)
    → ((x : X) → P x → read (write x) ≡ state x) → Every P xs → map read (map write xs) ≡ map state xs
all_read read write state P [] law h = refl
all_read read write state P (x ∷ xs) law h = ap₂ (λ y ys. y ∷ ys) (law x h.0) (all_read read write state P xs law h.1)

-- ---- calculation periods

zero_more : (n : ℕ) → n + 0 ≡ n
zero_more n = omega arith

split : (p : Part) (j m n : ℕ) → period_values p j (m + n) ≡ period_values p j m ++ period_values p (j + m) n
split p j m zero = ap (period_values p j) (zero_more m) ∙ sym (append-nil (period_values p j m))
split p j m (suc n) =
    let up : m + suc n ≡ suc (m + n) = omega arith in
    let place : j + (m + n) ≡ j + m + n = omega arith in
    ap (period_values p j) up ∙ ap₂ (λ a b. a ++ b) (split p j m n) (ap (one_period p) place)
    ∙ append_assoc (period_values p j m) (period_values p (j + m) n) (one_period p (j + m + n))

first_then : (p : Part) (j n : ℕ) → period_values p j (suc n) ≡ one_period p j ++ period_values p (j + 1) n
first_then p j n =
    let up : suc n ≡ 1 + n = omega arith in
    ap (period_values p j) up ∙ split p j 1 n ∙ ap (λ k. one_period p k ++ period_values p (j + 1) n) (zero_more j)

listed_read : (p : Part) (j : ℕ) (o : Option CalculationPeriod) (x : CalculationPeriod) → period_at p j ≡ o → o ≡ Some x
    → IsPartShort p → map period_in (one_period p j) ≡ stated_period x (slice_get p.resets j) ∷ []
listed_read p j o x there is h =
    let short : IsPeriodShort x =
    subst (λ (o : Option CalculationPeriod). IfSome o IsPeriodShort) (there ∙ is) (h.periods j) in
    ap (λ o. map period_in (listed_period (slice_get p.resets j) o)) (there ∙ is)
    ∙ ap (λ f. f ∷ []) (period_reads x (slice_get p.resets j) short (h.resets j))

periods_read : (p : Part) (j : ℕ) (es : List PeriodEntry) → IsPartShort p
    → ((i : ℕ) → slice_get p.periods (j + i) ≡ slice_get es i)
    → map period_in (period_values p j (length es)) ≡ stated_periods_from p j es
periods_read p j [] h at = refl
periods_read p j (e ∷ es) h at =
    let here : slice_get p.periods j ≡ Some e = ap (slice_get p.periods) (sym (zero_more j)) ∙ at 0 in
    let one = listed_read p j (period_at p j) (dated_period p (j + 1) e) refl
    (ap (option_map (dated_period p (j + 1))) here) h in
    let later : (i : ℕ) → slice_get p.periods (j + 1 + i) ≡ slice_get es i =
    λ i. (let up : j + 1 + i ≡ j + suc i = omega arith in ap (slice_get p.periods) up ∙ at (suc i)) in
    ap (map period_in) (first_then p j (length es))
    ∙ map-append period_in (one_period p j) (period_values p (j + 1) (length es))
    ∙ ap₂ (λ a b. a ++ b) one (periods_read p (j + 1) es h later)

all_periods : (p : Part) → IsPartShort p → map period_in (period_values p 0 (length p.periods))
    ≡ stated_periods_from p 0 p.periods
all_periods p h = periods_read p 0 p.periods h (λ i. (let e : 0 + i ≡ i = omega arith in ap (slice_get p.periods) e))

-- ---- the periods of the payments are all periods

periods_of_payment : (p : Part) (y : PaymentEntry)
    → periods_in (payment_value p y) ≡ period_values p (y.first_period - 1) (y.last_period + 1 - y.first_period)
unfolding payment_value
periods_of_payment p y = array_values (period_values p (y.first_period - 1) (y.last_period + 1 - y.first_period))

covered : (p : Part) (a n : ℕ) (ys : List PaymentEntry) → 1 ≤ a → a ≤ n + 1 → EntriesCover a ys n
    → flow_periods_of (map (payment_value p) ys) ≡ period_values p (a - 1) (n + 1 - a)
covered p a n [] l k h = let none : n + 1 - a ≡ 0 = omega (arith, h) in ap (period_values p (a - 1)) (sym none)
covered p a n (y ∷ ys) l k h =
    let first = h.0 in
    let order = h.1 in
    let within = covers_within (y.last_period + 1) n ys h.2 in
    let m = y.last_period + 1 - y.first_period in
    let rest = covered p (y.last_period + 1) n ys (omega arith) (omega (arith, within)) h.2 in
    let start : y.first_period - 1 ≡ a - 1 = omega (arith, first) in
    let place : y.last_period + 1 - 1 ≡ a - 1 + m = omega (arith, first, order, l) in
    let total : n + 1 - a ≡ m + (n + 1 - (y.last_period + 1)) = omega (arith, first, order, within) in
    ap₂ (λ u v. u ++ v) (periods_of_payment p y ∙ ap (λ j. period_values p j m) start) (rest
    ∙ ap (λ j. period_values p j (n + 1 - (y.last_period + 1))) place)
    ∙ sym (split p (a - 1) m (n + 1 - (y.last_period + 1))) ∙ ap (period_values p (a - 1)) (sym total)

-- ---- the cash flows of a stream

exchanges_listed : (xs : List Exchange) → values_of (option_and_then present (known_exchanges xs))
    ≡ map exchange_value xs
exchanges_listed [] = refl
exchanges_listed (x ∷ xs) = array_values (map exchange_value (x ∷ xs))

is_few : (n : ℕ) → n ≤ most_rows → nat_le n most_rows ≡ true
is_few n h = grind (arith, nat_tests)

few_stay : (ds : List Data) → length ds ≤ most_rows → few ds ≡ ds
few_stay ds h = rw (is_few (length ds) h) refl

-- cash flows with these exchanges and payments
abbrev cash : Option Data → Data → Data
cash o payments = object (
    put_known (codes "principalExchange") o
    (put (codes "cashflowsMatchParameters") (string (codes "true"))
    (put (codes "paymentCalculationPeriod") payments
    no_members)))

exchange_member : (o : Option Data) (payments : Data)
    → values_in (codes "principalExchange") (Some (cash o payments)) ≡ values_of (option_and_then present o)
exchange_member None payments = refl
exchange_member (Some d) payments = refl

payment_member : (o : Option Data) (payments : Data)
    → values_in (codes "paymentCalculationPeriod") (Some (cash o payments)) ≡ values_of (present payments)
payment_member None payments = refl
payment_member (Some d) payments = refl

-- mapping a list keeps its length
pub mapped_length : {X : Type 0} (f : X → Data) (xs : List X) → length (map f xs) ≡ length xs
mapped_length f [] = refl
mapped_length f (x ∷ xs) = ap suc (mapped_length f xs)

exchanges_of : (p : Part) → values_in (codes "principalExchange") (Some (cashflows_value p))
    ≡ map exchange_value p.exchanges
unfolding cashflows_value
exchanges_of p =
    exchange_member (known_exchanges p.exchanges) (array_of (map (payment_value p) p.payments))
    ∙ exchanges_listed p.exchanges

payments_of : (p : Part) → KeepsBounds p → payments_in (Some (cashflows_value p)) ≡ map (payment_value p) p.payments
unfolding cashflows_value
payments_of p h =
    let ds = map (payment_value p) p.payments in
    let count = payments_few p h in
    let periods = h.few in
    ap few (payment_member (known_exchanges p.exchanges) (array_of ds) ∙ array_values ds)
    ∙ few_stay ds (omega (arith, mapped_length (payment_value p) p.payments, count, periods))

part_of : (a : List FlowExchange) (b : List FlowPayment) (c : List FlowPeriod) (f : FlowPart) → a ≡ f.exchanges
    → b ≡ f.payments → c ≡ f.periods → (record { exchanges = a; payments = b; periods = c }) ≡ f
part_of a b c f e1 e2 e3 = rw (e1, e2, e3) refl

-- the periods that the payments list are all of them
pub periods_are : (p : Part) → KeepsBounds p → flow_periods_of (payments_in (Some (cashflows_value p)))
    ≡ period_values p 0 (length p.periods)
periods_are p h =
    let n = length p.periods in
    let some = h.some in
    let same : n + 1 - 1 ≡ n = omega arith in
    ap flow_periods_of (payments_of p h) ∙ covered p 1 n p.payments (omega arith) (omega arith) h.covers
    ∙ ap (period_values p 0) same

flows_read : (p : Part) → IsPartShort p → flows_in (Some (cashflows_value p)) ≡ stated_part p
flows_read p h =
    let paid = payments_of p h.bounds in
    part_of _ _ _ (stated_part p)
    (ap (map exchange_in) (exchanges_of p)
    ∙ all_read exchange_in exchange_value stated_exchange IsExchangeShort p.exchanges exchange_reads h.exchanges)
    (ap (map payment_in) paid
    ∙ all_read payment_in (payment_value p) (stated_payment p.currency) (IsPaymentShort p) p.payments
    (payment_reads p) h.payments)
    (ap (map period_in) (periods_are p h.bounds) ∙ all_periods p h)

its_flows : (p : Part) → once (codes "cashflows") (stream_value p) ≡ Some (cashflows_value p)
unfolding cashflows_value
its_flows p = refl

-- the object of a stream reads back as its flows
pub stream_reads : StreamReadsBack
stream_reads p h = ap flows_in (its_flows p) ∙ flows_read p h

-- the swap of the value is the object with the streams
pub its_swap : (s : List Part) → the_swap (emit_value s)
    ≡ Ok (object_with (codes "swapStream") (array_of (map stream_value s)))
unfolding emit_value
its_swap s = refl

-- the swap of the emitted value states the flows
pub swap_reads : (s : List Part) → Every IsPartShort s
    → stated_flows s ≡ flow_parts_in (object_with (codes "swapStream") (array_of (map stream_value s)))
swap_reads s h =
    sym (ap (map flow_part_in) (array_values (map stream_value s))
    ∙ all_read flow_part_in stream_value stated_part IsPartShort s stream_reads h)
