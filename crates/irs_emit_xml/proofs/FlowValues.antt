-- The elements of a schedule mean the value that is emitted as JSON, as XML carries it.
use Rattle.std.proofs.Common.{◌≡◌, ℕ, zero, suc, ◌+◌, ◌-◌, ◌<◌, List, [], ◌∷◌, ◌++◌, length, map, Option, Some, None}
use Rattle.std.proofs.Common.{option_map, ℤ, codes, inl, inr, refl, sym, ap, subst, ◌∙◌, arith}
use Rattle.std.proofs.lemmas.List.{map-append}
use Rattle.std.proofs.lemmas.Option.{slice_get_cases}
use Rattle.std.specs.Prelude.{slice_get}
use Rattle.irs_base.specs.Texts.{day_text}
use Rattle.irs_base.specs.Lists.{Every}
use Rattle.irs_base.specs.declared.line.Dec.{Dec}
use Rattle.irs_terms.specs.declared.currency.Currency.{Currency}
use Rattle.irs_terms.specs.declared.results.Exchange.{Exchange}
use Rattle.irs_terms.specs.declared.results.Reset.{Reset}
use Rattle.irs_schedule.specs.Parts.{Part, EntriesCover, IsWithin}
use Rattle.irs_schedule.specs.RowsOf.{period_at, dated_period}
use Rattle.irs_schedule.specs.declared.entries.PaymentEntry.{PaymentEntry}
use Rattle.irs_schedule.specs.declared.views.CalculationPeriod.{CalculationPeriod}
use Rattle.irs_emit.specs.Emitted.{array_of, cashflows_value, definition_value, emit_value, exchange_value, fixed_value}
use Rattle.irs_emit.specs.Emitted.{floating_value, forecast_value, known_exchanges, listed_period as listed_value}
use Rattle.irs_emit.specs.Emitted.{observation_value, one_period as one_value, payment_value, period_members}
use Rattle.irs_emit.specs.Emitted.{period_value, period_values, put_known, stream_value, amount_leaf, rate_leaf}
use Rattle.irs_emit.specs.Emitted.{utf8_or_empty}
use Rattle.irs_emit.specs.RowLaws.{IsPartShort, IsPaymentShort}
use Rattle.irs_emit.proofs.Short.{parts_short}
use Rattle.irs_xml.specs.Content.{Child, with_children}
use Rattle.serde_json.specs.Data.{Data, string, object, Members, no_members, member, put}
use Rattle.serde_json.specs.View.{items_of}
use Rattle.irs_emit_xml.specs.Trees.{Node, leaf, node_name, node_value, children_of, written_value, value_alone, ones}
use Rattle.irs_emit_xml.specs.Flows.{element, listed_nodes, known, amount_node, rate_node, currency_node, exchange_node}
use Rattle.irs_emit_xml.specs.Flows.{forecast_node, observation_node, definition_node, rate_content, front_content}
use Rattle.irs_emit_xml.specs.Flows.{period_node, listed_period_nodes, one_period_nodes, period_nodes, payment_node}
use Rattle.irs_emit_xml.specs.Flows.{cashflows_node, stream_node, stream_nodes, day_node, fraction_node}
use Rattle.irs_emit.proofs.PlainTexts.{code_kept}
use Rattle.irs_emit_xml.proofs.Joining.{all_named, all_children, children_append, Begins, begins_append, ones_listed}

-- ---- lists

-- an element by its name and its value
abbrev child_of : Node → Child
child_of n = (node_name n, node_value n)

children_listed : (ns : List Node) → children_of (listed_nodes ns) ≡ map child_of ns
children_listed [] = refl
children_listed (n ∷ ns) = ap (λ cs. child_of n ∷ cs) (children_listed ns)

-- the members that elements make
abbrev members_by : List Child → Data
members_by cs = object (with_children cs no_members)

element_value : (name : List ℕ) (ns : List Node) → node_value (element name ns) ≡ members_by (map child_of ns)
element_value name ns = ap members_by (children_listed ns)

-- an element is known by its name and its value
child_is : (n : Node) (name : List ℕ) (d : Data) → node_name n ≡ name → node_value n ≡ d → child_of n ≡ (name, d)
child_is n name d e f = ap (λ k. (k, node_value n)) e ∙ ap (λ v. (name, v)) f

-- an array as XML carries it
ones_array : (ds : List Data) → ones (array_of ds) ≡ value_alone (items_of (map ones ds))
ones_array ds = ap value_alone (ones_listed ds)

-- rows that each have an element
children_map : {X : Type 0} (P : X → Type 0) (f : X → Node) (v : X → Data) (name : List ℕ) (xs : List X)
    → ((x : X) → P x → child_of (f x) ≡ (name, ones (v x))) → Every P xs
    → map child_of (map f xs) ≡ all_named name (map ones (map v xs))
children_map P f v name [] law h = refl
children_map P f v name (x ∷ xs) law h =
    ap (λ c. c ∷ map child_of (map f xs)) (law x h.0)
    ∙ ap (λ cs. (name, ones (v x)) ∷ cs) (children_map P f v name xs law h.1)

-- ---- exchanges

exchange_ones : (x : Exchange) → child_of (exchange_node x) ≡ (codes "principalExchange", ones (exchange_value x))
unfolding exchange_node exchange_value
exchange_ones x = refl

-- ---- the amount of a payment

forecast_by : (currency : Currency) (o : Option Dec)
    → members_by (child_of (currency_node (codes "currency") currency)
    ∷ map child_of (known (amount_node (codes "amount")) o))
    ≡ ones (object (put_known (codes "amount") (option_map amount_leaf o)
    (put (codes "currency") (string currency.letters) no_members)))
forecast_by currency None = refl
forecast_by currency (Some v) = refl

forecast_ones : (currency : Currency) (y : PaymentEntry) → utf8_or_empty currency.letters ≡ currency.letters
    → child_of (forecast_node currency y) ≡ (codes "forecastPaymentAmount", ones (forecast_value currency y))
unfolding forecast_node forecast_value
forecast_ones currency y h =
    ap (λ d. (codes "forecastPaymentAmount", d)) (
    element_value (codes "forecastPaymentAmount") (currency_node (codes "currency") currency
    ∷ known (amount_node (codes "amount")) y.amount)
    ∙ forecast_by currency y.amount
    ∙ ap (λ t. ones (object (put_known (codes "amount") (option_map amount_leaf y.amount)
    (put (codes "currency") (string t) no_members)))) (sym h))

-- ---- resets

observation_by : (a b : List ℕ) (o : Option ℤ)
    → members_by ((codes "resetDate", string a) ∷ (codes "adjustedFixingDate", string b)
    ∷ map child_of (known (rate_node (codes "observedRate")) o))
    ≡ ones (object (put_known (codes "observedRate") (option_map rate_leaf o)
    (put (codes "adjustedFixingDate") (string b) (put (codes "resetDate") (string a) no_members))))
observation_by a b None = refl
observation_by a b (Some r) = refl

observation_ones : (r : Reset) → child_of (observation_node r) ≡ (codes "rateObservation", ones (observation_value r))
unfolding observation_node observation_value
observation_ones r =
    ap (λ d. (codes "rateObservation", d)) (
    element_value (codes "rateObservation")
    (day_node (codes "resetDate") r.reset ∷ day_node (codes "adjustedFixingDate") r.fixing
    ∷ known (rate_node (codes "observedRate")) r.observed)
    ∙ observation_by (day_text r.reset) (day_text r.fixing) r.observed)

definition_by : (v : Data) (o : Option ℤ)
    → members_by (map child_of (known (rate_node (codes "calculatedRate")) o) ++ (codes "rateObservation", ones v) ∷ [])
    ≡ ones (object (put_known (codes "calculatedRate") (option_map rate_leaf o)
    (put (codes "rateObservation") v no_members)))
definition_by v None = refl
definition_by v (Some r) = refl

definition_ones : (x : CalculationPeriod) (r : Reset)
    → child_of (definition_node x r) ≡ (codes "floatingRateDefinition", ones (definition_value x r))
unfolding definition_node definition_value
definition_ones x r =
    let front = known (rate_node (codes "calculatedRate")) x.rate in
    ap (λ d. (codes "floatingRateDefinition", d)) (
    element_value (codes "floatingRateDefinition") (front ++ observation_node r ∷ [])
    ∙ ap members_by (map-append child_of front (observation_node r ∷ [])
    ∙ ap (λ c. map child_of front ++ c ∷ []) (observation_ones r))
    ∙ definition_by (observation_value r) x.rate)

-- ---- calculation periods

-- the element after a period's rate
abbrev period_end : CalculationPeriod → Node
period_end x = fraction_node (codes "dayCountYearFraction") x.frac

fixed_by : (x : CalculationPeriod) (o : Option ℤ)
    → members_by (map child_of (front_content x)
    ++ (map child_of (known (rate_node (codes "fixedRate")) o) ++ child_of (period_end x) ∷ []))
    ≡ ones (object (put_known (codes "fixedRate") (option_map rate_leaf o) (period_members x)))
unfolding period_members
fixed_by x None = refl
fixed_by x (Some r) = refl

floating_by : (x : CalculationPeriod) (v : Data)
    → members_by (map child_of (front_content x)
    ++ ((codes "floatingRateDefinition", ones v) ∷ child_of (period_end x) ∷ []))
    ≡ ones (object (put (codes "floatingRateDefinition") v (period_members x)))
unfolding period_members
floating_by x v = refl

rate_children : (x : CalculationPeriod) (reset : Option Reset)
    → members_by (map child_of (front_content x ++ (rate_content x reset ++ period_end x ∷ []))) ≡ ones (period_value x reset)
unfolding fixed_value floating_value
rate_children x None =
    ap (λ cs. members_by (map child_of (front_content x) ++ cs))
    (map-append child_of (known (rate_node (codes "fixedRate")) x.rate) (period_end x ∷ []))
    ∙ fixed_by x x.rate
rate_children x (Some r) =
    ap (λ c. members_by (map child_of (front_content x) ++ (c ∷ child_of (period_end x) ∷ []))) (definition_ones x r)
    ∙ floating_by x (definition_value x r)

period_ones : (x : CalculationPeriod) (reset : Option Reset)
    → child_of (period_node x reset) ≡ (codes "calculationPeriod", ones (period_value x reset))
unfolding period_node
period_ones x reset =
    ap (λ d. (codes "calculationPeriod", d)) (
    element_value (codes "calculationPeriod") (front_content x ++ (rate_content x reset ++ period_end x ∷ []))
    ∙ rate_children x reset)

listed_ones : (reset : Option Reset) (o : Option CalculationPeriod)
    → map child_of (listed_period_nodes reset o) ≡ all_named (codes "calculationPeriod") (map ones (listed_value reset o))
listed_ones reset None = refl
listed_ones reset (Some x) = ap (λ c. c ∷ []) (period_ones x reset)

-- the values of n periods, as XML carries them
abbrev periods_ones_of : Part → ℕ → ℕ → List Data
periods_ones_of p j n = map ones (period_values p j n)

periods_ones : (p : Part) (j n : ℕ)
    → map child_of (period_nodes p j n) ≡ all_named (codes "calculationPeriod") (periods_ones_of p j n)
periods_ones p j zero = refl
periods_ones p j (suc n) =
    let name : List ℕ = codes "calculationPeriod" in
    map-append child_of (period_nodes p j n) (one_period_nodes p (j + n))
    ∙ ap (λ cs. cs ++ map child_of (one_period_nodes p (j + n))) (periods_ones p j n)
    ∙ ap (λ cs. all_named name (periods_ones_of p j n) ++ cs)
    (listed_ones (slice_get p.resets (j + n)) (period_at p (j + n)))
    ∙ sym (map-append (λ (d : Data). (name, d)) (periods_ones_of p j n) (map ones (one_value p (j + n))))
    ∙ ap (all_named name) (sym (map-append ones (period_values p j n) (one_value p (j + n))))

-- ---- payments

period_begins : (reset : Option Reset) (x : CalculationPeriod) (o : Option CalculationPeriod) → o ≡ Some x
    → Begins (map ones (listed_value reset o))
unfolding fixed_value floating_value
period_begins reset x None e = absurd (cc e)
period_begins None x (Some y) e = tt
period_begins (Some r) x (Some y) e = tt

periods_begin : (p : Part) (j n : ℕ) (x : CalculationPeriod) → period_at p (j + 0) ≡ Some x
    → Begins (periods_ones_of p j (suc n))
periods_begin p j zero x e = period_begins (slice_get p.resets (j + 0)) x (period_at p (j + 0)) e
periods_begin p j (suc n) x e =
    subst Begins (sym (map-append ones (period_values p j (suc n)) (one_value p (j + suc n))))
    (begins_append (periods_ones_of p j (suc n)) (map ones (one_value p (j + suc n))) (periods_begin p j n x e))

-- there is a period at each place below their number
period_there : (p : Part) (j : ℕ) → j < length p.periods → (x : CalculationPeriod) × (period_at p j ≡ Some x)
period_there p j l = elim (slice_get_cases p.periods j).1 [
  | inl w ↦ let there = w.2 in (dated_period p (j + 1) w.0, ap (option_map (dated_period p (j + 1))) there)
  | inr w ↦ absurd (let past = w.0 in omega (arith, l, past))
]

-- a payment begins with an object
pub paid_begin : (p : Part) (y : PaymentEntry) → IsPaymentShort p y
    → Begins (periods_ones_of p (y.first_period - 1) (y.last_period + 1 - y.first_period))
paid_begin p y h =
    let first = h.first in let order = h.order in let last = h.last in
    let count : y.last_period + 1 - y.first_period ≡ suc (y.last_period - y.first_period) =
    omega (arith, first, order) in
    let place : y.first_period - 1 ≡ y.first_period - 1 + 0 = omega arith in
    let there = period_there p (y.first_period - 1) (omega (arith, first, order, last)) in
    subst (λ n. Begins (periods_ones_of p (y.first_period - 1) n)) (sym count)
    (periods_begin p (y.first_period - 1) (y.last_period - y.first_period) there.0 (ap (period_at p) (sym place)
    ∙ there.1))

payment_by : (u a : List ℕ) (ds : List Data) (f : Data) → Begins ds
    → members_by ((codes "unadjustedPaymentDate", string u) ∷ (codes "adjustedPaymentDate", string a)
    ∷ (all_named (codes "calculationPeriod") ds ++ (codes "forecastPaymentAmount", f) ∷ []))
    ≡ object (member (codes "adjustedPaymentDate") (string a) (member (codes "calculationPeriod") (value_alone (items_of ds))
    (member (codes "forecastPaymentAmount") f (member (codes "unadjustedPaymentDate") (string u) no_members))))
payment_by u a ds f b =
    let ms : Members = member (codes "adjustedPaymentDate") (string a)
    (member (codes "unadjustedPaymentDate") (string u) no_members) in
    let last : List Child = (codes "forecastPaymentAmount", f) ∷ [] in
    ap object (children_append (all_named (codes "calculationPeriod") ds) last ms
    ∙ ap (with_children last) (all_children (codes "calculationPeriod") ds ms b refl))

payment_ones : (p : Part) → utf8_or_empty p.currency.letters ≡ p.currency.letters → (y : PaymentEntry) → IsPaymentShort p y
    → child_of (payment_node p y) ≡ (codes "paymentCalculationPeriod", ones (payment_value p y))
unfolding payment_node payment_value
payment_ones p h y short =
    let j = y.first_period - 1 in
    let n = y.last_period + 1 - y.first_period in
    let u = day_node (codes "unadjustedPaymentDate") y.unadjusted in
    let a = day_node (codes "adjustedPaymentDate") y.adjusted in
    let ds = periods_ones_of p j n in
    ap (λ d. (codes "paymentCalculationPeriod", d)) (
    element_value (codes "paymentCalculationPeriod") (u ∷ a ∷ (period_nodes p j n ++ forecast_node p.currency y ∷ []))
    ∙ ap (λ cs. members_by (child_of u ∷ child_of a ∷ cs))
    (map-append child_of (period_nodes p j n) (forecast_node p.currency y ∷ [])
    ∙ ap (λ cs. cs ++ child_of (forecast_node p.currency y) ∷ []) (periods_ones p j n)
    ∙ ap (λ c. all_named (codes "calculationPeriod") ds ++ c ∷ []) (forecast_ones p.currency y h))
    ∙ payment_by (day_text y.unadjusted) (day_text y.adjusted) ds (ones (forecast_value p.currency y))
    (paid_begin p y short)
    ∙ ap (λ d. object (member (codes "adjustedPaymentDate") (string (day_text y.adjusted))
    (member (codes "calculationPeriod") d
    (member (codes "forecastPaymentAmount") (ones (forecast_value p.currency y))
    (member (codes "unadjustedPaymentDate") (string (day_text y.unadjusted)) no_members)))))
    (sym (ones_array (period_values p j n))))

-- ---- streams

-- that cash flows match the parameters
abbrev matches : Child
matches = (codes "cashflowsMatchParameters", string (codes "true"))

cash_alone : (ps : List Data) → Begins ps
    → members_by (matches ∷ all_named (codes "paymentCalculationPeriod") ps)
    ≡ object (member (codes "cashflowsMatchParameters") (string (codes "true"))
    (member (codes "paymentCalculationPeriod") (value_alone (items_of ps)) no_members))
cash_alone ps b =
    let ms : Members = member (codes "cashflowsMatchParameters") (string (codes "true")) no_members in
    ap object (all_children (codes "paymentCalculationPeriod") ps ms b refl)

cash_exchanged : (es ps : List Data) → Begins es → Begins ps
    → members_by (matches ∷ (all_named (codes "principalExchange") es
    ++ all_named (codes "paymentCalculationPeriod") ps))
    ≡ object (member (codes "cashflowsMatchParameters") (string (codes "true"))
    (member (codes "paymentCalculationPeriod") (value_alone (items_of ps))
    (member (codes "principalExchange") (value_alone (items_of es)) no_members)))
cash_exchanged es ps a b =
    let ms : Members = member (codes "cashflowsMatchParameters") (string (codes "true")) no_members in
    let with_exchanges : Members =
    member (codes "cashflowsMatchParameters") (string (codes "true"))
    (member (codes "principalExchange") (value_alone (items_of es)) no_members) in
    ap object (children_append (all_named (codes "principalExchange") es)
    (all_named (codes "paymentCalculationPeriod") ps) ms
    ∙ ap (with_children (all_named (codes "paymentCalculationPeriod") ps))
    (all_children (codes "principalExchange") es ms a refl)
    ∙ all_children (codes "paymentCalculationPeriod") ps with_exchanges b refl)

every_any : {X : Type 0} (xs : List X) → Every (λ (x : X). Unit {0}) xs
every_any [] = tt
every_any (x ∷ xs) = (tt, every_any xs)

exchanges_begin : (x : Exchange) (xs : List Exchange) → Begins (map ones (map exchange_value (x ∷ xs)))
unfolding exchange_value
exchanges_begin x xs = tt

cash_ones : (xs : List Exchange) (pv : List Data) → Begins (map ones pv)
    → members_by (matches ∷ (map child_of (map exchange_node xs)
    ++ all_named (codes "paymentCalculationPeriod") (map ones pv)))
    ≡ ones (object (put_known (codes "principalExchange") (known_exchanges xs)
    (put (codes "cashflowsMatchParameters") (string (codes "true"))
    (put (codes "paymentCalculationPeriod") (array_of pv) no_members))))
cash_ones [] pv b =
    cash_alone (map ones pv) b
    ∙ ap (λ d. object (member (codes "cashflowsMatchParameters") (string (codes "true"))
    (member (codes "paymentCalculationPeriod") d no_members)))
    (sym (ones_array pv))
cash_ones (x ∷ xs) pv b =
    let ev = map exchange_value (x ∷ xs) in
    ap (λ cs. members_by (matches ∷ (cs ++ all_named (codes "paymentCalculationPeriod") (map ones pv))))
    (children_map (λ (e : Exchange). Unit {0}) exchange_node exchange_value (codes "principalExchange") (x ∷ xs)
    (λ e t. exchange_ones e) (every_any (x ∷ xs)))
    ∙ cash_exchanged (map ones ev) (map ones pv) (exchanges_begin x xs) b
    ∙ ap (λ d. object (member (codes "cashflowsMatchParameters") (string (codes "true"))
    (member (codes "paymentCalculationPeriod") d
    (member (codes "principalExchange") (value_alone (items_of (map ones ev))) no_members)))) (sym (ones_array pv))
    ∙ ap (λ d. object (member (codes "cashflowsMatchParameters") (string (codes "true"))
    (member (codes "paymentCalculationPeriod") (ones (array_of pv))
    (member (codes "principalExchange") d no_members)))) (sym (ones_array ev))

payments_begin_by : (p : Part) (ys : List PaymentEntry) (n : ℕ) → EntriesCover 1 ys n → 0 < n
    → Begins (map ones (map (payment_value p) ys))
unfolding payment_value
payments_begin_by p [] n c l = absurd (omega (arith, c, l))
payments_begin_by p (y ∷ ys) n c l = tt

-- what a stream is known by
cashflows_ones : (p : Part) → IsPartShort p
    → child_of (cashflows_node p) ≡ (codes "cashflows", ones (cashflows_value p))
unfolding cashflows_node cashflows_value
cashflows_ones p h =
    let match_node = leaf (codes "cashflowsMatchParameters") (codes "true") in
    let xs = map exchange_node p.exchanges in
    let ys = map (payment_node p) p.payments in
    let pv = map (payment_value p) p.payments in
    ap (λ d. (codes "cashflows", d)) (
    element_value (codes "cashflows") (match_node ∷ (xs ++ ys))
    ∙ ap (λ cs. members_by (matches ∷ cs)) (map-append child_of xs ys
    ∙ ap (λ cs. map child_of xs ++ cs)
    (children_map (IsPaymentShort p) (payment_node p) (payment_value p) (codes "paymentCalculationPeriod")
    p.payments (payment_ones p (code_kept p.currency h.bounds.currency)) h.payments))
    ∙ cash_ones p.exchanges pv (payments_begin_by p p.payments (length p.periods) h.bounds.covers h.bounds.some))

stream_ones : (p : Part) → IsPartShort p → child_of (stream_node p) ≡ (codes "swapStream", ones (stream_value p))
unfolding stream_node
stream_ones p h = ap (λ c. (codes "swapStream", members_by (c ∷ []))) (cashflows_ones p h)

streams_begin : (s : List Part) → 0 < length s → Begins (map ones (map stream_value s))
streams_begin [] l = absurd (omega arith)
streams_begin (p ∷ s) l = tt

-- the value of the elements of a schedule
pub value_is : (s : List Part) → IsWithin s → written_value (codes "swap") (stream_nodes s) ≡ ones (emit_value s)
unfolding written_value emit_value
value_is s h =
    let vs = map stream_value s in
    ap (λ ms. object (member (codes "swap") (object ms) no_members)) (
    ap (λ cs. with_children cs no_members) (children_listed (map stream_node s)
    ∙ children_map IsPartShort stream_node stream_value (codes "swapStream") s stream_ones (parts_short s h.each))
    ∙ all_children (codes "swapStream") (map ones vs) no_members (streams_begin s h.some) refl)
    ∙ ap (λ d. object (member (codes "swap") (object (member (codes "swapStream") d no_members)) no_members))
    (sym (ones_array vs))
