-- The compact text of the emitted value reads as that value.
use Rattle.irs_base.specs.declared.line.Dec.{Dec}
use Rattle.irs_emit.proofs.ReadBack.{Built, ItemsBuilt, MembersBuilt, built_depth}
use Rattle.irs_emit.specs.Emitted.{array_of, cashflows_value, definition_value, emit_value, exchange_value, fixed_value}
use Rattle.irs_emit.specs.Emitted.{floating_value, forecast_value, known_exchanges, listed_period, observation_value}
use Rattle.irs_emit.specs.Emitted.{object_with, one_period, payment_value, period_members, period_value, period_values}
use Rattle.irs_emit.specs.Emitted.{put_known, stream_value, amount_leaf, currency_leaf, day_leaf, rate_leaf}
use Rattle.irs_schedule.specs.Parts.{Part}
use Rattle.irs_schedule.specs.RowsOf.{period_at}
use Rattle.irs_schedule.specs.declared.entries.PaymentEntry.{PaymentEntry}
use Rattle.irs_schedule.specs.declared.views.CalculationPeriod.{CalculationPeriod}
use Rattle.irs_terms.specs.declared.currency.Currency.{Currency}
use Rattle.irs_terms.specs.declared.results.Exchange.{Exchange}
use Rattle.irs_terms.specs.declared.results.Reset.{Reset}
use Rattle.json.proofs.Printed.Tokens.{tokens-print}
use Rattle.json.proofs.Printed.Trees.{ArePrintable-json_tokens, value-json_tokens}
use Rattle.json.specs.Json as json
use Rattle.json.specs.Tree as tree
use Rattle.serde_json.proofs.Texts.{print-outline}
use Rattle.serde_json.specs.Data.{Data, null, boolean, number, string, array, object, Items, no_items, item, Members}
use Rattle.serde_json.specs.Data.{no_members, member, put, depth, items_depth, members_depth}
use Rattle.serde_json.specs.Read.{max_depth, of_items, of_json, read}
use Rattle.serde_json.specs.View.{items_of}
use Rattle.serde_json.specs.Written.{compact_text, items_outline, members_outline, outline}
use Rattle.std.proofs.Common.{◌≡◌, ℕ, ℤ, zero, suc, ◌+◌, ◌-◌, ◌≤◌, List, [], ◌∷◌, ◌++◌, map, Option, Some, None}
use Rattle.std.proofs.Common.{option_map}
use Rattle.std.proofs.Common.{codes, refl, sym, ap, ap₂, ◌∙◌, arith, append-nil}
use Rattle.std.specs.Prelude.{max, option_and_then, slice_get}

-- ---- a value whose leaves are strings

mutual
  -- its outline nests as deep
  outline_depth : (d : Data) → tree.depth (outline d) ≡ depth d
  outline_depth null = refl
  outline_depth (boolean b) = refl
  outline_depth (number x) = refl
  outline_depth (string s) = refl
  outline_depth (array ds) = ap suc (items_deep ds)
  outline_depth (object ms) = ap suc (members_deep ms)

  items_deep : (ds : Items) → tree.items_depth (items_outline ds) ≡ items_depth ds
  items_deep no_items = refl
  items_deep (item d ds) = ap₂ max (outline_depth d) (items_deep ds)

  members_deep : (ms : Members) → tree.members_depth (members_outline ms) ≡ members_depth ms
  members_deep no_members = refl
  members_deep (member k d ms) = ap₂ max (outline_depth d) (members_deep ms)

mutual
  -- it has no number
  numberless : (n : ℕ) (d : Data) → Built n d → tree.HasNumbers (outline d)
  numberless n null h = absurd h
  numberless n (boolean b) h = absurd h
  numberless n (number x) h = absurd h
  numberless n (string s) h = tt
  numberless n (array ds) h = items_numberless (n - 1) ds h.1
  numberless n (object ms) h = members_numberless (n - 1) ms h.1

  items_numberless : (n : ℕ) (ds : Items) → ItemsBuilt n ds → tree.ItemsHaveNumbers (items_outline ds)
  items_numberless n no_items h = tt
  items_numberless n (item d ds) h = (numberless n d h.0, items_numberless n ds h.1)

  members_numberless : (n : ℕ) (ms : Members) → MembersBuilt n ms → tree.MembersHaveNumbers (members_outline ms)
  members_numberless n no_members h = tt
  members_numberless n (member k d ms) h = (numberless n d h.0, members_numberless n ms h.1)

-- a value that is the value of its outline: in each object a name is there once, and names are in order
abbrev pub Kept : Data → Type 0
Kept d = of_json (outline d) ≡ Some d

-- the compact text of such a value reads as the value
pub kept_reads : (n : ℕ) (d : Data) → Built n d → n ≤ max_depth → Kept d → read (compact_text d) ≡ Some d
kept_reads n d h l kept =
    let j = outline d in
    let deep = built_depth n d h in
    let e = outline_depth d in
    let tokens = tokens-print (tree.json_tokens j) (ArePrintable-json_tokens j (numberless n d h))
    ∙ sym (append-nil (tree.json_tokens j)) in
    let parsed = ap (json.value max_depth) tokens ∙ value-json_tokens j max_depth [] (omega (arith, deep, e, l)) in
    ap read (sym (print-outline d))
    ∙ ap (λ o. option_and_then of_json (option_and_then (λ p. json.if_last p.0 p.1) o)) parsed ∙ kept

-- ---- arrays

-- each value of a list is kept
abbrev ListKept : List Data → Type 0
ListKept [] = Unit {0}
ListKept (d ∷ ds) = Kept d × ListKept ds

items_kept : (ds : List Data) → ListKept ds → of_items (items_outline (items_of ds)) ≡ Some (items_of ds)
items_kept [] h = refl
items_kept (d ∷ ds) h = let one = h.0 in let more = items_kept ds h.1 in rw (one, more) refl

array_kept : (ds : List Data) → ListKept ds → Kept (array_of ds)
array_kept ds h = ap (option_map array) (items_kept ds h)

map_kept : {X : Type 0} (f : X → Data) (xs : List X) → ((x : X) → Kept (f x)) → ListKept (map f xs)
map_kept f [] h = tt
map_kept f (x ∷ xs) h = (h x, map_kept f xs h)

append_kept : (a b : List Data) → ListKept a → ListKept b → ListKept (a ++ b)
append_kept [] b h k = k
append_kept (d ∷ a) b h k = (h.0, append_kept a b h.1 k)

-- ---- rows

exchange_kept : (x : Exchange) → Kept (exchange_value x)
unfolding exchange_value
exchange_kept x = refl

forecast_by : (currency : Currency) (o : Option Dec)
    → Kept (object (put_known (codes "amount") (option_map amount_leaf o)
    (put (codes "currency") (currency_leaf currency) no_members)))
forecast_by currency None = refl
forecast_by currency (Some v) = refl

forecast_kept : (currency : Currency) (y : PaymentEntry) → Kept (forecast_value currency y)
unfolding forecast_value
forecast_kept currency y = forecast_by currency y.amount

observation_by : (fixing reset : ℤ) (o : Option ℤ)
    → Kept (object (put_known (codes "observedRate") (option_map rate_leaf o)
    (put (codes "adjustedFixingDate") (day_leaf fixing) (put (codes "resetDate") (day_leaf reset) no_members))))
observation_by fixing reset None = refl
observation_by fixing reset (Some u) = refl

observation_kept : (r : Reset) → Kept (observation_value r)
unfolding observation_value
observation_kept r = observation_by r.fixing r.reset r.observed

definition_by : (o : Option ℤ) (d : Data) → Kept d
    → Kept (object (put_known (codes "calculatedRate") (option_map rate_leaf o)
    (put (codes "rateObservation") d no_members)))
definition_by None d h = rw h refl
definition_by (Some u) d h = rw h refl

definition_kept : (x : CalculationPeriod) (r : Reset) → Kept (definition_value x r)
unfolding definition_value
definition_kept x r = definition_by x.rate (observation_value r) (observation_kept r)

fixed_by : (x : CalculationPeriod) (o : Option ℤ)
    → Kept (object (put_known (codes "fixedRate") (option_map rate_leaf o) (period_members x)))
unfolding period_members
fixed_by x None = refl
fixed_by x (Some u) = refl

floating_by : (x : CalculationPeriod) (d : Data) → Kept d
    → Kept (object (put (codes "floatingRateDefinition") d (period_members x)))
unfolding period_members
floating_by x d h = rw h refl

period_kept : (x : CalculationPeriod) (reset : Option Reset) → Kept (period_value x reset)
unfolding fixed_value floating_value
period_kept x None = fixed_by x x.rate
period_kept x (Some r) = floating_by x (definition_value x r) (definition_kept x r)

listed_kept : (reset : Option Reset) (o : Option CalculationPeriod) → ListKept (listed_period reset o)
listed_kept reset None = tt
listed_kept reset (Some x) = (period_kept x reset, tt)

periods_kept : (p : Part) (first n : ℕ) → ListKept (period_values p first n)
periods_kept p first zero = tt
periods_kept p first (suc n) =
    append_kept (period_values p first n) (one_period p (first + n)) (periods_kept p first n)
    (listed_kept (slice_get p.resets (first + n)) (period_at p (first + n)))

payment_by : (adjusted unadjusted : ℤ) (a f : Data) → Kept a → Kept f
    → Kept (object (put (codes "adjustedPaymentDate") (day_leaf adjusted)
    (put (codes "calculationPeriod") a
    (put (codes "forecastPaymentAmount") f
    (put (codes "unadjustedPaymentDate") (day_leaf unadjusted)
    no_members)))))
payment_by adjusted unadjusted a f h k = rw (h, k) refl

payment_kept : (p : Part) (y : PaymentEntry) → Kept (payment_value p y)
unfolding payment_value
payment_kept p y =
    let ds = period_values p (y.first_period - 1) (y.last_period + 1 - y.first_period) in
    payment_by y.adjusted y.unadjusted (array_of ds) (forecast_value p.currency y)
    (array_kept ds (periods_kept p (y.first_period - 1) (y.last_period + 1 - y.first_period)))
    (forecast_kept p.currency y)

cashflows_by : (a : Data) (xs : List Exchange) → Kept a
    → Kept (object (put_known (codes "principalExchange") (known_exchanges xs)
    (put (codes "cashflowsMatchParameters") (string (codes "true"))
    (put (codes "paymentCalculationPeriod") a no_members))))
cashflows_by a [] h = rw h refl
cashflows_by a (x ∷ xs) h =
    let k : Kept (array_of (map exchange_value (x ∷ xs))) =
    array_kept (map exchange_value (x ∷ xs)) (map_kept exchange_value (x ∷ xs) exchange_kept) in
    rw (h, k) refl

cashflows_kept : (p : Part) → Kept (cashflows_value p)
unfolding cashflows_value
cashflows_kept p =
    cashflows_by (array_of (map (payment_value p) p.payments)) p.exchanges
    (array_kept (map (payment_value p) p.payments) (map_kept (payment_value p) p.payments (payment_kept p)))

with_kept : (name : List ℕ) (d : Data) → Kept d → Kept (object_with name d)
with_kept name d h = rw h refl

stream_kept : (p : Part) → Kept (stream_value p)
stream_kept p = with_kept (codes "cashflows") (cashflows_value p) (cashflows_kept p)

-- the value of a schedule is that of its outline
pub emit_kept : (s : List Part) → Kept (emit_value s)
unfolding emit_value
emit_kept s =
    with_kept (codes "swap") (object_with (codes "swapStream") (array_of (map stream_value s)))
    (with_kept (codes "swapStream") (array_of (map stream_value s))
    (array_kept (map stream_value s) (map_kept stream_value s stream_kept)))
