-- The value of the document has no fault of the tables of cash flows, and states the flows of the schedule.
use Rattle.std.proofs.Common.{◌≡◌, ℕ, zero, suc, ◌+◌, ◌-◌, ◌<◌, ◌≤◌, nat_le, Bool, true, false, not, inl, inr, List, []}
use Rattle.std.proofs.Common.{◌∷◌, ◌++◌, length, map, if◌then◌else◌}
use Rattle.std.proofs.Common.{Option, Some, None, IfSome, Ok, Err, option_map, option_and_then, ℤ, codes, refl, sym, ap}
use Rattle.std.proofs.Common.{ap₂, subst, ◌∙◌, arith}
use Rattle.std.specs.List.{flat_map}
use Rattle.std.specs.Prelude.{slice_get, unwrap_or, Result}
use Rattle.irs_base.specs.Days.{IsDay}
use Rattle.irs_base.specs.Limits.{most_rows}
use Rattle.irs_base.specs.Lists.{Every}
use Rattle.irs_base.specs.Texts.{day_text}
use Rattle.irs_base.specs.declared.line.Dec.{Dec}
use Rattle.irs_terms.specs.declared.places.Broken.{Broken}
use Rattle.irs_terms.specs.declared.currency.Currency.{Currency}
use Rattle.irs_terms.specs.declared.results.Exchange.{Exchange}
use Rattle.irs_elements.specs.Elements.{once, values_in, values_of}
use Rattle.irs_elements.specs.Leaves.{is_currency}
use Rattle.irs_elements.specs.declared.table.Choice.TheVariants.{Free}
use Rattle.irs_elements.specs.declared.table.Kind.TheVariants.{Object}
use Rattle.irs_elements.specs.declared.table.Leaf.TheVariants.{Date}
use Rattle.irs_json.specs.Leaves.{present, element_names, items_of as held}
use Rattle.irs_read.proofs.TableLaws.{by_tables}
use Rattle.irs_read.specs.Documents.{the_swap, below, ended, in_stream, many_streams, no_stream}
use Rattle.irs_schedule.specs.Parts.{EntriesCover, IsWithin, Part}
use Rattle.irs_schedule.specs.declared.entries.PaymentEntry.{PaymentEntry}
use Rattle.irs_audit.proofs.BoundLemmas.{payments_few}
use Rattle.irs_flows.proofs.FlowLaws.{flow_names_are, flow_rows_are}
use Rattle.irs_audit.proofs.StatedLemmas.{flows_agree}
use Rattle.irs_flows.specs.FlowFaults.{CashflowsFault, FlowFault, OnceFault, PeriodsFault, FlowStreamFault}
use Rattle.irs_flows.specs.FlowFaults.{FlowStreamsFault, FlowSwapFault, few, is_sound, payments_in, periods_in}
use Rattle.irs_flows.specs.FlowFaults.{flow_periods_of, flow_names, flow_rows}
use Rattle.irs_flows.specs.FlowReading.{exchange_in, flows_in, payment_in, period_in, flow_part_in, flow_parts_in}
use Rattle.irs_flows.specs.FlowReading.{FlowPart}
use Rattle.irs_flows.specs.declared.flows.FlowExchange.{FlowExchange}
use Rattle.irs_flows.specs.declared.flows.FlowPayment.{FlowPayment}
use Rattle.irs_flows.specs.declared.flows.FlowPeriod.{FlowPeriod}
use Rattle.irs_emit.proofs.Clean.{NoFault, ValuesFree, absent_free, object_free, one_value, passed_free, present_free}
use Rattle.irs_emit.proofs.CleanParts.{F, M, array_free, emitted_free, flow_at, forecast_free, forecast_with}
use Rattle.irs_emit.proofs.CleanRows.{day_kept, exchange_free, leaf_member}
use Rattle.irs_emit.proofs.PartsRead.{its_swap, mapped_length, swap_reads}
use Rattle.irs_emit.proofs.RowsRead.{array_values, from_items}
use Rattle.irs_emit.proofs.Short.{parts_short}
use Rattle.irs_emit.specs.Emitted.{array_of, cashflows_value, emit_value, exchange_value, forecast_value}
use Rattle.irs_emit.specs.Emitted.{known_exchanges, object_with, payment_value, stream_value}
use Rattle.irs_emit.specs.RowLaws.{IsPartShort, IsExchangeShort, IsPaymentShort, IsShortAmount}
use Rattle.irs_xml.specs.Document.{XmlReads}
use Rattle.serde_json.specs.Data.{Data, null, boolean, number, string, array, object, item, no_items, Members}
use Rattle.serde_json.specs.Data.{no_members, member}
use Rattle.serde_json.specs.View.{items_of}
use Rattle.irs_emit_xml.specs.Trees.{value_alone, ones}
use Rattle.irs_emit_xml.specs.Flows.{StatesInXml}
use Rattle.irs_emit_xml.proofs.Carried.{carried_cash, carried_payment, carried_stream, carried_swap, cash}
use Rattle.irs_emit_xml.proofs.Carried.{emitted_carried, known_alone, paid, periods_paid, periods_same}
use Rattle.irs_emit_xml.proofs.FlowValues.{paid_begin}
use Rattle.irs_emit_xml.proofs.Joining.{Begins}

-- ---- values that stand alone are read as a list of one

-- the values of a list, whether it is an array or not
alone_held : (ds : List Data) → Begins ds → held (value_alone (items_of ds)) ≡ ds
alone_held [] b = absurd b
alone_held (null ∷ ds) b = absurd b
alone_held (boolean x ∷ ds) b = absurd b
alone_held (number n ∷ ds) b = absurd b
alone_held (string s ∷ ds) b = absurd b
alone_held (array is ∷ ds) b = absurd b
alone_held (object ms ∷ []) b = refl
alone_held (object ms ∷ d ∷ ds) b = ap (λ l. object ms ∷ d ∷ l) (from_items ds)

-- an object, or an array with values
abbrev IsHeld : Data → Type 0
IsHeld null = ⊥
IsHeld (boolean b) = ⊥
IsHeld (number n) = ⊥
IsHeld (string s) = ⊥
IsHeld (array no_items) = ⊥
IsHeld (array (item d ds)) = Unit {0}
IsHeld (object ms) = Unit {0}

alone_is : (ds : List Data) → Begins ds → IsHeld (value_alone (items_of ds))
alone_is [] b = absurd b
alone_is (null ∷ ds) b = absurd b
alone_is (boolean x ∷ ds) b = absurd b
alone_is (number n ∷ ds) b = absurd b
alone_is (string s ∷ ds) b = absurd b
alone_is (array is ∷ ds) b = absurd b
alone_is (object ms ∷ []) b = tt
alone_is (object ms ∷ d ∷ ds) b = tt

held_present : (m : Data) → IsHeld m → present m ≡ Some m
held_present null h = absurd h
held_present (boolean b) h = absurd h
held_present (number n) h = absurd h
held_present (string s) h = absurd h
held_present (array no_items) h = absurd h
held_present (array (item d ds)) h = refl
held_present (object ms) h = refl

alone_values : (ds : List Data) → Begins ds → values_of (present (value_alone (items_of ds))) ≡ ds
alone_values ds b = ap values_of (held_present (value_alone (items_of ds)) (alone_is ds b)) ∙ alone_held ds b

-- ---- payments

-- a payment has a period
paid_begins : (p : Part) (y : PaymentEntry) → IsPaymentShort p y → Begins (periods_paid p y)
paid_begins p y h =
    subst Begins (periods_same p (y.first_period - 1) (y.last_period + 1 - y.first_period)) (paid_begin p y h)

some_paid : (p : Part) (ys : List PaymentEntry) (n : ℕ) → EntriesCover 1 ys n → 0 < n → Begins (map (carried_payment p) ys)
some_paid p [] n c l = absurd (omega (arith, c, l))
some_paid p (y ∷ ys) n c l = tt

-- a stream has a payment
payments_begin : (p : Part) → IsPartShort p → Begins (map (carried_payment p) p.payments)
payments_begin p h = some_paid p p.payments (length p.periods) h.bounds.covers h.bounds.some

payment_of : (a b : Option ℤ) (n : ℕ) (c : Option Currency) (m : Option ℤ) (y : FlowPayment) → a ≡ y.unadjusted
    → b ≡ y.adjusted → n ≡ y.periods → c ≡ y.currency → m ≡ y.amount
    → (record { unadjusted = a; adjusted = b; periods = n; currency = c; amount = m }) ≡ y
payment_of a b n c m y e1 e2 e3 e4 e5 = rw (e1, e2, e3, e4, e5) refl

-- what is read of a payment depends on the values of its periods alone
paid_in : (u a : ℤ) (m k f : Data) → values_of (present m) ≡ values_of (present k)
    → payment_in (paid u a m f) ≡ payment_in (paid u a k f)
paid_in u a m k f e = payment_of _ _ _ _ _ (payment_in (paid u a k f)) refl refl (ap length e) refl refl

payment_read : (p : Part) (y : PaymentEntry) → IsPaymentShort p y
    → payment_in (carried_payment p y) ≡ payment_in (payment_value p y)
unfolding payment_value
payment_read p y h =
    paid_in y.unadjusted y.adjusted (value_alone (items_of (periods_paid p y))) (array_of (periods_paid p y))
    (forecast_value p.currency y)
    (alone_values (periods_paid p y) (paid_begins p y h) ∙ sym (array_values (periods_paid p y)))

periods_read : (p : Part) (y : PaymentEntry) → IsPaymentShort p y
    → periods_in (carried_payment p y) ≡ periods_in (payment_value p y)
unfolding payment_value
periods_read p y h = alone_values (periods_paid p y) (paid_begins p y h) ∙ sym (array_values (periods_paid p y))

-- ---- rows of a stream

module _ {X : Type 0} (P : X → Type 0) (v w : X → Data) where
  rows_read : {A : Type 0} (g : Data → A) (xs : List X) → ((x : X) → P x → g (v x) ≡ g (w x)) → Every P xs
      → map g (map v xs) ≡ map g (map w xs)
  rows_read g [] law h = refl
  rows_read g (x ∷ xs) law h = ap₂ (λ d ds. d ∷ ds) (law x h.0) (rows_read g xs law h.1)

  rows_joined : (g : Data → List Data) (xs : List X) → ((x : X) → P x → g (v x) ≡ g (w x)) → Every P xs
      → flat_map g (map v xs) ≡ flat_map g (map w xs)
  rows_joined g [] law h = refl
  rows_joined g (x ∷ xs) law h = ap₂ (λ d ds. d ++ ds) (law x h.0) (rows_joined g xs law h.1)

  few_by : {B : Type 0} (F : List Data → B) (b : Bool) (xs : List X) → F (map v xs) ≡ F (map w xs)
      → F (if b then map v xs else []) ≡ F (if b then map w xs else [])
  few_by F true xs e = e
  few_by F false xs e = refl

  -- the same is read of rows that aren't too many
  few_read : {B : Type 0} (F : List Data → B) (xs : List X) → F (map v xs) ≡ F (map w xs)
      → F (few (map v xs)) ≡ F (few (map w xs))
  few_read F xs e =
      ap (λ n. F (if nat_le n most_rows then map v xs else [])) (mapped_length v xs)
      ∙ few_by F (nat_le (length xs) most_rows) xs e
      ∙ sym (ap (λ n. F (if nat_le n most_rows then map w xs else [])) (mapped_length w xs))

exchange_member : (o : Option Data) (payments : Data)
    → values_in (codes "principalExchange") (Some (cash o payments)) ≡ values_of (option_and_then present o)
exchange_member None payments = refl
exchange_member (Some d) payments = refl

payment_member : (o : Option Data) (payments : Data)
    → values_in (codes "paymentCalculationPeriod") (Some (cash o payments)) ≡ values_of (present payments)
payment_member None payments = refl
payment_member (Some d) payments = refl

exchanges_begin : (x : Exchange) (xs : List Exchange) → Begins (map exchange_value (x ∷ xs))
unfolding exchange_value
exchanges_begin x xs = tt

exchanges_listed : (xs : List Exchange) → values_of (option_and_then present (known_alone (map exchange_value xs)))
    ≡ values_of (option_and_then present (known_exchanges xs))
exchanges_listed [] = refl
exchanges_listed (x ∷ xs) = alone_values (map exchange_value (x ∷ xs)) (exchanges_begin x xs)
    ∙ sym (array_values (map exchange_value (x ∷ xs)))

carried_payments : (p : Part) → IsPartShort p
    → payments_in (Some (carried_cash p)) ≡ few (map (carried_payment p) p.payments)
carried_payments p h =
    let ds = map (carried_payment p) p.payments in
    ap few (payment_member (known_alone (map exchange_value p.exchanges)) (value_alone (items_of ds))
    ∙ alone_values ds (payments_begin p h))

emitted_payments : (p : Part) → payments_in (Some (cashflows_value p)) ≡ few (map (payment_value p) p.payments)
unfolding cashflows_value
emitted_payments p =
    let ds = map (payment_value p) p.payments in
    ap few (payment_member (known_exchanges p.exchanges) (array_of ds) ∙ array_values ds)

-- the same periods are read of a stream
same_periods : (p : Part) → IsPartShort p → flow_periods_of (payments_in (Some (carried_cash p)))
    ≡ flow_periods_of (payments_in (Some (cashflows_value p)))
same_periods p h =
    ap flow_periods_of (carried_payments p h)
    ∙ few_read (IsPaymentShort p) (carried_payment p) (payment_value p) flow_periods_of p.payments
    (rows_joined (IsPaymentShort p) (carried_payment p) (payment_value p) periods_in p.payments (periods_read p)
    h.payments)
    ∙ sym (ap flow_periods_of (emitted_payments p))

part_of : (a : List FlowExchange) (b : List FlowPayment) (c : List FlowPeriod) (f : FlowPart) → a ≡ f.exchanges
    → b ≡ f.payments → c ≡ f.periods → (record { exchanges = a; payments = b; periods = c }) ≡ f
part_of a b c f e1 e2 e3 = rw (e1, e2, e3) refl

emitted_exchanges : (p : Part) → values_in (codes "principalExchange") (Some (cashflows_value p))
    ≡ values_of (option_and_then present (known_exchanges p.exchanges))
unfolding cashflows_value
emitted_exchanges p = exchange_member (known_exchanges p.exchanges) (array_of (map (payment_value p) p.payments))

-- the same flows are read of a stream
flows_same : (p : Part) → IsPartShort p → flows_in (Some (carried_cash p)) ≡ flows_in (Some (cashflows_value p))
flows_same p h =
    part_of _ _ _ (flows_in (Some (cashflows_value p)))
    (ap (map exchange_in) (exchange_member (known_alone (map exchange_value p.exchanges))
    (value_alone (items_of (map (carried_payment p) p.payments)))
    ∙ exchanges_listed p.exchanges ∙ sym (emitted_exchanges p)))
    (ap (map payment_in) (carried_payments p h)
    ∙ few_read (IsPaymentShort p) (carried_payment p) (payment_value p) (map payment_in) p.payments
    (rows_read (IsPaymentShort p) (carried_payment p) (payment_value p) payment_in p.payments (payment_read p)
    h.payments)
    ∙ sym (ap (map payment_in) (emitted_payments p)))
    (ap (map period_in) (same_periods p h))

its_flows : (p : Part) → once (codes "cashflows") (carried_stream p) ≡ Some (carried_cash p)
its_flows p = refl

emitted_flows : (p : Part) → once (codes "cashflows") (stream_value p) ≡ Some (cashflows_value p)
unfolding cashflows_value
emitted_flows p = refl

stream_same : (p : Part) → IsPartShort p → flow_part_in (carried_stream p) ≡ flow_part_in (stream_value p)
stream_same p h = ap flows_in (its_flows p) ∙ flows_same p h ∙ sym (ap flows_in (emitted_flows p))

-- ---- the swap

streams_begin : (s : List Part) → 0 < length s → Begins (map carried_stream s)
streams_begin [] l = absurd (omega arith)
streams_begin (p ∷ s) l = tt

-- the streams that are found in the swap
streams_found : (s : List Part) → 0 < length s
    → values_in (codes "swapStream") (Some (carried_swap s)) ≡ map carried_stream s
streams_found s l = alone_values (map carried_stream s) (streams_begin s l)

swap_same : (s : List Part) → 0 < length s → Every IsPartShort s
    → flow_parts_in (carried_swap s) ≡ flow_parts_in (object_with (codes "swapStream") (array_of (map stream_value s)))
swap_same s l h =
    ap (map flow_part_in) (streams_found s l)
    ∙ rows_read IsPartShort carried_stream stream_value flow_part_in s stream_same h
    ∙ sym (ap (map flow_part_in) (array_values (map stream_value s)))

its_carried_swap : (s : List Part) → the_swap (object_with (codes "swap") (carried_swap s)) ≡ Ok (carried_swap s)
its_carried_swap s = refl

-- ---- faults

paid_names : (u a : ℤ) (m : Data) (c : Currency) (o : Option Dec) → IsHeld m
    → element_names (paid u a m (forecast_with c o))
    ≡ Some (codes "adjustedPaymentDate" ∷ codes "calculationPeriod" ∷ codes "forecastPaymentAmount"
    ∷ codes "unadjustedPaymentDate" ∷ [])
paid_names u a null c o h = absurd h
paid_names u a (boolean b) c o h = absurd h
paid_names u a (number n) c o h = absurd h
paid_names u a (string s) c o h = absurd h
paid_names u a (array no_items) c o h = absurd h
paid_names u a (array (item d ds)) c o h = refl
paid_names u a (object ms) c o h = refl

paid_free : (stream i : ℕ) (u a : ℤ) (m : Data) (c : Currency) (o : Option Dec) → IsHeld m → IsDay u → IsDay a
    → is_currency c.letters ≡ true → IfSome o IsShortAmount
    → NoFault F M stream 5 (Object Free) i (paid u a m (forecast_with c o))
paid_free stream i u a m c o is hu ha e h =
    let d = paid u a m (forecast_with c o) in
    let f = forecast_with c o in
    object_free F M stream 5 i d _ (paid_names u a m c o is) refl refl (
      leaf_member F M stream 6 i _ d Date (day_text u) refl refl (omega arith) (day_kept u hu),
      (
        leaf_member F M stream 7 i _ d Date (day_text a) refl refl (omega arith) (day_kept a ha),
        (
          present_free F M stream 8 i _ d f refl refl (omega arith)
              (one_value F M stream 8 i (flow_at 8) f (λ j. forecast_free stream j c o e h)),
          (
            passed_free F M stream 14 i _ d refl refl,
            (
              passed_free F M stream 15 i _ d refl refl,
              (
                passed_free F M stream 16 i _ d refl refl,
                (absent_free F M stream 17 i _ d refl refl, tt),
              ),
            ),
          ),
        ),
      ),
    )

payment_free : (stream i : ℕ) (p : Part) (y : PaymentEntry) → IsPaymentShort p y
    → NoFault F M stream 5 (Object Free) i (carried_payment p y)
unfolding forecast_value
payment_free stream i p y h =
    paid_free stream i y.unadjusted y.adjusted (value_alone (items_of (periods_paid p y))) p.currency y.amount
    (alone_is (periods_paid p y) (paid_begins p y h)) h.unadjusted h.adjusted h.currency h.amount

-- rows that stand alone or in an array have no fault where none of them has one
module _ {X : Type 0} (stream c : ℕ) (f : X → Data) (Q : X → Type 0) where
  alone_free : (i : ℕ) (xs : List X) → Begins (map f xs)
      → ((k : ℕ) (x : X) → Q x → NoFault F M stream c (flow_at c).kind k (f x)) → Every Q xs
      → ValuesFree F M stream c (flow_at c) i (held (value_alone (items_of (map f xs))))
  alone_free i xs b law h =
      subst (ValuesFree F M stream c (flow_at c) i) (from_items (map f xs) ∙ sym (alone_held (map f xs) b))
      (array_free F M stream c f Q i (flow_at c) xs law h)

  alone_few : (xs : List X) (n : ℕ) → Begins (map f xs) → length xs ≤ n
      → length (held (value_alone (items_of (map f xs)))) ≤ n
  alone_few xs n b l = let e = ap length (alone_held (map f xs) b) in let k =
      mapped_length f xs in omega (arith, e, k, l)

cash_names : (m : Data) → IsHeld m → element_names (cash None m)
    ≡ Some (codes "cashflowsMatchParameters" ∷ codes "paymentCalculationPeriod" ∷ [])
cash_names null h = absurd h
cash_names (boolean b) h = absurd h
cash_names (number n) h = absurd h
cash_names (string s) h = absurd h
cash_names (array no_items) h = absurd h
cash_names (array (item d ds)) h = refl
cash_names (object ms) h = refl

exchanged_by : (e : Data) (ms : Members) → IsHeld e
    → element_names (object (member (codes "principalExchange") e ms))
    ≡ option_map (λ ns. codes "principalExchange" ∷ ns) (element_names (object ms))
exchanged_by null ms h = absurd h
exchanged_by (boolean b) ms h = absurd h
exchanged_by (number n) ms h = absurd h
exchanged_by (string s) ms h = absurd h
exchanged_by (array no_items) ms h = absurd h
exchanged_by (array (item d ds)) ms h = refl
exchanged_by (object os) ms h = refl

exchanged_names : (e m : Data) → IsHeld e → IsHeld m
    → element_names (cash (Some e) m) ≡ Some (codes "cashflowsMatchParameters" ∷ codes "paymentCalculationPeriod"
    ∷ codes "principalExchange" ∷ [])
exchanged_names e null h k = absurd k
exchanged_names e (boolean b) h k = absurd k
exchanged_names e (number n) h k = absurd k
exchanged_names e (string s) h k = absurd k
exchanged_names e (array no_items) h k = absurd k
exchanged_names e (array (item d ds)) h k =
    ap (option_map (λ ns. codes "cashflowsMatchParameters" ∷ codes "paymentCalculationPeriod" ∷ ns))
    (exchanged_by e no_members h)
exchanged_names e (object ms) h k =
    ap (option_map (λ ns. codes "cashflowsMatchParameters" ∷ codes "paymentCalculationPeriod" ∷ ns))
    (exchanged_by e no_members h)

cash_free : (stream i : ℕ) (p : Part) (xs : List Exchange) (ys : List PaymentEntry) → Every IsExchangeShort xs
    → Every (IsPaymentShort p) ys → length xs ≤ most_rows → length ys ≤ most_rows → Begins (map (carried_payment p) ys)
    → NoFault F M stream 0 (Object Free) i (cash (known_alone (map exchange_value xs))
    (value_alone (items_of (map (carried_payment p) ys))))
cash_free stream i p [] ys hx hy lx ly b =
    let payments = value_alone (items_of (map (carried_payment p) ys)) in
    let is = alone_is (map (carried_payment p) ys) b in
    let d = cash None payments in
    object_free F M stream 0 i d _ (cash_names payments is) refl refl (
      absent_free F M stream 1 i _ d refl refl,
      (
        present_free F M stream 5 i _ d payments (held_present payments is) refl
            (alone_few stream 5 (carried_payment p) (IsPaymentShort p) ys most_rows b ly)
            (alone_free stream 5 (carried_payment p) (IsPaymentShort p) i ys b (λ k y g. payment_free stream k p y g)
            hy),
        (passed_free F M stream 11 i _ d refl refl, tt),
      ),
    )
cash_free stream i p (x ∷ xs) ys hx hy lx ly b =
    let exchanges = value_alone (items_of (map exchange_value (x ∷ xs))) in
    let payments = value_alone (items_of (map (carried_payment p) ys)) in
    let front = exchanges_begin x xs in
    let es = alone_is (map exchange_value (x ∷ xs)) front in
    let is = alone_is (map (carried_payment p) ys) b in
    let d = cash (Some exchanges) payments in
    object_free F M stream 0 i d _ (exchanged_names exchanges payments es is) refl refl (
      present_free F M stream 1 i _ d exchanges (held_present exchanges es) refl
          (alone_few stream 1 exchange_value IsExchangeShort (x ∷ xs) most_rows front lx)
          (alone_free stream 1 exchange_value IsExchangeShort i (x ∷ xs) front (λ k y g. exchange_free stream k y g)
          hx),
      (
        present_free F M stream 5 i _ d payments (held_present payments is) refl
            (alone_few stream 5 (carried_payment p) (IsPaymentShort p) ys most_rows b ly)
            (alone_free stream 5 (carried_payment p) (IsPaymentShort p) i ys b (λ k y g. payment_free stream k p y g)
            hy),
        (passed_free F M stream 11 i _ d refl refl, tt),
      ),
    )

-- the cash flows have no fault of their own table
cashflows_free : (stream i : ℕ) (p : Part) → IsPartShort p
    → NoFault flow_rows flow_names stream 0 (Object Free) i (carried_cash p)
cashflows_free stream i p h =
    let xs = h.bounds.exchanges in
    let ys = payments_few p h.bounds in
    let few = h.bounds.few in
    by_tables (λ rows names. NoFault rows names stream 0 (Object Free) i (carried_cash p)) F flow_rows M flow_names
    flow_rows_are
    flow_names_are (cash_free stream i p p.exchanges p.payments h.exchanges h.payments (omega (arith, xs))
    (omega (arith, ys, few))
    (payments_begin p h))

-- a fault of a stream is one of the emitted stream

cash_fault : (stream : ℕ) (p : Part) → IsPartShort p → (f : Broken) → CashflowsFault stream (carried_cash p) f
    → CashflowsFault stream (cashflows_value p) f
cash_fault stream p h f (inl fault) = absurd (cashflows_free stream 0 p h f fault)
cash_fault stream p h f (inr fault) = inr (subst (λ ds. PeriodsFault stream ds f) (same_periods p h) fault)

not_sound : (b : Bool) → b ≡ true → not b ≡ true → ⊥
not_sound true e h = cc
not_sound false e h = cc

its_cash : (p : Part) → values_in (codes "cashflows") (Some (stream_value p)) ≡ cashflows_value p ∷ []
unfolding cashflows_value
its_cash p = refl

carried_its_cash : (p : Part) → values_in (codes "cashflows") (Some (carried_stream p)) ≡ carried_cash p ∷ []
carried_its_cash p = refl

sound_stream : (p : Part) → is_sound (carried_stream p) ≡ true
sound_stream p = refl

stream_fault : (p : Part) → IsPartShort p → (nth : ℕ) (f : Broken) → FlowStreamFault nth (carried_stream p) f
    → FlowStreamFault nth (stream_value p) f
unfolding cashflows_value
stream_fault p h nth f (inl own) = absurd (not_sound (is_sound (carried_stream p)) (sound_stream p) own.0)
stream_fault p h nth f (inr inside) =
    inr (
      refl,
      subst (λ ds. OnceFault nth ds f) (sym (its_cash p))
          (cash_fault nth p h f (subst (λ ds. OnceFault nth ds f) (carried_its_cash p) inside.1)),
    )

-- a row at a place of a list that was mapped
stream_at : (s : List Part) (j : ℕ) (x : Data) → Every IsPartShort s → slice_get (map carried_stream s) j ≡ Some x
    → (p : Part) × (IsPartShort p) × (x ≡ carried_stream p) × (slice_get (map stream_value s) j ≡ Some (stream_value p))
stream_at [] j x h e = absurd (cc e)
stream_at (p ∷ s) zero x h e = (p, h.0, sym (ap (λ o. unwrap_or o x) e), refl)
stream_at (p ∷ s) (suc j) x h e = stream_at s j x h.1 e

streams_fault : (s : List Part) → Every IsPartShort s → (f : Broken) → FlowStreamsFault (map carried_stream s) f
    → FlowStreamsFault (map stream_value s) f
streams_fault s h f (no_stream none) =
    no_stream (mapped_length stream_value s ∙ sym (mapped_length carried_stream s) ∙ none)
streams_fault s h f (many_streams lt) =
    let a = mapped_length stream_value s in let b =
    mapped_length carried_stream s in many_streams (omega (arith, a, b, lt))
streams_fault s h f (in_stream g some few among) =
    let a = mapped_length stream_value s in
    let b = mapped_length carried_stream s in
    let at = stream_at s among.0 among.1.0 h among.1.1.0 in
    in_stream g (omega (arith, a, b, some)) (omega (arith, a, b, few)) (
      among.0,
      (
        stream_value at.0,
        (at.3, stream_fault at.0 at.1 (among.0 + 1) g (subst (λ d. FlowStreamFault (among.0 + 1) d g) at.2 among.1.1.1)),
      ),
    )

sound_swap_by : (m : Data) → IsHeld m → is_sound (object_with (codes "swapStream") m) ≡ true
sound_swap_by null h = absurd h
sound_swap_by (boolean b) h = absurd h
sound_swap_by (number n) h = absurd h
sound_swap_by (string s) h = absurd h
sound_swap_by (array no_items) h = absurd h
sound_swap_by (array (item d ds)) h = refl
sound_swap_by (object ms) h = refl

swap_fault : (s : List Part) → 0 < length s → Every IsPartShort s → (f : Broken) → FlowSwapFault (carried_swap s) f
    → FlowSwapFault (object_with (codes "swapStream") (array_of (map stream_value s))) f
swap_fault s l h f (inl own) =
    absurd (not_sound (is_sound (carried_swap s))
    (sound_swap_by (value_alone (items_of (map carried_stream s))) (alone_is (map carried_stream s) (streams_begin s l)))
    own.0)
swap_fault s l h f (inr inside) =
    inr (
      refl,
      subst (λ ds. FlowStreamsFault ds f) (sym (array_values (map stream_value s)))
          (streams_fault s h f (subst (λ ds. FlowStreamsFault ds f) (streams_found s l) inside.1)),
    )

the_same : (a b : Data) (w : Result Data Broken) → w ≡ Ok a → w ≡ Ok b → a ≡ b
the_same a b w e h = let both : Ok a ≡ Ok b = sym e ∙ h in cc

no_end : (a : Data) (f : Broken) (w : Result Data Broken) → w ≡ Ok a → w ≡ Err f → ⊥
no_end a f w e h = let both : Ok a ≡ Err f = sym e ∙ h in cc

-- the value of the document has no fault
carried_free : (s : List Part) → IsWithin s → (f : Broken) → FlowFault (object_with (codes "swap") (carried_swap s)) f
    → ⊥
carried_free s w f (ended _ e) =
    no_end (carried_swap s) f (the_swap (object_with (codes "swap") (carried_swap s))) (its_carried_swap s) e
carried_free s w f (below t _ e fault) =
    let short = parts_short s w.each in
    let here = subst (λ d. FlowSwapFault d f) (the_same t (carried_swap s)
    (the_swap (object_with (codes "swap") (carried_swap s))) e (its_carried_swap s)) fault in
    emitted_free s w.some w.few short f
    (below (object_with (codes "swapStream") (array_of (map stream_value s))) f (its_swap s)
    (swap_fault s w.some short f here))

-- bytes that mean the value as XML carries it state the flows of the schedule
pub states : (s : List Part) (bytes : List ℕ) → XmlReads bytes (ones (emit_value s)) → IsWithin s → StatesInXml bytes s
states s bytes reads w =
    let short = parts_short s w.each in
    record {
      value = object_with (codes "swap") (carried_swap s);
      reads = subst (XmlReads bytes) (emitted_carried s) reads;
      flows = record {
        clean = carried_free s w;
        swap = carried_swap s;
        found = its_carried_swap s;
        says = swap_reads s short ∙ sym (swap_same s w.some short);
      };
      audit = (flows_agree s w, refl, refl);
    }
