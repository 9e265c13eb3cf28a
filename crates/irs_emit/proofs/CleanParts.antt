-- The emitted value has no fault of the tables of cash flows.
use Rattle.irs_flows.specs.declared.flow_table.TheConstants.{FLOW_ROWS, PERIOD_ROWS}
use Rattle.irs_flows.proofs.FlowLaws.{flow_code_names, flow_names_are, flow_rows_are, period_code_names}
use Rattle.irs_flows.proofs.FlowLaws.{period_names_are, period_rows_are}
use Rattle.irs_flows.specs.FlowFaults.{CashflowsFault, FlowFault, OnceFault, PeriodFault, PeriodsFault, FlowStreamFault}
use Rattle.irs_flows.specs.FlowFaults.{FlowStreamsFault, FlowSwapFault, has_both_rates, in_period, is_sound}
use Rattle.irs_flows.specs.FlowFaults.{many_periods, flow_names, flow_rows, period_names, period_table_rows}
use Rattle.irs_base.specs.Limits.{most_rows, most_streams}
use Rattle.irs_base.proofs.MemberLemmas.{every_get}
use Rattle.irs_base.specs.Lists.{Every}
use Rattle.irs_base.specs.Texts.{day_text, dec_text}
use Rattle.irs_base.specs.declared.line.Dec.{Dec}
use Rattle.irs_terms.specs.declared.places.Broken.{Broken}
use Rattle.irs_base.specs.Days.{IsDay}
use Rattle.irs_elements.specs.Elements.{index_in, values_in}
use Rattle.irs_elements.specs.Leaves.{is_currency}
use Rattle.irs_elements.specs.declared.table.Choice.TheVariants.{Free}
use Rattle.irs_elements.specs.declared.table.Kind.{Kind}
use Rattle.irs_elements.specs.declared.table.Kind.TheVariants.{Object}
use Rattle.irs_elements.specs.declared.table.Leaf.TheVariants.{Amount, CurrencyName, Date}
use Rattle.irs_elements.specs.declared.table.Row.{Row}
use Rattle.irs_emit.proofs.Clean.{NoFault, ValuesFree, absent_free, object_free, one_value, passed_free, present_free}
use Rattle.irs_emit.proofs.CleanRows.{currency_kept, day_kept, exchange_free, leaf_member, no_row, number_kept}
use Rattle.irs_emit.proofs.CleanRows.{period_free}
use Rattle.irs_audit.proofs.BoundLemmas.{payments_few}
use Rattle.irs_emit.proofs.PartsRead.{its_swap, mapped_length, periods_are, swap_reads}
use Rattle.irs_emit.proofs.RowsRead.{all_listed, array_values, from_items}
use Rattle.irs_read.proofs.TableLaws.{by_tables}
use Rattle.irs_read.specs.Documents.{the_swap, below, ended, in_stream, many_streams, no_stream}
use Rattle.irs_schedule.specs.RowsOf.{period_at}
use Rattle.irs_schedule.specs.declared.views.CalculationPeriod.{CalculationPeriod}
use Rattle.irs_terms.specs.declared.results.Reset.{Reset}
use Rattle.irs_emit.specs.Emitted.{array_of, cashflows_value, emit_value, exchange_value, fixed_value, floating_value}
use Rattle.irs_emit.specs.Emitted.{forecast_value, known_exchanges, listed_period, object_with, one_period}
use Rattle.irs_emit.specs.Emitted.{payment_value, period_members, period_value, period_values, put_known, stream_value}
use Rattle.irs_emit.specs.Emitted.{amount_leaf, currency_leaf, day_leaf, rate_leaf, utf8_or_empty}
use Rattle.irs_audit.proofs.StatedLemmas.{flows_agree}
use Rattle.irs_emit.proofs.Short.{parts_short}
use Rattle.irs_emit.specs.RowLaws.{IsPartShort, StatesFlows, IsExchangeShort, IsPaymentShort, IsPeriodShort}
use Rattle.irs_emit.specs.RowLaws.{IsResetShort, IsShortAmount}
use Rattle.irs_json.specs.Leaves.{list_of}
use Rattle.irs_json.specs.Reading.{Reads}
use Rattle.irs_schedule.specs.Parts.{IsWithin, Part}
use Rattle.irs_schedule.specs.declared.entries.PaymentEntry.{PaymentEntry}
use Rattle.irs_terms.specs.declared.currency.Currency.{Currency}
use Rattle.irs_terms.specs.declared.results.Exchange.{Exchange}
use Rattle.serde_json.specs.Data.{Data, object, string, no_members, put}
use Rattle.serde_json.specs.View.{items_of as items_from}
use Rattle.std.proofs.Common.{◌≡◌, ℕ, zero, suc, ◌+◌, ◌-◌, ◌<◌, ◌≤◌, Bool, true, false, not, true≢false, inl, inr, List}
use Rattle.std.proofs.Common.{[], ◌∷◌, ◌++◌, length, map, Result, Ok, Err, codes, ℤ, Option, Some, None, IfSome}
use Rattle.std.proofs.Common.{option_map, refl, sym, ap, ◌∙◌, subst, arith}
use Rattle.std.specs.Prelude.{slice_get, unwrap_or}

-- the rows of the table of cash flows
abbrev pub F : List Row
F = FLOW_ROWS

-- the names of the table of cash flows
abbrev pub M : List (List ℕ)
M = flow_code_names

-- the row of that number
abbrev pub flow_at : ℕ → Row
flow_at n = unwrap_or (slice_get F n) no_row

-- ---- payments

-- the forecast amount of a payment, by its parts
abbrev pub forecast_with : Currency → Option Dec → Data
forecast_with currency o =
    object (put_known (codes "amount") (option_map amount_leaf o)
    (put (codes "currency") (currency_leaf currency) no_members))

-- it breaks no rule
pub forecast_free : (stream i : ℕ) (c : Currency) (o : Option Dec) → is_currency c.letters ≡ true → IfSome o IsShortAmount
    → NoFault F M stream 8 (Object Free) i (forecast_with c o)
forecast_free stream i c None e h =
    let d = forecast_with c None in
    object_free F M stream 8 i d _ refl refl refl (
      leaf_member F M stream 9 i _ d CurrencyName (utf8_or_empty c.letters) refl refl (omega arith) (currency_kept c e),
      (absent_free F M stream 10 i _ d refl refl, tt),
    )
forecast_free stream i c (Some v) e h =
    let d = forecast_with c (Some v) in
    object_free F M stream 8 i d _ refl refl refl (
      leaf_member F M stream 9 i _ d CurrencyName (utf8_or_empty c.letters) refl refl (omega arith) (currency_kept c e),
      (
        leaf_member F M stream 10 i _ d Amount (dec_text v.units v.places) refl refl (omega arith)
            (number_kept v.units v.places h.0 h.1),
        tt,
      ),
    )

-- a payment, by its parts
abbrev payment_with : ℤ → ℤ → List Data → Currency → Option Dec → Data
payment_with unadjusted adjusted ds c o = object (
    put (codes "adjustedPaymentDate") (day_leaf adjusted)
    (put (codes "calculationPeriod") (array_of ds)
    (put (codes "forecastPaymentAmount") (forecast_with c o)
    (put (codes "unadjustedPaymentDate") (day_leaf unadjusted)
    no_members))))

payment_by : (stream i : ℕ) (u a : ℤ) (ds : List Data) (c : Currency) (o : Option Dec) → IsDay u → IsDay a
    → is_currency c.letters ≡ true → IfSome o IsShortAmount
    → NoFault F M stream 5 (Object Free) i (payment_with u a ds c o)
payment_by stream i u a [] c o hu ha e h =
    let d = payment_with u a [] c o in
    let m = forecast_with c o in
    object_free F M stream 5 i d _ refl refl refl (
      leaf_member F M stream 6 i _ d Date (day_text u) refl refl (omega arith) (day_kept u hu),
      (
        leaf_member F M stream 7 i _ d Date (day_text a) refl refl (omega arith) (day_kept a ha),
        (
          present_free F M stream 8 i _ d m refl refl (omega arith)
              (one_value F M stream 8 i (flow_at 8) m (λ j. forecast_free stream j c o e h)),
          (
            passed_free F M stream 14 i _ d refl refl,
            (
              passed_free F M stream 15 i _ d refl refl,
              (
                passed_free F M stream 16 i _ d refl refl,
                (absent_free F M stream 17 i _ d refl refl, tt),
              ),
            ),
          ),
        ),
      ),
    )
payment_by stream i u a (x ∷ ds) c o hu ha e h =
    let d = payment_with u a (x ∷ ds) c o in
    let m = forecast_with c o in
    object_free F M stream 5 i d _ refl refl refl (
      leaf_member F M stream 6 i _ d Date (day_text u) refl refl (omega arith) (day_kept u hu),
      (
        leaf_member F M stream 7 i _ d Date (day_text a) refl refl (omega arith) (day_kept a ha),
        (
          present_free F M stream 8 i _ d m refl refl (omega arith)
              (one_value F M stream 8 i (flow_at 8) m (λ j. forecast_free stream j c o e h)),
          (
            passed_free F M stream 14 i _ d refl refl,
            (
              passed_free F M stream 15 i _ d refl refl,
              (
                passed_free F M stream 16 i _ d refl refl,
                (absent_free F M stream 17 i _ d refl refl, tt),
              ),
            ),
          ),
        ),
      ),
    )

payment_free : (stream i : ℕ) (p : Part) (y : PaymentEntry) → IsPaymentShort p y
    → NoFault F M stream 5 (Object Free) i (payment_value p y)
unfolding payment_value forecast_value
payment_free stream i p y h =
    payment_by stream i y.unadjusted y.adjusted
    (period_values p (y.first_period - 1) (y.last_period + 1 - y.first_period)) p.currency y.amount h.unadjusted
    h.adjusted h.currency h.amount

-- ---- the cash flows of a stream

module _ {X : Type 0} (rows : List Row) (names : List (List ℕ)) (stream c : ℕ) (f : X → Data) (Q : X → Type 0) where
  mapped_free : (kind : Kind) (xs : List X) → ((k : ℕ) (x : X) → Q x → NoFault rows names stream c kind k (f x))
      → Every Q xs → (j : ℕ) (y : Data) (k : ℕ) → slice_get (map f xs) j ≡ Some y → NoFault rows names stream c kind k y
  mapped_free kind [] law h j y k e = cc
  mapped_free kind (x ∷ xs) law h zero y k e =
      subst (λ d. NoFault rows names stream c kind k d) (ap (λ o. unwrap_or o y) e) (law k x h.0)
  mapped_free kind (x ∷ xs) law h (suc j) y k e = mapped_free kind xs law h.1 j y k e

  -- an array of values without faults has no fault
  pub array_free : (i : ℕ) (row : Row) (xs : List X)
      → ((k : ℕ) (x : X) → Q x → NoFault rows names stream c row.kind k (f x)) → Every Q xs
      → ValuesFree rows names stream c row i (list_of (items_from (map f xs)))
  array_free i row xs law h j y e =
      mapped_free row.kind xs law h j y (index_in row.count i j)
      (ap (λ ds. slice_get ds j) (sym (from_items (map f xs))) ∙ e)

-- the cash flows of a stream, by their parts
abbrev cash : Option Data → Data → Data
cash o payments = object (
    put_known (codes "principalExchange") o
    (put (codes "cashflowsMatchParameters") (string (codes "true"))
    (put (codes "paymentCalculationPeriod") payments
    no_members)))

mapped_few : {X : Type 0} (f : X → Data) (xs : List X) (n : ℕ) → length xs ≤ n
    → length (list_of (items_from (map f xs))) ≤ n
mapped_few f xs n h = let e = ap length (from_items (map f xs)) in let l = mapped_length f xs in omega (arith, e, l, h)

exchanges_member : (stream i : ℕ) (x : Exchange) (xs : List Exchange) → Every IsExchangeShort (x ∷ xs)
    → ValuesFree F M stream 1 (flow_at 1) i (list_of (items_from (map exchange_value (x ∷ xs))))
exchanges_member stream i x xs h =
    array_free F M stream 1 exchange_value IsExchangeShort i (flow_at 1) (x ∷ xs)
    (λ k y g. exchange_free stream k y g) h

payments_member : (stream i : ℕ) (p : Part) (ys : List PaymentEntry) → Every (IsPaymentShort p) ys
    → ValuesFree F M stream 5 (flow_at 5) i (list_of (items_from (map (payment_value p) ys)))
payments_member stream i p ys h =
    array_free F M stream 5 (payment_value p) (IsPaymentShort p) i (flow_at 5) ys
    (λ k y g. payment_free stream k p y g) h

cash_free : (stream i : ℕ) (p : Part) (xs : List Exchange) (ys : List PaymentEntry) → Every IsExchangeShort xs
    → Every (IsPaymentShort p) ys → length xs ≤ most_rows → length ys ≤ most_rows
    → NoFault F M stream 0 (Object Free) i (cash (known_exchanges xs) (array_of (map (payment_value p) ys)))
cash_free stream i p [] [] hx hy lx ly =
    let d = cash None (array_of []) in
    object_free F M stream 0 i d _ refl refl refl (
      absent_free F M stream 1 i _ d refl refl,
      (absent_free F M stream 5 i _ d refl refl, (passed_free F M stream 11 i _ d refl refl, tt)),
    )
cash_free stream i p [] (y ∷ ys) hx hy lx ly =
    let payments = array_of (map (payment_value p) (y ∷ ys)) in
    let d = cash None payments in
    object_free F M stream 0 i d _ refl refl refl (
      absent_free F M stream 1 i _ d refl refl,
      (
        present_free F M stream 5 i _ d payments refl refl (mapped_few (payment_value p) (y ∷ ys) most_rows ly)
            (payments_member stream i p (y ∷ ys) hy),
        (passed_free F M stream 11 i _ d refl refl, tt),
      ),
    )
cash_free stream i p (x ∷ xs) [] hx hy lx ly =
    let exchanges = array_of (map exchange_value (x ∷ xs)) in
    let d = cash (Some exchanges) (array_of []) in
    object_free F M stream 0 i d _ refl refl refl (
      present_free F M stream 1 i _ d exchanges refl refl (mapped_few exchange_value (x ∷ xs) most_rows lx)
          (exchanges_member stream i x xs hx),
      (
        absent_free F M stream 5 i _ d refl refl,
        (passed_free F M stream 11 i _ d refl refl, tt),
      ),
    )
cash_free stream i p (x ∷ xs) (y ∷ ys) hx hy lx ly =
    let exchanges = array_of (map exchange_value (x ∷ xs)) in
    let payments = array_of (map (payment_value p) (y ∷ ys)) in
    let d = cash (Some exchanges) payments in
    object_free F M stream 0 i d _ refl refl refl (
      present_free F M stream 1 i _ d exchanges refl refl (mapped_few exchange_value (x ∷ xs) most_rows lx)
          (exchanges_member stream i x xs hx),
      (
        present_free F M stream 5 i _ d payments refl refl (mapped_few (payment_value p) (y ∷ ys) most_rows ly)
            (payments_member stream i p (y ∷ ys) hy),
        (passed_free F M stream 11 i _ d refl refl, tt),
      ),
    )

cashflows_free : (stream i : ℕ) (p : Part) → IsPartShort p → NoFault F M stream 0 (Object Free) i (cashflows_value p)
unfolding cashflows_value
cashflows_free stream i p h =
    let xs = h.bounds.exchanges in
    let ys = payments_few p h.bounds in
    let few = h.bounds.few in
    cash_free stream i p p.exchanges p.payments h.exchanges h.payments (omega (arith, xs)) (omega (arith, ys, few))

by_flow_tables : (stream i : ℕ) (d : Data) → NoFault F M stream 0 (Object Free) i d
    → NoFault flow_rows flow_names stream 0 (Object Free) i d
by_flow_tables stream i d h =
    by_tables (λ rows names. NoFault rows names stream 0 (Object Free) i d) F flow_rows M flow_names flow_rows_are
    flow_names_are h

by_period_tables : (stream i : ℕ) (d : Data) → NoFault PERIOD_ROWS period_code_names stream 0 (Object Free) i d
    → NoFault period_table_rows period_names stream 0 (Object Free) i d
by_period_tables stream i d h =
    by_tables (λ rows names. NoFault rows names stream 0 (Object Free) i d) PERIOD_ROWS period_table_rows period_code_names
    period_names period_rows_are period_names_are h

-- ---- the calculation periods of a stream

fixed_one : (x : CalculationPeriod) (o : Option ℤ)
    → has_both_rates (object (put_known (codes "fixedRate") (option_map rate_leaf o) (period_members x))) ≡ false
unfolding period_members
fixed_one x None = refl
fixed_one x (Some z) = refl

one_rate : (x : CalculationPeriod) (reset : Option Reset) → has_both_rates (period_value x reset) ≡ false
unfolding fixed_value floating_value period_members
one_rate x None = fixed_one x x.rate
one_rate x (Some r) = refl

-- the calculation periods of a payment have no fault
abbrev IsGood : ℕ → Data → Type 0
IsGood stream d = (number : ℕ) (f : Broken) → PeriodFault stream number d f → ⊥

period_good : (stream : ℕ) (x : CalculationPeriod) (reset : Option Reset) → IsPeriodShort x → IfSome reset IsResetShort
    → IsGood stream (period_value x reset)
period_good stream x reset h g number f (inl fault) =
    by_period_tables stream number (period_value x reset) (period_free stream number x reset h g) f fault
period_good stream x reset h g number f (inr both) = true≢false (sym both.0 ∙ one_rate x reset)

every_append : {X : Type 0} (Q : X → Type 0) (a b : List X) → Every Q a → Every Q b → Every Q (a ++ b)
every_append Q [] b h k = k
every_append Q (x ∷ a) b h k = (h.0, every_append Q a b h.1 k)

listed_good : (stream : ℕ) (reset : Option Reset) (o : Option CalculationPeriod) → IfSome o IsPeriodShort
    → IfSome reset IsResetShort → Every (IsGood stream) (listed_period reset o)
listed_good stream reset None h g = tt
listed_good stream reset (Some x) h g = (period_good stream x reset h g, tt)

periods_good : (stream : ℕ) (p : Part) (j n : ℕ) → IsPartShort p → Every (IsGood stream) (period_values p j n)
periods_good stream p j zero h = tt
periods_good stream p j (suc n) h =
    every_append (IsGood stream) (period_values p j n) (one_period p (j + n)) (periods_good stream p j n h)
    (listed_good stream (slice_get p.resets (j + n)) (period_at p (j + n)) (h.periods (j + n)) (h.resets (j + n)))

periods_free : (stream : ℕ) (ds : List Data) → length ds ≤ most_rows → Every (IsGood stream) ds → (f : Broken)
    → PeriodsFault stream ds f → ⊥
periods_free stream ds l h f (many_periods lt) = absurd (omega (arith, l, lt))
periods_free stream ds l h f (in_period g le among) =
    every_get (IsGood stream) ds among.0 among.1.0 h among.1.1.0 (among.0 + 1) f among.1.1.1

cash_fault_free : (stream : ℕ) (p : Part) → IsPartShort p → (f : Broken)
    → CashflowsFault stream (cashflows_value p) f → ⊥
cash_fault_free stream p h f (inl fault) =
    by_flow_tables stream 0 (cashflows_value p) (cashflows_free stream 0 p h) f fault
cash_fault_free stream p h f (inr fault) =
    let n = length p.periods in
    let ds = period_values p 0 n in
    let few = h.bounds.few in
    let count : length ds ≡ n = all_listed p 0 n (omega arith) in
    periods_free stream ds (omega (arith, count, few)) (periods_good stream p 0 n h) f
    (subst (λ l. PeriodsFault stream l f) (periods_are p h.bounds) fault)

-- ---- streams

-- a stream has no fault
abbrev IsSoundStream : Data → Type 0
IsSoundStream d = (number : ℕ) (f : Broken) → FlowStreamFault number d f → ⊥

its_cash : (p : Part) → values_in (codes "cashflows") (Some (stream_value p)) ≡ cashflows_value p ∷ []
unfolding cashflows_value
its_cash p = refl

sound_stream : (p : Part) → is_sound (stream_value p) ≡ true
unfolding cashflows_value
sound_stream p = refl

not_sound : (b : Bool) → b ≡ true → not b ≡ true → ⊥
not_sound true e h = cc
not_sound false e h = cc

stream_free : (p : Part) → IsPartShort p → IsSoundStream (stream_value p)
stream_free p h number f (inl own) = not_sound (is_sound (stream_value p)) (sound_stream p) own.0
stream_free p h number f (inr once) =
    cash_fault_free number p h f (subst (λ ds. OnceFault number ds f) (its_cash p) once.1)

streams_sound : (s : List Part) → Every IsPartShort s → Every IsSoundStream (map stream_value s)
streams_sound [] h = tt
streams_sound (p ∷ s) h = (stream_free p h.0, streams_sound s h.1)

streams_free : (ds : List Data) → 0 < length ds → length ds ≤ most_streams → Every IsSoundStream ds → (f : Broken)
    → FlowStreamsFault ds f → ⊥
streams_free ds some few h f (no_stream none) = absurd (omega (arith, some, none))
streams_free ds some few h f (many_streams lt) = absurd (omega (arith, few, lt))
streams_free ds some few h f (in_stream g _ _ among) =
    every_get IsSoundStream ds among.0 among.1.0 h among.1.1.0 (among.0 + 1) f among.1.1.1

-- the swap of a schedule
abbrev swap_of : List Part → Data
swap_of s = object_with (codes "swapStream") (array_of (map stream_value s))

sound_swap : (ds : List Data) → is_sound (object_with (codes "swapStream") (array_of ds)) ≡ true
sound_swap [] = refl
sound_swap (d ∷ ds) = refl

swap_free : (s : List Part) → 0 < length s → length s ≤ most_streams → Every IsPartShort s → (f : Broken)
    → FlowSwapFault (swap_of s) f → ⊥
swap_free s some few h f (inl own) = not_sound (is_sound (swap_of s)) (sound_swap (map stream_value s)) own.0
swap_free s some few h f (inr inside) =
    let l = mapped_length stream_value s in
    streams_free (map stream_value s) (omega (arith, l, some)) (omega (arith, l, few)) (streams_sound s h) f
    (subst (λ ds. FlowStreamsFault ds f) (array_values (map stream_value s)) inside.1)

the_same : (a b : Data) (w : Result Data Broken) → w ≡ Ok a → w ≡ Ok b → a ≡ b
the_same a b w e h = let both : Ok a ≡ Ok b = sym e ∙ h in cc

no_end : (a : Data) (f : Broken) (w : Result Data Broken) → w ≡ Ok a → w ≡ Err f → ⊥
no_end a f w e h = let both : Ok a ≡ Err f = sym e ∙ h in cc

-- the emitted value has no fault
pub emitted_free : (s : List Part) → 0 < length s → length s ≤ most_streams → Every IsPartShort s → (f : Broken)
    → FlowFault (emit_value s) f → ⊥
emitted_free s some few h f (ended _ e) = no_end (swap_of s) f (the_swap (emit_value s)) (its_swap s) e
emitted_free s some few h f (below t _ e fault) =
    swap_free s some few h f
    (subst (λ d. FlowSwapFault d f) (the_same t (swap_of s) (the_swap (emit_value s)) e (its_swap s)) fault)

-- bytes that read as the emitted value state the flows of the schedule
pub states : (s : List Part) (bytes : List ℕ) → Reads bytes (emit_value s) → IsWithin s → StatesFlows bytes s
states s bytes reads w =
    let short = parts_short s w.each in
    record {
      value = emit_value s;
      reads = reads;
      flows = record {
        clean = emitted_free s w.some w.few short;
        swap = swap_of s;
        found = its_swap s;
        says =
            swap_reads s short;
      };
      audit = (flows_agree s w, refl, refl);
    }
