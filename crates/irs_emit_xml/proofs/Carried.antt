-- The emitted value as XML carries it, part by part.
use Rattle.std.proofs.Common.{◌≡◌, ℕ, zero, suc, ◌+◌, ◌-◌, List, [], ◌∷◌, ◌++◌, map, Option, Some, None, option_map, ℤ}
use Rattle.std.proofs.Common.{codes, refl, ap, ap₂, ◌∙◌}
use Rattle.std.proofs.lemmas.List.{map-append}
use Rattle.std.specs.Prelude.{slice_get}
use Rattle.irs_base.specs.declared.line.Dec.{Dec}
use Rattle.irs_terms.specs.declared.currency.Currency.{Currency}
use Rattle.irs_terms.specs.declared.results.Exchange.{Exchange}
use Rattle.irs_terms.specs.declared.results.Reset.{Reset}
use Rattle.irs_schedule.specs.Parts.{Part}
use Rattle.irs_schedule.specs.RowsOf.{period_at}
use Rattle.irs_schedule.specs.declared.entries.PaymentEntry.{PaymentEntry}
use Rattle.irs_schedule.specs.declared.views.CalculationPeriod.{CalculationPeriod}
use Rattle.irs_emit.specs.Emitted.{array_of, cashflows_value, definition_value, emit_value, exchange_value, fixed_value}
use Rattle.irs_emit.specs.Emitted.{floating_value, forecast_value, known_exchanges, listed_period, object_with}
use Rattle.irs_emit.specs.Emitted.{observation_value, one_period, payment_value, period_members, period_value}
use Rattle.irs_emit.specs.Emitted.{period_values, put_known, stream_value, amount_leaf, currency_leaf, day_leaf}
use Rattle.irs_emit.specs.Emitted.{rate_leaf}
use Rattle.serde_json.specs.Data.{Data, string, object, no_members, put}
use Rattle.serde_json.specs.View.{items_of}
use Rattle.irs_emit_xml.specs.Trees.{value_alone, ones}
use Rattle.irs_emit_xml.proofs.Joining.{ones_listed}

-- an array as XML carries it
pub ones_array : (ds : List Data) → ones (array_of ds) ≡ value_alone (items_of (map ones ds))
ones_array ds = ap value_alone (ones_listed ds)

-- rows as XML carries them
rows_carried : {X : Type 0} (v w : X → Data) (xs : List X) → ((x : X) → ones (v x) ≡ w x)
    → map ones (map v xs) ≡ map w xs
rows_carried v w [] law = refl
rows_carried v w (x ∷ xs) law = ap₂ (λ d ds. d ∷ ds) (law x) (rows_carried v w xs law)

-- ---- rows without arrays are as they were

exchange_same : (x : Exchange) → ones (exchange_value x) ≡ exchange_value x
unfolding exchange_value
exchange_same x = refl

forecast_by : (currency : Currency) (o : Option Dec)
    → ones (object (put_known (codes "amount") (option_map amount_leaf o)
    (put (codes "currency") (currency_leaf currency) no_members)))
    ≡ object (put_known (codes "amount") (option_map amount_leaf o)
    (put (codes "currency") (currency_leaf currency) no_members))
forecast_by currency None = refl
forecast_by currency (Some v) = refl

forecast_same : (currency : Currency) (y : PaymentEntry) → ones (forecast_value currency y) ≡ forecast_value currency y
unfolding forecast_value
forecast_same currency y = forecast_by currency y.amount

observation_by : (a b : ℤ) (o : Option ℤ)
    → ones (object (put_known (codes "observedRate") (option_map rate_leaf o)
    (put (codes "adjustedFixingDate") (day_leaf b) (put (codes "resetDate") (day_leaf a) no_members))))
    ≡ object (put_known (codes "observedRate") (option_map rate_leaf o)
    (put (codes "adjustedFixingDate") (day_leaf b) (put (codes "resetDate") (day_leaf a) no_members)))
observation_by a b None = refl
observation_by a b (Some z) = refl

observation_same : (r : Reset) → ones (observation_value r) ≡ observation_value r
unfolding observation_value
observation_same r = observation_by r.reset r.fixing r.observed

definition_by : (d : Data) (o : Option ℤ)
    → ones (object (put_known (codes "calculatedRate") (option_map rate_leaf o)
    (put (codes "rateObservation") d no_members)))
    ≡ object (put_known (codes "calculatedRate") (option_map rate_leaf o)
    (put (codes "rateObservation") (ones d) no_members))
definition_by d None = refl
definition_by d (Some z) = refl

definition_same : (x : CalculationPeriod) (r : Reset) → ones (definition_value x r) ≡ definition_value x r
unfolding definition_value
definition_same x r =
    definition_by (observation_value r) x.rate
    ∙ ap (λ d. object (put_known (codes "calculatedRate") (option_map rate_leaf x.rate)
    (put (codes "rateObservation") d no_members))) (observation_same r)

fixed_by : (x : CalculationPeriod) (o : Option ℤ)
    → ones (object (put_known (codes "fixedRate") (option_map rate_leaf o) (period_members x)))
    ≡ object (put_known (codes "fixedRate") (option_map rate_leaf o) (period_members x))
unfolding period_members
fixed_by x None = refl
fixed_by x (Some z) = refl

floating_by : (x : CalculationPeriod) (d : Data)
    → ones (object (put (codes "floatingRateDefinition") d (period_members x)))
    ≡ object (put (codes "floatingRateDefinition") (ones d) (period_members x))
unfolding period_members
floating_by x d = refl

period_same : (x : CalculationPeriod) (reset : Option Reset) → ones (period_value x reset) ≡ period_value x reset
unfolding fixed_value floating_value
period_same x None = fixed_by x x.rate
period_same x (Some r) =
    floating_by x (definition_value x r)
    ∙ ap (λ d. object (put (codes "floatingRateDefinition") d (period_members x))) (definition_same x r)

listed_same : (reset : Option Reset) (o : Option CalculationPeriod)
    → map ones (listed_period reset o) ≡ listed_period reset o
listed_same reset None = refl
listed_same reset (Some x) = ap (λ d. d ∷ []) (period_same x reset)

-- periods are the same as XML carries them
pub periods_same : (p : Part) (j n : ℕ) → map ones (period_values p j n) ≡ period_values p j n
periods_same p j zero = refl
periods_same p j (suc n) =
    map-append ones (period_values p j n) (one_period p (j + n))
    ∙ ap₂ (λ a b. a ++ b) (periods_same p j n) (listed_same (slice_get p.resets (j + n)) (period_at p (j + n)))

-- ---- payments

-- the values of the periods of a payment
abbrev pub periods_paid : Part → PaymentEntry → List Data
periods_paid p y = period_values p (y.first_period - 1) (y.last_period + 1 - y.first_period)

-- a payment, by what holds its periods and its amount
abbrev pub paid : ℤ → ℤ → Data → Data → Data
paid unadjusted adjusted periods forecast = object (
    put (codes "adjustedPaymentDate") (day_leaf adjusted)
    (put (codes "calculationPeriod") periods
    (put (codes "forecastPaymentAmount") forecast
    (put (codes "unadjustedPaymentDate") (day_leaf unadjusted)
    no_members))))

-- a payment as XML carries it
abbrev pub carried_payment : Part → PaymentEntry → Data
carried_payment p y = paid y.unadjusted y.adjusted (value_alone (items_of (periods_paid p y))) (forecast_value p.currency y)

payment_carried : (p : Part) (y : PaymentEntry) → ones (payment_value p y) ≡ carried_payment p y
unfolding payment_value
payment_carried p y =
    ap₂ (paid y.unadjusted y.adjusted) (ones_array (periods_paid p y)
    ∙ ap (λ ds. value_alone (items_of ds)) (periods_same p (y.first_period - 1) (y.last_period + 1 - y.first_period)))
    (forecast_same p.currency y)

-- ---- streams

-- cash flows, by what holds the exchanges and the payments
abbrev pub cash : Option Data → Data → Data
cash exchanges payments = object (
    put_known (codes "principalExchange") exchanges
    (put (codes "cashflowsMatchParameters") (string (codes "true"))
    (put (codes "paymentCalculationPeriod") payments
    no_members)))

-- rows as XML carries them, where there are any
abbrev pub known_alone : List Data → Option Data
known_alone [] = None
known_alone (d ∷ ds) = Some (value_alone (items_of (d ∷ ds)))

-- the cash flows of a stream as XML carries them
abbrev pub carried_cash : Part → Data
carried_cash p = cash (known_alone (map exchange_value p.exchanges))
    (value_alone (items_of (map (carried_payment p) p.payments)))

cash_by : (p : Part) (xs : List Exchange) (ys : List PaymentEntry)
    → ones (cash (known_exchanges xs) (array_of (map (payment_value p) ys)))
    ≡ cash (known_alone (map exchange_value xs)) (value_alone (items_of (map (carried_payment p) ys)))
cash_by p [] ys =
    ap (cash None) (ones_array (map (payment_value p) ys)
    ∙ ap (λ ds. value_alone (items_of ds)) (rows_carried (payment_value p) (carried_payment p) ys (payment_carried p)))
cash_by p (x ∷ xs) ys =
    ap₂ (λ e d. cash (Some e) d) (ones_array (map exchange_value (x ∷ xs))
    ∙ ap (λ ds. value_alone (items_of ds)) (rows_carried exchange_value exchange_value (x ∷ xs) exchange_same))
    (ones_array (map (payment_value p) ys)
    ∙ ap (λ ds. value_alone (items_of ds)) (rows_carried (payment_value p) (carried_payment p) ys (payment_carried p)))

-- a stream as XML carries it
abbrev pub carried_stream : Part → Data
carried_stream p = object_with (codes "cashflows") (carried_cash p)

stream_carried : (p : Part) → ones (stream_value p) ≡ carried_stream p
unfolding cashflows_value
stream_carried p = ap (object_with (codes "cashflows")) (cash_by p p.exchanges p.payments)

-- the swap as XML carries it
abbrev pub carried_swap : List Part → Data
carried_swap s = object_with (codes "swapStream") (value_alone (items_of (map carried_stream s)))

-- the whole value as XML carries it
pub emitted_carried : (s : List Part) → ones (emit_value s) ≡ object_with (codes "swap") (carried_swap s)
unfolding emit_value
emitted_carried s =
    ap (λ d. object_with (codes "swap") (object_with (codes "swapStream") d)) (ones_array (map stream_value s)
    ∙ ap (λ ds. value_alone (items_of ds)) (rows_carried stream_value carried_stream s stream_carried))
