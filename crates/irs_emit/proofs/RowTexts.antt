-- The pieces that the code appends for an object are the compact text of the object.
use Rattle.irs_base.specs.declared.line.Dec.{Dec}
use Rattle.irs_emit.proofs.Pieces.{items_listed}
use Rattle.irs_emit.specs.Emitted.{array_of, cashflows_value, definition_value, emit_text, emit_value, exchange_value}
use Rattle.irs_emit.specs.Emitted.{forecast_value, known_exchanges, observation_value, payment_value, period_members}
use Rattle.irs_emit.specs.Emitted.{period_value, period_values, fixed_value, floating_value, put_known, stream_value}
use Rattle.irs_emit.specs.Emitted.{amount_leaf, count_leaf, currency_leaf, day_leaf, fraction_leaf, rate_leaf}
use Rattle.irs_emit.specs.Private.Texts.{exchanges_text, known_text, listed_text, period_back, period_front, rate_text}
use Rattle.irs_schedule.specs.Parts.{Part}
use Rattle.irs_schedule.specs.declared.entries.PaymentEntry.{PaymentEntry}
use Rattle.irs_schedule.specs.declared.views.CalculationPeriod.{CalculationPeriod}
use Rattle.irs_terms.specs.declared.currency.Currency.{Currency}
use Rattle.irs_terms.specs.declared.results.Exchange.{Exchange}
use Rattle.irs_terms.specs.declared.results.Reset.{Reset}
use Rattle.json.specs.Print.{escape_byte}
use Rattle.serde_json.specs.Data.{Data, object, no_members, put, string}
use Rattle.serde_json.specs.Written.{compact_text}
use Rattle.std.proofs.Common.{◌≡◌, ℤ, ◌+◌, ◌-◌, List, [], ◌∷◌, ◌++◌, false, map, Option, Some, None, option_map, codes}
use Rattle.std.proofs.Common.{ℕ, suc, ◌==◌, true, length, refl, sym, ap, ◌∙◌, append_assoc, arith}
use Rattle.std.proofs.lemmas.Bool.Decides.{nat_tests}

-- a comma that ends a piece is one that begins the next
comma_moved : (a rest : List ℕ) → (a ++ 44 ∷ []) ++ rest ≡ a ++ 44 ∷ rest
comma_moved a rest = append_assoc a (44 ∷ []) rest

-- a list of values in brackets, with a text after it
pub bracketed : (ds : List Data) (rest : List ℕ)
    → 91 ∷ (listed_text false ds ++ (93 ∷ rest)) ≡ compact_text (array_of ds) ++ rest
bracketed ds rest =
    ap (λ t. 91 ∷ t) (sym (append_assoc (listed_text false ds) (93 ∷ []) rest))
    ∙ ap (λ t. 91 ∷ (t ++ rest)) (sym (items_listed false ds))

forecast_by : (currency : Currency) (o : Option Dec)
    → codes "{" ++ (known_text (codes "\"amount\":") (option_map amount_leaf o)
    ++ (codes "\"currency\":" ++ (compact_text (currency_leaf currency) ++ codes "}")))
    ≡ compact_text (object (put_known (codes "amount") (option_map amount_leaf o)
    (put (codes "currency") (currency_leaf currency) no_members)))
unfolding escape_byte
forecast_by currency None = refl
forecast_by currency (Some v) =
    ap (λ t. codes "{\"amount\":" ++ t)
    (comma_moved (compact_text (amount_leaf v)) (codes "\"currency\":"
    ++ (compact_text (currency_leaf currency) ++ codes "}")))

-- the pieces of the amount of a payment
pub forecast_text : (currency : Currency) (y : PaymentEntry)
    → codes "{" ++ (known_text (codes "\"amount\":") (option_map amount_leaf y.amount)
    ++ (codes "\"currency\":" ++ (compact_text (currency_leaf currency) ++ codes "}")))
    ≡ compact_text (forecast_value currency y)
unfolding forecast_value
forecast_text currency y = forecast_by currency y.amount

observation_by : (fixing reset : ℤ) (o : Option ℤ)
    → codes "{\"adjustedFixingDate\":" ++ (compact_text (day_leaf fixing)
    ++ (codes "," ++ (known_text (codes "\"observedRate\":") (option_map rate_leaf o)
    ++ (codes "\"resetDate\":" ++ (compact_text (day_leaf reset) ++ codes "}")))))
    ≡ compact_text (object (put_known (codes "observedRate") (option_map rate_leaf o)
    (put (codes "adjustedFixingDate") (day_leaf fixing) (put (codes "resetDate") (day_leaf reset) no_members))))
unfolding escape_byte
observation_by fixing reset None = refl
observation_by fixing reset (Some u) =
    ap (λ t. codes "{\"adjustedFixingDate\":" ++ (compact_text (day_leaf fixing) ++ (codes ",\"observedRate\":" ++ t)))
    (comma_moved (compact_text (rate_leaf u)) (codes "\"resetDate\":" ++ (compact_text (day_leaf reset) ++ codes "}")))

-- the pieces of a reset
pub observation_text : (r : Reset)
    → codes "{\"adjustedFixingDate\":" ++ (compact_text (day_leaf r.fixing)
    ++ (codes "," ++ (known_text (codes "\"observedRate\":") (option_map rate_leaf r.observed)
    ++ (codes "\"resetDate\":" ++ (compact_text (day_leaf r.reset) ++ codes "}")))))
    ≡ compact_text (observation_value r)
unfolding observation_value
observation_text r = observation_by r.fixing r.reset r.observed

definition_by : (o : Option ℤ) (d : Data)
    → codes "{" ++ (known_text (codes "\"calculatedRate\":") (option_map rate_leaf o)
    ++ (codes "\"rateObservation\":" ++ (compact_text d ++ codes "}")))
    ≡ compact_text (object (put_known (codes "calculatedRate") (option_map rate_leaf o)
    (put (codes "rateObservation") d no_members)))
unfolding escape_byte
definition_by None d = refl
definition_by (Some u) d =
    ap (λ t. codes "{\"calculatedRate\":" ++ t)
    (comma_moved (compact_text (rate_leaf u)) (codes "\"rateObservation\":" ++ (compact_text d ++ codes "}")))

-- the pieces of the rate of a period and its reset
pub definition_text : (x : CalculationPeriod) (r : Reset)
    → codes "{" ++ (known_text (codes "\"calculatedRate\":") (option_map rate_leaf x.rate)
    ++ (codes "\"rateObservation\":" ++ (compact_text (observation_value r) ++ codes "}")))
    ≡ compact_text (definition_value x r)
unfolding definition_value
definition_text x r = definition_by x.rate (observation_value r)

-- a long text is regrouped, as it was appended and as it is written
front_moved : (a b c d e f g h r : List ℕ)
    → (a ++ (b ++ (c ++ (d ++ (e ++ (f ++ (g ++ (h ++ 44 ∷ [])))))))) ++ r
    ≡ a ++ (b ++ (c ++ (d ++ (e ++ (f ++ (g ++ (h ++ 44 ∷ r)))))))
front_moved a b c d e f g h r = simp append_assoc

-- what comes before the rate of a period, with a text after it
front_then : (x : CalculationPeriod) (r : List ℕ)
    → period_front x ++ r
    ≡ codes "{\"adjustedEndDate\":" ++ (compact_text (day_leaf x.adjusted_end)
    ++ (codes ",\"adjustedStartDate\":" ++ (compact_text (day_leaf x.adjusted_start)
    ++ (codes ",\"calculationPeriodNumberOfDays\":" ++ (compact_text (count_leaf x.days)
    ++ (codes ",\"dayCountYearFraction\":" ++ (compact_text (fraction_leaf x.frac) ++ 44 ∷ r)))))))
unfolding period_front
front_then x r =
    front_moved (codes "{\"adjustedEndDate\":") (compact_text (day_leaf x.adjusted_end))
    (codes ",\"adjustedStartDate\":")
    (compact_text (day_leaf x.adjusted_start)) (codes ",\"calculationPeriodNumberOfDays\":")
    (compact_text (count_leaf x.days)) (codes ",\"dayCountYearFraction\":") (compact_text (fraction_leaf x.frac)) r

fixed_by : (x : CalculationPeriod) (o : Option ℤ)
    → period_front x ++ (known_text (codes "\"fixedRate\":") (option_map rate_leaf o) ++ period_back x)
    ≡ compact_text (object (put_known (codes "fixedRate") (option_map rate_leaf o) (period_members x)))
unfolding period_members period_back escape_byte
fixed_by x None = front_then x (period_back x)
fixed_by x (Some u) =
    ap (λ t. period_front x ++ (codes "\"fixedRate\":" ++ t)) (comma_moved (compact_text (rate_leaf u)) (period_back x))
    ∙ front_then x (codes "\"fixedRate\":" ++ (compact_text (rate_leaf u) ++ 44 ∷ period_back x))

floating_by : (x : CalculationPeriod) (d : Data)
    → period_front x ++ (known_text (codes "\"floatingRateDefinition\":") (Some d) ++ period_back x)
    ≡ compact_text (object (put (codes "floatingRateDefinition") d (period_members x)))
unfolding period_members period_back escape_byte
floating_by x d =
    ap (λ t. period_front x ++ (codes "\"floatingRateDefinition\":" ++ t))
    (comma_moved (compact_text d) (period_back x))
    ∙ front_then x (codes "\"floatingRateDefinition\":" ++ (compact_text d ++ 44 ∷ period_back x))

-- the text of a period in its pieces: what comes before its rate, the rate, and what comes after it
pub period_text : (x : CalculationPeriod) (reset : Option Reset)
    → period_front x ++ (rate_text x reset ++ period_back x) ≡ compact_text (period_value x reset)
unfolding fixed_value floating_value
period_text x None = fixed_by x x.rate
period_text x (Some r) = floating_by x (definition_value x r)

-- the pieces of a payment
pub payment_text : (p : Part) (y : PaymentEntry)
    → codes "{\"adjustedPaymentDate\":" ++ (compact_text (day_leaf y.adjusted)
    ++ (codes ",\"calculationPeriod\":["
    ++ (listed_text false (period_values p (y.first_period - 1) (y.last_period + 1 - y.first_period))
    ++ (codes "],\"forecastPaymentAmount\":" ++ (compact_text (forecast_value p.currency y)
    ++ (codes ",\"unadjustedPaymentDate\":" ++ (compact_text (day_leaf y.unadjusted) ++ codes "}")))))))
    ≡ compact_text (payment_value p y)
unfolding payment_value escape_byte
payment_text p y =
    ap (λ t. codes "{\"adjustedPaymentDate\":" ++ (compact_text (day_leaf y.adjusted)
    ++ (codes ",\"calculationPeriod\":" ++ t)))
    (bracketed (period_values p (y.first_period - 1) (y.last_period + 1 - y.first_period))
    (codes ",\"forecastPaymentAmount\":" ++ (compact_text (forecast_value p.currency y)
    ++ (codes ",\"unadjustedPaymentDate\":" ++ (compact_text (day_leaf y.unadjusted) ++ codes "}")))))

cashflows_by : (ds : List Data) (xs : List Exchange)
    → codes "{\"cashflowsMatchParameters\":\"true\",\"paymentCalculationPeriod\":[" ++ (listed_text false ds
    ++ (codes "]" ++ (exchanges_text xs ++ codes "}")))
    ≡ compact_text (object (put_known (codes "principalExchange") (known_exchanges xs)
    (put (codes "cashflowsMatchParameters") (string (codes "true"))
    (put (codes "paymentCalculationPeriod") (array_of ds) no_members))))
unfolding escape_byte
cashflows_by ds [] =
    ap (λ t. codes "{\"cashflowsMatchParameters\":\"true\",\"paymentCalculationPeriod\":" ++ t)
    (bracketed ds (codes "}"))
cashflows_by ds (x ∷ xs) =
    let es = map exchange_value (x ∷ xs) in
    let last : (listed_text false es ++ 93 ∷ []) ++ codes "}" ≡ listed_text false es ++ codes "]}" =
    append_assoc (listed_text false es) (93 ∷ []) (codes "}") in
    ap (λ t. codes "{\"cashflowsMatchParameters\":\"true\",\"paymentCalculationPeriod\":[" ++ (listed_text false ds
    ++ (codes "],\"principalExchange\":[" ++ t))) last
    ∙ ap (λ t. codes "{\"cashflowsMatchParameters\":\"true\",\"paymentCalculationPeriod\":[" ++ (listed_text false ds
    ++ (codes "],\"principalExchange\":" ++ t))) (bracketed es (codes "}"))
    ∙ ap (λ t. codes "{\"cashflowsMatchParameters\":\"true\",\"paymentCalculationPeriod\":" ++ t)
    (bracketed ds (codes ",\"principalExchange\":" ++ (compact_text (array_of es) ++ codes "}")))

-- the pieces of the cash flows of a stream
pub cashflows_text : (p : Part)
    → codes "{\"cashflowsMatchParameters\":\"true\",\"paymentCalculationPeriod\":["
    ++ (listed_text false (map (payment_value p) p.payments)
    ++ (codes "]" ++ (exchanges_text p.exchanges ++ codes "}")))
    ≡ compact_text (cashflows_value p)
unfolding cashflows_value
cashflows_text p = cashflows_by (map (payment_value p) p.payments) p.exchanges

ends_moved : (a : List ℕ) → ((a ++ 125 ∷ []) ++ 125 ∷ []) ++ 10 ∷ [] ≡ a ++ 125 ∷ 125 ∷ 10 ∷ []
ends_moved a = simp append_assoc

-- the pieces of the document
pub document_text : (s : List Part)
    → codes "{\"swap\":{\"swapStream\":[" ++ (listed_text false (map stream_value s) ++ (93 ∷ 125 ∷ 125 ∷ 10 ∷ []))
    ≡ emit_text s
unfolding emit_text emit_value escape_byte
document_text s =
    ap (λ t. codes "{\"swap\":{\"swapStream\":" ++ t)
    (bracketed (map stream_value s) (125 ∷ 125 ∷ 10 ∷ [])
    ∙ sym (ends_moved (compact_text (array_of (map stream_value s)))))

not_none : (n : ℕ) → (suc n == 0) ≡ true → ⊥
not_none n h = grind (arith, nat_tests, h)

-- no exchange has no piece
pub no_exchanges : (xs : List Exchange) → (length xs == 0) ≡ true → [] ≡ exchanges_text xs
no_exchanges [] h = refl
no_exchanges (x ∷ xs) h = absurd (not_none (length xs) h)

-- the pieces of the exchanges, where there are any
pub exchanges_pieces : (xs : List Exchange) → (length xs == 0) ≡ false
    → codes ",\"principalExchange\":[" ++ (listed_text false (map exchange_value xs) ++ codes "]") ≡ exchanges_text xs
exchanges_pieces [] h = absurd (let bad : true ≡ false = h in cc)
exchanges_pieces (x ∷ xs) h = refl

-- the pieces of a stream
pub stream_text : (p : Part)
    → codes "{\"cashflows\":" ++ (compact_text (cashflows_value p) ++ codes "}") ≡ compact_text (stream_value p)
unfolding escape_byte
stream_text p = refl
