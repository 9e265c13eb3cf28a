-- The cash flows of a schedule as elements of FpML, and what their document states.
use Rattle.std.specs.Fmt.{signed_decimal}
use Rattle.std.specs.Prelude.{ℕ, zero, suc, ◌+◌, ◌-◌, ◌^◌, List, [], ◌∷◌, ◌++◌, map, Option, Some, None, ℤ, pos, ◌*ℤ◌}
use Rattle.std.specs.Prelude.{slice_get, codes}
use Rattle.serde_json.specs.Data.{Data}
use Rattle.irs_base.specs.Limits.{rounded}
use Rattle.irs_base.specs.Texts.{day_text, dec_text}
use Rattle.irs_base.specs.declared.line.Dec.{Dec}
use Rattle.irs_base.specs.declared.rounding.Direction.TheVariants.{Nearest}
use Rattle.irs_terms.specs.declared.currency.Currency.{Currency}
use Rattle.irs_terms.specs.declared.results.Exchange.{Exchange}
use Rattle.irs_terms.specs.declared.results.Frac.{Frac}
use Rattle.irs_terms.specs.declared.results.Reset.{Reset}
use Rattle.irs_xml.specs.Document.{XmlReads}
use Rattle.irs_flows.specs.FlowReading.{FlowsOf}
use Rattle.irs_schedule.specs.Parts.{Part}
use Rattle.irs_schedule.specs.RowsOf.{period_at}
use Rattle.irs_schedule.specs.declared.entries.PaymentEntry.{PaymentEntry}
use Rattle.irs_schedule.specs.declared.views.CalculationPeriod.{CalculationPeriod}
use Rattle.irs_audit.specs.StatedFlows.{stated_flows}
use Rattle.irs_audit.specs.Verdicts.{IsVerdict, row_count, unfixed_count}
use Rattle.irs_audit.specs.declared.departures.Verdict.TheVariants.{Yes}
use Rattle.irs_emit_xml.specs.Trees.{Node, leaf, branch, Nodes, no_nodes, node, written_text}

-- ---- the cash flows of a schedule as elements of FpML, in the order that FpML's schema has for them
-- There is an element for each field that is known, and no other.

-- elements in this order
abbrev pub listed_nodes : List Node → Nodes
listed_nodes [] = no_nodes
listed_nodes (n ∷ ns) = node n (listed_nodes ns)

-- an element with elements
abbrev pub element : List ℕ → List Node → Node
element name ns = branch name (listed_nodes ns)

-- ---- leaves

-- a date: `YYYY-MM-DD`
abbrev pub day_node : List ℕ → ℤ → Node
day_node name d = leaf name (day_text d)

-- a number of units of 10^-places, with that many decimals
abbrev pub number_node : List ℕ → ℤ → ℕ → Node
number_node name units places = leaf name (dec_text units places)

-- an amount, with its own decimals
abbrev pub amount_node : List ℕ → Dec → Node
amount_node name v = number_node name v.units v.places

-- a rate, with 9 decimals
abbrev pub rate_node : List ℕ → ℤ → Node
rate_node name units = number_node name units 9

-- a notional, with 4 decimals
abbrev pub notional_node : List ℕ → ℤ → Node
notional_node name units = number_node name units 4

-- a fraction with 10 decimals, rounded to the nearest
abbrev pub fraction_node : List ℕ → Frac → Node
fraction_node name f = number_node name (rounded Nearest (f.num *ℤ pos (10 ^ 10)) f.den) 10

-- a number of days
abbrev pub count_node : List ℕ → ℤ → Node
count_node name n = leaf name (signed_decimal n)

-- a currency: its letters
abbrev pub currency_node : List ℕ → Currency → Node
currency_node name c = leaf name c.letters

-- an element, where its value is known
abbrev pub known : {X : Type 0} → (X → Node) → Option X → List Node
known f None = []
known f (Some x) = f x ∷ []

-- ---- rows, each by its fields in order

-- the fields of a principal exchange
abbrev pub exchange_content : Exchange → List Node
exchange_content x =
    day_node (codes "unadjustedPrincipalExchangeDate") x.unadjusted
    ∷ day_node (codes "adjustedPrincipalExchangeDate") x.adjusted
    ∷ amount_node (codes "principalExchangeAmount") x.amount
    ∷ []

-- FpML's PrincipalExchange
unfoldable pub exchange_node : Exchange → Node
exchange_node x = element (codes "principalExchange") (exchange_content x)

-- the fields of the amount of a payment; the currency is there also where the amount isn't known
abbrev pub forecast_fields : Currency → PaymentEntry → List Node
forecast_fields currency y = currency_node (codes "currency") currency ∷ known (amount_node (codes "amount")) y.amount

-- the amount of a payment, FpML's Money
unfoldable pub forecast_node : Currency → PaymentEntry → Node
forecast_node currency y = element (codes "forecastPaymentAmount") (forecast_fields currency y)

-- the fields of a reset, with the observed rate where that is known
abbrev pub observation_fields : Reset → List Node
observation_fields r =
    day_node (codes "resetDate") r.reset
    ∷ day_node (codes "adjustedFixingDate") r.fixing
    ∷ known (rate_node (codes "observedRate")) r.observed

-- FpML's RateObservation
unfoldable pub observation_node : Reset → Node
observation_node r = element (codes "rateObservation") (observation_fields r)

-- the rate of a period where it is known, and its reset
abbrev pub definition_fields : CalculationPeriod → Reset → List Node
definition_fields x r = known (rate_node (codes "calculatedRate")) x.rate ++ observation_node r ∷ []

-- FpML's FloatingRateDefinition
unfoldable pub definition_node : CalculationPeriod → Reset → Node
definition_node x r = element (codes "floatingRateDefinition") (definition_fields x r)

-- the rate of a period: its `fixedRate`, or on a floating stream its `floatingRateDefinition`
abbrev pub rate_content : CalculationPeriod → Option Reset → List Node
rate_content x None = known (rate_node (codes "fixedRate")) x.rate
rate_content x (Some r) = definition_node x r ∷ []

-- what comes before the rate of a period
abbrev pub front_content : CalculationPeriod → List Node
front_content x =
    day_node (codes "unadjustedStartDate") x.start
    ∷ day_node (codes "unadjustedEndDate") x.«end»
    ∷ day_node (codes "adjustedStartDate") x.adjusted_start
    ∷ day_node (codes "adjustedEndDate") x.adjusted_end
    ∷ count_node (codes "calculationPeriodNumberOfDays") x.days
    ∷ notional_node (codes "notionalAmount") x.notional
    ∷ []

-- the fields of a calculation period, with its reset if it has one
abbrev pub period_content : CalculationPeriod → Option Reset → List Node
period_content x reset = front_content x ++ (rate_content x reset ++ fraction_node (codes "dayCountYearFraction") x.frac ∷ [])

-- FpML's CalculationPeriod
unfoldable pub period_node : CalculationPeriod → Option Reset → Node
period_node x reset = element (codes "calculationPeriod") (period_content x reset)

-- a period as a list: empty where there is no such period
abbrev pub listed_period_nodes : Option Reset → Option CalculationPeriod → List Node
listed_period_nodes reset None = []
listed_period_nodes reset (Some x) = period_node x reset ∷ []

-- the period at a place, counted from 0, if there is one
abbrev pub one_period_nodes : Part → ℕ → List Node
one_period_nodes p j = listed_period_nodes (slice_get p.resets j) (period_at p j)

-- n periods of a part from a place on
abbrev pub period_nodes : Part → ℕ → ℕ → List Node
period_nodes p j zero = []
period_nodes p j (suc n) = period_nodes p j n ++ one_period_nodes p (j + n)

-- the fields of a payment, with the calculation periods that it pays
abbrev pub payment_content : Part → PaymentEntry → List Node
payment_content p y =
    day_node (codes "unadjustedPaymentDate") y.unadjusted
    ∷ day_node (codes "adjustedPaymentDate") y.adjusted
    ∷ (period_nodes p (y.first_period - 1) (y.last_period + 1 - y.first_period) ++ forecast_node p.currency y ∷ [])

-- FpML's PaymentCalculationPeriod
unfoldable pub payment_node : Part → PaymentEntry → Node
payment_node p y = element (codes "paymentCalculationPeriod") (payment_content p y)

-- that cash flows match the parameters of their stream, the principal exchanges, and the payments
abbrev pub cashflows_fields : Part → List Node
cashflows_fields p =
    leaf (codes "cashflowsMatchParameters") (codes "true")
    ∷ (map exchange_node p.exchanges ++ map (payment_node p) p.payments)

-- FpML's Cashflows of a stream
unfoldable pub cashflows_node : Part → Node
cashflows_node p = element (codes "cashflows") (cashflows_fields p)

-- a stream has its cash flows alone
unfoldable pub stream_node : Part → Node
stream_node p = element (codes "swapStream") (cashflows_node p ∷ [])

-- the streams of a schedule, in order
abbrev pub stream_nodes : List Part → Nodes
stream_nodes s = listed_nodes (map stream_node s)

-- the document of a schedule: `swap` with its streams
unfoldable pub flows_text : List Part → List ℕ
flows_text s = written_text (codes "swap") (stream_nodes s)

-- ---- what the document of a schedule states

-- The bytes mean a value that has no fault of the tables of cash flows. It states exactly the flows that state the
-- schedule, and the audit of these flows is yes.
pub record StatesInXml (bytes : List ℕ) (s : List Part) : Type 0 where
  pub value : Data
  pub reads : XmlReads bytes value
  pub flows : FlowsOf value (stated_flows s)
  pub audit : IsVerdict (stated_flows s) s (Yes (row_count s) (unfixed_count s))
