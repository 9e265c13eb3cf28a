-- The cash flows of a schedule as a JSON value, in FpML's elements.
use Rattle.std.specs.Fmt.{signed_decimal}
use Rattle.std.specs.Prelude.{ℕ, ℤ, ◌^◌, ◌*ℤ◌, List, [], pos, if◌then◌else◌, zero, suc, ◌+◌, ◌-◌, ◌∷◌, ◌++◌, map}
use Rattle.std.specs.Prelude.{Option, Some, None, option_map, slice_get, codes}
use Rattle.std.specs.Str.{is_utf8}
use Rattle.serde_json.specs.Data.{Data, string, array, object, Members, no_members, put}
use Rattle.serde_json.specs.View.{items_of}
use Rattle.serde_json.specs.Written.{compact_text}
use Rattle.irs_base.specs.Limits.{rounded}
use Rattle.irs_base.specs.Texts.{day_text, dec_text}
use Rattle.irs_base.specs.declared.line.Dec.{Dec}
use Rattle.irs_base.specs.declared.rounding.Direction.TheVariants.{Nearest}
use Rattle.irs_terms.specs.declared.currency.Currency.{Currency}
use Rattle.irs_terms.specs.declared.results.Frac.{Frac}
use Rattle.irs_terms.specs.declared.results.Exchange.{Exchange}
use Rattle.irs_terms.specs.declared.results.Reset.{Reset}
use Rattle.irs_schedule.specs.Parts.{Part}
use Rattle.irs_schedule.specs.RowsOf.{period_at}
use Rattle.irs_schedule.specs.declared.entries.PaymentEntry.{PaymentEntry}
use Rattle.irs_schedule.specs.declared.views.CalculationPeriod.{CalculationPeriod}

-- ---- the leaves of emitted cash flows: each is a JSON string

-- a date: `YYYY-MM-DD`
abbrev pub day_leaf : ℤ → Data
day_leaf d = string (day_text d)

-- a number of units of 10^-places, with that many decimals
abbrev pub number_leaf : ℤ → ℕ → Data
number_leaf units places = string (dec_text units places)

-- an amount, with its own decimals
abbrev pub amount_leaf : Dec → Data
amount_leaf v = number_leaf v.units v.places

-- a notional, with 4 decimals
abbrev pub notional_leaf : ℤ → Data
notional_leaf units = number_leaf units 4

-- a rate, with 9 decimals
abbrev pub rate_leaf : ℤ → Data
rate_leaf units = number_leaf units 9

-- a fraction with 10 decimals, rounded to the nearest
abbrev pub fraction_leaf : Frac → Data
fraction_leaf f = number_leaf (rounded Nearest (f.num *ℤ pos (10 ^ 10)) f.den) 10

-- a number of days
abbrev pub count_leaf : ℤ → Data
count_leaf n = string (signed_decimal n)

-- bytes as a text; bytes that aren't UTF-8 give the empty text, which no lawful currency has
abbrev pub utf8_or_empty : List ℕ → List ℕ
utf8_or_empty bytes = if is_utf8 bytes then bytes else []

-- a currency: its letters
abbrev pub currency_leaf : Currency → Data
currency_leaf c = string (utf8_or_empty c.letters)

-- ---- the cash flows of a schedule as a JSON value, in FpML's elements
-- There is a row for each row of the schedule, with each field of it that is known, and no other. Members are in the
-- byte order of their names.

-- the members, with one more of that name where its value is known
abbrev pub put_known : List ℕ → Option Data → Members → Members
put_known name None ms = ms
put_known name (Some d) ms = put name d ms

-- an object with one member
abbrev pub object_with : List ℕ → Data → Data
object_with name d = object (put name d no_members)

-- an array of these values
abbrev pub array_of : List Data → Data
array_of ds = array (items_of ds)

-- a principal exchange
unfoldable pub exchange_value : Exchange → Data
exchange_value x = object (
    put (codes "adjustedPrincipalExchangeDate") (day_leaf x.adjusted)
    (put (codes "principalExchangeAmount") (amount_leaf x.amount)
    (put (codes "unadjustedPrincipalExchangeDate") (day_leaf x.unadjusted)
    no_members)))

-- the amount of a payment; the currency is there also where the amount isn't known
unfoldable pub forecast_value : Currency → PaymentEntry → Data
forecast_value currency y = object (
    put_known (codes "amount") (option_map amount_leaf y.amount)
    (put (codes "currency") (currency_leaf currency)
    no_members))

-- a reset, with its rate where that is known
unfoldable pub observation_value : Reset → Data
observation_value r = object (
    put_known (codes "observedRate") (option_map rate_leaf r.observed)
    (put (codes "adjustedFixingDate") (day_leaf r.fixing)
    (put (codes "resetDate") (day_leaf r.reset)
    no_members)))

-- the rate of a period and its reset
unfoldable pub definition_value : CalculationPeriod → Reset → Data
definition_value x r = object (
    put_known (codes "calculatedRate") (option_map rate_leaf x.rate)
    (put (codes "rateObservation") (observation_value r)
    no_members))

-- the members of each calculation period
unfoldable pub period_members : CalculationPeriod → Members
period_members x =
    put (codes "adjustedEndDate") (day_leaf x.adjusted_end)
    (put (codes "adjustedStartDate") (day_leaf x.adjusted_start)
    (put (codes "calculationPeriodNumberOfDays") (count_leaf x.days)
    (put (codes "dayCountYearFraction") (fraction_leaf x.frac)
    (put (codes "notionalAmount") (notional_leaf x.notional)
    (put (codes "unadjustedEndDate") (day_leaf x.«end»)
    (put (codes "unadjustedStartDate") (day_leaf x.start)
    no_members))))))

-- a calculation period without a reset has its `fixedRate`
unfoldable pub fixed_value : CalculationPeriod → Data
fixed_value x = object (put_known (codes "fixedRate") (option_map rate_leaf x.rate) (period_members x))

-- a calculation period with a reset has a `floatingRateDefinition`
unfoldable pub floating_value : CalculationPeriod → Reset → Data
floating_value x r = object (put (codes "floatingRateDefinition") (definition_value x r) (period_members x))

-- a calculation period, with its reset if it has one
abbrev pub period_value : CalculationPeriod → Option Reset → Data
period_value x None = fixed_value x
period_value x (Some r) = floating_value x r

-- a period as a list: empty where there is no such period
abbrev pub listed_period : Option Reset → Option CalculationPeriod → List Data
listed_period reset None = []
listed_period reset (Some x) = period_value x reset ∷ []

-- the period at a place, counted from 0, if there is one
abbrev pub one_period : Part → ℕ → List Data
one_period p j = listed_period (slice_get p.resets j) (period_at p j)

-- n periods of a part from a place on
abbrev pub period_values : Part → ℕ → ℕ → List Data
period_values p j zero = []
period_values p j (suc n) = period_values p j n ++ one_period p (j + n)

-- a payment, with the calculation periods that it pays
unfoldable pub payment_value : Part → PaymentEntry → Data
payment_value p y = object (
    put (codes "adjustedPaymentDate") (day_leaf y.adjusted)
    (put (codes "calculationPeriod")
    (array_of (period_values p (y.first_period - 1) (y.last_period + 1 - y.first_period)))
    (put (codes "forecastPaymentAmount") (forecast_value p.currency y)
    (put (codes "unadjustedPaymentDate") (day_leaf y.unadjusted)
    no_members))))

-- the exchanges, where there are any
abbrev pub known_exchanges : List Exchange → Option Data
known_exchanges [] = None
known_exchanges (x ∷ xs) = Some (array_of (map exchange_value (x ∷ xs)))

-- FpML's `cashflows` of a stream
unfoldable pub cashflows_value : Part → Data
cashflows_value p = object (
    put_known (codes "principalExchange") (known_exchanges p.exchanges)
    (put (codes "cashflowsMatchParameters") (string (codes "true"))
    (put (codes "paymentCalculationPeriod") (array_of (map (payment_value p) p.payments))
    no_members)))

-- a stream has its cash flows alone
abbrev pub stream_value : Part → Data
stream_value p = object_with (codes "cashflows") (cashflows_value p)

-- the value of a schedule: `swap`, and in it the streams in order
unfoldable pub emit_value : List Part → Data
emit_value s = object_with (codes "swap") (object_with (codes "swapStream") (array_of (map stream_value s)))

-- the text of a schedule: the one that serde_json writes for its value, and a line feed
unfoldable pub emit_text : List Part → List ℕ
emit_text s = compact_text (emit_value s) ++ 10 ∷ []
