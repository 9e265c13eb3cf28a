-- Each row reads back as the flow that states it.
use Rattle.irs_flows.specs.FlowReading.{payment_in, period_in, flow_reset_in, stated}
use Rattle.irs_audit.specs.StatedFlows.{stated_amount, stated_exchange, stated_number, stated_payment, stated_period}
use Rattle.irs_audit.specs.StatedFlows.{stated_reset}
use Rattle.irs_flows.specs.declared.flows.FlowExchange.{FlowExchange}
use Rattle.irs_flows.specs.declared.flows.FlowPayment.{FlowPayment}
use Rattle.irs_flows.specs.declared.flows.FlowPeriod.{FlowPeriod}
use Rattle.irs_flows.specs.declared.flows.FlowReset.{FlowReset}
use Rattle.irs_flows.specs.declared.flows.StatedFraction.{StatedFraction}
use Rattle.irs_base.specs.declared.line.Dec.{Dec}
use Rattle.irs_elements.specs.Codes.{first_there}
use Rattle.irs_elements.specs.Leaves.{leaf_date_at, currency_at}
use Rattle.irs_elements.specs.Elements.{once, values_of}
use Rattle.irs_elements.specs.Numbers.{fraction_at, amount_at, whole_at}
use Rattle.irs_emit.proofs.LeavesRead.{amount_reads, count_reads, currency_reads, day_reads, fraction_reads}
use Rattle.irs_emit.proofs.LeavesRead.{notional_reads, rate_reads}
use Rattle.irs_emit.specs.Emitted.{array_of, definition_value, exchange_value, fixed_value, floating_value}
use Rattle.irs_emit.specs.Emitted.{forecast_value, listed_period, observation_value, one_period, payment_value}
use Rattle.irs_emit.specs.Emitted.{period_members, period_values, put_known, amount_leaf, count_leaf, currency_leaf}
use Rattle.irs_emit.specs.Emitted.{day_leaf, fraction_leaf, notional_leaf, rate_leaf}
use Rattle.irs_emit.specs.RowLaws.{ExchangeReadsBack, IsPeriodShort, IsShortAmount, IsShortRate, PaymentReadsBack}
use Rattle.irs_emit.specs.RowLaws.{PeriodReadsBack, ResetReadsBack}
use Rattle.irs_json.specs.Leaves.{present, list_of}
use Rattle.irs_read.specs.Readings.{said}
use Rattle.irs_schedule.specs.Parts.{Part}
use Rattle.irs_schedule.specs.RowsOf.{dated_period}
use Rattle.irs_schedule.specs.declared.views.CalculationPeriod.{CalculationPeriod}
use Rattle.irs_terms.specs.declared.currency.Currency.{Currency}
use Rattle.irs_terms.specs.declared.results.Reset.{Reset}
use Rattle.serde_json.specs.Data.{Data, object, no_members, put}
use Rattle.serde_json.specs.View.{items_of as items_from}
use Rattle.std.proofs.Common.{◌≡◌, ℕ, zero, suc, ◌+◌, ◌-◌, ◌<◌, ◌≤◌, inl, inr, List, [], ◌∷◌, length, ℤ, codes, Option}
use Rattle.std.proofs.Common.{Some, None, IfSome, option_map, refl, ap, ◌∙◌, arith, length-append}
use Rattle.std.proofs.lemmas.Option.{slice_get_cases}
use Rattle.std.specs.Prelude.{slice_get}

-- ---- numbers that may be absent

known_amount : (o : Option Dec) → IfSome o IsShortAmount
    → said amount_at (option_map amount_leaf o) ≡ option_map stated_amount o
known_amount None h = refl
known_amount (Some v) h = amount_reads v h.0 h.1

known_rate : (o : Option ℤ) → IfSome o IsShortRate
    → said amount_at (option_map rate_leaf o) ≡ option_map (λ r. stated_number r 9) o
known_rate None h = refl
known_rate (Some r) h = rate_reads r h

-- ---- exchanges

exchange_of : (a b : Option ℤ) (c : Option ℤ) (x : FlowExchange) → a ≡ x.unadjusted → b ≡ x.adjusted → c ≡ x.amount
    → (record { unadjusted = a; adjusted = b; amount = c }) ≡ x
exchange_of a b c x p q r = rw (p, q, r) refl

-- the object of an exchange reads back as its flow
pub exchange_reads : ExchangeReadsBack
unfolding exchange_value
exchange_reads x h =
    exchange_of _ _ _ (stated_exchange x) (day_reads x.unadjusted h.unadjusted) (day_reads x.adjusted h.adjusted)
    (amount_reads x.amount h.amount.0 h.amount.1)

-- ---- resets

reset_of : (a b : Option ℤ) (c : Option ℤ) (r : FlowReset) → a ≡ r.reset → b ≡ r.fixing → c ≡ r.observed
    → (record { reset = a; fixing = b; observed = c }) ≡ r
reset_of a b c r p q s = rw (p, q, s) refl

observed_at : (r : Reset) (o : Option ℤ) → r.observed ≡ o
    → once (codes "observedRate") (observation_value r) ≡ option_map rate_leaf r.observed
unfolding observation_value
observed_at r None e = rw e refl
observed_at r (Some z) e = rw e refl

fixing_at : (r : Reset) (o : Option ℤ) → r.observed ≡ o
    → said leaf_date_at (once (codes "adjustedFixingDate") (observation_value r)) ≡ said leaf_date_at (Some (day_leaf r.fixing))
unfolding observation_value
fixing_at r None e = rw e refl
fixing_at r (Some z) e = rw e refl

reset_at_name : (r : Reset) (o : Option ℤ) → r.observed ≡ o
    → said leaf_date_at (once (codes "resetDate") (observation_value r)) ≡ said leaf_date_at (Some (day_leaf r.reset))
unfolding observation_value
reset_at_name r None e = rw e refl
reset_at_name r (Some z) e = rw e refl

-- the object of a reset reads back as its flow
pub reset_reads : ResetReadsBack
reset_reads r h =
    reset_of _ _ _ (stated_reset r) (reset_at_name r r.observed refl
    ∙ day_reads r.reset h.reset) (fixing_at r r.observed refl
    ∙ day_reads r.fixing h.fixing) (ap (said amount_at) (observed_at r r.observed refl)
    ∙ known_rate r.observed h.observed)

-- ---- calculation periods

-- what is read of a period with this rate and this reset
abbrev raw_period : CalculationPeriod → Option ℤ → Option FlowReset → FlowPeriod
raw_period x rate reset = record {
  start = said leaf_date_at (Some (day_leaf x.start));
  «end» = said leaf_date_at (Some (day_leaf x.«end»));
  adjusted_start = said leaf_date_at (Some (day_leaf x.adjusted_start));
  adjusted_end = said leaf_date_at (Some (day_leaf x.adjusted_end));
  days = said whole_at (Some (count_leaf x.days));
  notional = said amount_at (Some (notional_leaf x.notional));
  rate = rate;
  fraction = option_map stated (said fraction_at (Some (fraction_leaf x.frac)));
  reset = reset;
}

fixed_raw : (x : CalculationPeriod) (o : Option ℤ)
    → period_in (object (put_known (codes "fixedRate") (option_map rate_leaf o) (period_members x)))
    ≡ raw_period x (first_there (said amount_at (option_map rate_leaf o)) None) None
unfolding period_members
fixed_raw x None = refl
fixed_raw x (Some z) = refl

floating_raw : (x : CalculationPeriod) (r : Reset) (o : Option ℤ)
    → period_in (object (put (codes "floatingRateDefinition")
    (object (put_known (codes "calculatedRate") (option_map rate_leaf o)
    (put (codes "rateObservation") (observation_value r) no_members))) (period_members x)))
    ≡ raw_period x (said amount_at (option_map rate_leaf o)) (Some (flow_reset_in (observation_value r)))
unfolding period_members observation_value
floating_raw x r None = refl
floating_raw x r (Some z) = refl

period_of : (a b c d : Option ℤ) (n : Option ℤ) (m t : Option ℤ) (f : Option StatedFraction) (r : Option FlowReset)
    (y : FlowPeriod) → a ≡ y.start → b ≡ y.«end» → c ≡ y.adjusted_start → d ≡ y.adjusted_end → n ≡ y.days
    → m ≡ y.notional → t ≡ y.rate → f ≡ y.fraction → r ≡ y.reset
    → (record {
      start = a;
      «end» = b;
      adjusted_start = c;
      adjusted_end = d;
      days = n;
      notional = m;
      rate = t;
      fraction =
          f;
      reset = r;
    }) ≡ y
period_of a b c d n m t f r y e1 e2 e3 e4 e5 e6 e7 e8 e9 = rw (e1, e2, e3, e4, e5, e6, e7, e8, e9) refl

either_none : (o : Option ℤ) → first_there o None ≡ o
either_none None = refl
either_none (Some z) = refl

raw_stated : (x : CalculationPeriod) (rate : Option ℤ) (seen : Option FlowReset) (reset : Option Reset)
    → IsPeriodShort x → rate ≡ option_map (λ r. stated_number r 9) x.rate → seen ≡ option_map stated_reset reset
    → raw_period x rate seen ≡ stated_period x reset
raw_stated x rate seen reset h e g =
    period_of _ _ _ _ _ _ rate _ seen (stated_period x reset) (day_reads x.start h.start) (day_reads x.«end» h.«end»)
    (day_reads x.adjusted_start h.adjusted_start) (day_reads x.adjusted_end h.adjusted_end) (count_reads x.days h.days)
    (notional_reads x.notional h.notional) e (fraction_reads x.frac h.fraction h.short) g

-- the object of a calculation period reads back as its flow
pub period_reads : PeriodReadsBack
unfolding fixed_value floating_value definition_value
period_reads x None h k =
    fixed_raw x x.rate ∙ raw_stated x (first_there (said amount_at (option_map rate_leaf x.rate)) None) None None h
    (either_none (said amount_at (option_map rate_leaf x.rate)) ∙ known_rate x.rate h.rate) refl
period_reads x (Some r) h k =
    floating_raw x r x.rate
    ∙ raw_stated x (said amount_at (option_map rate_leaf x.rate)) (Some (flow_reset_in (observation_value r))) (Some r) h
    (known_rate x.rate h.rate) (ap Some (reset_reads r k))

-- ---- payments

-- the items of an array are the list it was made from
pub from_items : (ds : List Data) → list_of (items_from ds) ≡ ds
from_items [] = refl
from_items (d ∷ ds) = ap (λ l. d ∷ l) (from_items ds)

-- the values of an array, which may be empty
pub array_values : (ds : List Data) → values_of (present (array_of ds)) ≡ ds
array_values [] = refl
array_values (d ∷ ds) = ap (λ l. d ∷ l) (from_items ds)

one_listed : (p : Part) (j : ℕ) → j < length p.periods → length (one_period p j) ≡ 1
one_listed p j h = elim (slice_get_cases p.periods j).1 [
  | inl w ↦ ap (λ o. length (listed_period (slice_get p.resets j) (option_map (dated_period p (j + 1)) o))) w.2
  | inr w ↦ absurd (let past = w.0 in omega (arith, past))
]

-- each calculation period of the payment is listed
pub all_listed : (p : Part) (first n : ℕ) → first + n ≤ length p.periods → length (period_values p first n) ≡ n
all_listed p first zero h = refl
all_listed p first (suc n) h =
    let before = all_listed p first n (omega arith) in
    let one = one_listed p (first + n) (omega arith) in
    omega (arith, length-append (period_values p first n) (one_period p (first + n)), before, one)

payment_of : (a b : Option ℤ) (n : ℕ) (c : Option Currency) (m : Option ℤ) (y : FlowPayment) → a ≡ y.unadjusted
    → b ≡ y.adjusted → n ≡ y.periods → c ≡ y.currency → m ≡ y.amount
    → (record { unadjusted = a; adjusted = b; periods = n; currency = c; amount = m }) ≡ y
payment_of a b n c m y e1 e2 e3 e4 e5 = rw (e1, e2, e3, e4, e5) refl

-- a payment with these dates, periods and amount
abbrev payment_with : ℤ → ℤ → List Data → Data → Data
payment_with unadjusted adjusted ds forecast = object (
    put (codes "adjustedPaymentDate") (day_leaf adjusted)
    (put (codes "calculationPeriod") (array_of ds)
    (put (codes "forecastPaymentAmount") forecast
    (put (codes "unadjustedPaymentDate") (day_leaf unadjusted)
    no_members))))

-- the forecast amount of a payment, by its parts
abbrev forecast_with : Currency → Option Dec → Data
forecast_with currency o =
    object (put_known (codes "amount") (option_map amount_leaf o)
    (put (codes "currency") (currency_leaf currency) no_members))

payment_raw : (u a : ℤ) (ds : List Data) (currency : Currency) (o : Option Dec)
    → payment_in (payment_with u a ds (forecast_with currency o))
    ≡ (record {
      unadjusted = said leaf_date_at (Some (day_leaf u));
      adjusted = said leaf_date_at (Some (day_leaf a));
      periods =
          length (values_of (present (array_of ds)));
      currency =
          said currency_at (Some (currency_leaf currency));
      amount = said amount_at (option_map amount_leaf o);
    })
payment_raw u a ds currency None = refl
payment_raw u a ds currency (Some v) = refl

-- the object of a payment reads back as its flow
pub payment_reads : PaymentReadsBack
unfolding payment_value forecast_value
payment_reads p y h =
    let first = y.first_period - 1 in
    let n = y.last_period + 1 - y.first_period in
    let one = h.first in
    let order = h.order in
    let last = h.last in
    let ds = period_values p first n in
    let count : length (values_of (present (array_of ds))) ≡ n =
    ap length (array_values ds) ∙ all_listed p first n (omega (arith, one, order, last)) in
    payment_raw y.unadjusted y.adjusted ds p.currency y.amount
    ∙ payment_of _ _ _ _ _ (stated_payment p.currency y) (day_reads y.unadjusted h.unadjusted)
    (day_reads y.adjusted h.adjusted) count (currency_reads p.currency h.currency) (known_amount y.amount h.amount)
