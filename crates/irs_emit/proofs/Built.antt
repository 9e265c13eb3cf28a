-- The emitted value has strings for leaves and nests 11 deep.
use Rattle.irs_emit.proofs.Kept.{emit_kept, kept_reads}
use Rattle.irs_emit.proofs.ReadBack.{Built, ItemsBuilt, MembersBuilt, line_feed, put_built}
use Rattle.irs_emit.proofs.Short.{parts_short}
use Rattle.irs_emit.proofs.Utf8Texts.{clear_utf8, emit_clear}
use Rattle.irs_emit.specs.Emitted.{array_of, cashflows_value, definition_value, emit_text, emit_value, exchange_value}
use Rattle.irs_emit.specs.Emitted.{fixed_value, floating_value, forecast_value, known_exchanges, listed_period}
use Rattle.irs_emit.specs.Emitted.{observation_value, one_period, payment_value, period_members, period_value}
use Rattle.irs_emit.specs.Emitted.{period_values, put_known, stream_value, amount_leaf, currency_leaf, day_leaf}
use Rattle.irs_emit.specs.Emitted.{rate_leaf}
use Rattle.irs_json.specs.Reading.{Reads}
use Rattle.irs_schedule.specs.Parts.{IsWithin, Part}
use Rattle.irs_schedule.specs.RowsOf.{period_at}
use Rattle.irs_schedule.specs.declared.entries.PaymentEntry.{PaymentEntry}
use Rattle.irs_schedule.specs.declared.views.CalculationPeriod.{CalculationPeriod}
use Rattle.irs_terms.specs.declared.currency.Currency.{Currency}
use Rattle.irs_terms.specs.declared.results.Exchange.{Exchange}
use Rattle.irs_terms.specs.declared.results.Reset.{Reset}
use Rattle.serde_json.specs.Data.{Data, string, Members, no_members, put}
use Rattle.serde_json.specs.Read.{read}
use Rattle.serde_json.specs.View.{items_of}
use Rattle.serde_json.specs.Written.{compact_text}
use Rattle.std.proofs.Common.{◌≡◌, ℕ, zero, suc, ◌+◌, ◌-◌, List, [], ◌∷◌, ◌++◌, map, Option, Some, None}
use Rattle.std.proofs.Common.{option_map, codes, sym, ap, ◌∙◌, subst, arith}
use Rattle.std.proofs.lemmas.Str.{IsUtf8-append, IsUtf8-from_ascii}
use Rattle.std.proofs.lemmas.Str.Ascii.{IsAscii-nil, IsAscii-cons}
use Rattle.std.specs.Prelude.{slice_get}
use Rattle.std.specs.Str.{IsUtf8}

-- a value that may be absent is built to a depth
abbrev OptionBuilt : ℕ → Option Data → Type 0
OptionBuilt n None = Unit {0}
OptionBuilt n (Some d) = Built n d

-- each value of a list is built to a depth
abbrev ListBuilt : ℕ → List Data → Type 0
ListBuilt n ds = ItemsBuilt n (items_of ds)

known_built : (n : ℕ) (k : List ℕ) (o : Option Data) (ms : Members) → OptionBuilt n o → MembersBuilt n ms
    → MembersBuilt n (put_known k o ms)
known_built n k None ms h t = t
known_built n k (Some d) ms h t = put_built n k d ms h t

option_built : {X : Type 0} (n : ℕ) (f : X → Data) (o : Option X) → ((x : X) → Built n (f x))
    → OptionBuilt n (option_map f o)
option_built n f None h = tt
option_built n f (Some x) h = h x

list_built : {X : Type 0} (n : ℕ) (f : X → Data) (xs : List X) → ((x : X) → Built n (f x)) → ListBuilt n (map f xs)
list_built n f [] h = tt
list_built n f (x ∷ xs) h = (h x, list_built n f xs h)

append_built : (n : ℕ) (a b : List Data) → ListBuilt n a → ListBuilt n b → ListBuilt n (a ++ b)
append_built n [] b h k = k
append_built n (d ∷ a) b h k = (h.0, append_built n a b h.1 k)

exchange_built : (x : Exchange) → Built 5 (exchange_value x)
unfolding exchange_value
exchange_built x = (omega arith, (tt, (tt, (tt, tt))))

forecast_built : (currency : Currency) (y : PaymentEntry) → Built 4 (forecast_value currency y)
unfolding forecast_value
forecast_built currency y = (
  omega arith,
  known_built 3 (codes "amount") (option_map amount_leaf y.amount)
      (put (codes "currency") (currency_leaf currency) no_members) (option_built 3 amount_leaf y.amount (λ x. tt))
      (tt, tt),
)

observation_built : (r : Reset) → Built 1 (observation_value r)
unfolding observation_value
observation_built r = (
  omega arith,
  known_built 0 (codes "observedRate") (option_map rate_leaf r.observed)
      (put (codes "adjustedFixingDate") (day_leaf r.fixing) (put (codes "resetDate") (day_leaf r.reset) no_members))
      (option_built 0 rate_leaf r.observed (λ x. tt)) (tt, (tt, tt)),
)

definition_built : (x : CalculationPeriod) (r : Reset) → Built 2 (definition_value x r)
unfolding definition_value
definition_built x r = (
  omega arith,
  known_built 1 (codes "calculatedRate") (option_map rate_leaf x.rate)
      (put (codes "rateObservation") (observation_value r) no_members) (option_built 1 rate_leaf x.rate (λ z. tt))
      (observation_built r, tt),
)

members_built : (x : CalculationPeriod) → MembersBuilt 2 (period_members x)
unfolding period_members
members_built x = (tt, (tt, (tt, (tt, (tt, (tt, (tt, tt)))))))

period_built : (x : CalculationPeriod) (reset : Option Reset) → Built 3 (period_value x reset)
unfolding fixed_value floating_value
period_built x None = (
  omega arith,
  known_built 2 (codes "fixedRate") (option_map rate_leaf x.rate) (period_members x)
      (option_built 2 rate_leaf x.rate (λ z. tt)) (members_built x),
)
period_built x (Some r) = (
  omega arith,
  put_built 2 (codes "floatingRateDefinition") (definition_value x r) (period_members x)
      (definition_built x r) (members_built x),
)

listed_built : (reset : Option Reset) (o : Option CalculationPeriod) → ListBuilt 3 (listed_period reset o)
listed_built reset None = tt
listed_built reset (Some x) = (period_built x reset, tt)

periods_built : (p : Part) (first n : ℕ) → ListBuilt 3 (period_values p first n)
periods_built p first zero = tt
periods_built p first (suc n) =
    append_built 3 (period_values p first n) (one_period p (first + n)) (periods_built p first n)
    (listed_built (slice_get p.resets (first + n)) (period_at p (first + n)))

payment_built : (p : Part) (y : PaymentEntry) → Built 5 (payment_value p y)
unfolding payment_value
payment_built p y = (
  omega arith,
  (
    tt,
    (
      (omega arith, periods_built p (y.first_period - 1) (y.last_period + 1 - y.first_period)),
      (forecast_built p.currency y, (tt, tt)),
    ),
  ),
)

exchanges_built : (xs : List Exchange) → OptionBuilt 6 (known_exchanges xs)
exchanges_built [] = tt
exchanges_built (x ∷ xs) = (omega arith, list_built 5 exchange_value (x ∷ xs) exchange_built)

cashflows_built : (p : Part) → Built 7 (cashflows_value p)
unfolding cashflows_value
cashflows_built p =
    let payments : Built 6 (array_of (map (payment_value p) p.payments)) =
    (omega arith, list_built 5 (payment_value p) p.payments (payment_built p)) in
    let ms : Members =
    put (codes "cashflowsMatchParameters") (string (codes "true"))
    (put (codes "paymentCalculationPeriod") (array_of (map (payment_value p) p.payments)) no_members) in (
      omega arith,
      known_built 6 (codes "principalExchange") (known_exchanges p.exchanges) ms
          (exchanges_built p.exchanges) (tt, (payments, tt)),
    )

stream_built : (p : Part) → Built 8 (stream_value p)
stream_built p = (omega arith, (cashflows_built p, tt))

-- the value of a schedule is built to a depth of 11
pub emit_built : (s : List Part) → Built 11 (emit_value s)
unfolding emit_value
emit_built s = (omega arith, ((omega arith, ((omega arith, list_built 8 stream_value s stream_built), tt)), tt))

-- ---- the text

feed_utf8 : IsUtf8 (10 ∷ [])
feed_utf8 = IsUtf8-from_ascii (10 ∷ []) (IsAscii-cons 10 [] (omega arith) IsAscii-nil)

-- the text of a schedule reads as its value
pub text_reads : (s : List Part) (bytes : List ℕ) → IsWithin s → bytes ≡ emit_text s → Reads bytes (emit_value s)
unfolding emit_text
text_reads s bytes w e =
    let d = emit_value s in
    let utf8 = clear_utf8 d (emit_clear s (parts_short s w.each)) in
    let reads : read bytes ≡ Some d =
    ap read e ∙ line_feed 11 d (emit_built s) ∙ kept_reads 11 d (emit_built s) (omega arith) (emit_kept s) in
    (subst IsUtf8 (sym e) (IsUtf8-append (compact_text d) (10 ∷ []) utf8 feed_utf8), reads)
