-- The elements of a schedule have names of letters and plain texts, and nest few levels.
use Rattle.std.proofs.Common.{◌≡◌, ℕ, zero, suc, ◌+◌, ◌-◌, ◌*◌, ◌^◌, ◌<◌, ◌≤◌, true, List, [], ◌∷◌, ◌++◌, length, map}
use Rattle.std.proofs.Common.{Option, Some, None, IfSome, ℤ, unsigned_abs, codes, refl, arith}
use Rattle.std.proofs.Math.Nat.{div-lt_iff_lt-mul, one-le-pow, pow-le-pow_right}
use Rattle.std.specs.List.{list_all}
use Rattle.std.specs.Prelude.{slice_get}
use Rattle.irs_audit.specs.StatedFlows.{stated_fraction}
use Rattle.irs_base.specs.Lists.{Every}
use Rattle.irs_base.specs.declared.line.Dec.{Dec}
use Rattle.irs_terms.specs.declared.currency.Currency.{Currency}
use Rattle.irs_terms.specs.declared.results.Exchange.{Exchange}
use Rattle.irs_terms.specs.declared.results.Reset.{Reset}
use Rattle.irs_schedule.specs.Parts.{Part, IsCode, IsWithin}
use Rattle.irs_schedule.specs.RowsOf.{period_at}
use Rattle.irs_schedule.specs.declared.entries.PaymentEntry.{PaymentEntry}
use Rattle.irs_schedule.specs.declared.views.CalculationPeriod.{CalculationPeriod}
use Rattle.irs_emit.proofs.Short.{parts_short}
use Rattle.irs_emit.specs.RowLaws.{IsPartShort, IsExchangeShort, IsPaymentShort, IsPeriodShort, IsResetShort}
use Rattle.irs_emit.specs.RowLaws.{IsShortNumber, IsShortAmount, IsShortRate}
use Rattle.irs_emit_xml.specs.Trees.{Node, is_letter, is_tag_name, is_unescaped, IsFilled, IsNode, IsNodes, IsRoot}
use Rattle.irs_emit_xml.specs.Flows.{listed_nodes, known, amount_node, rate_node, exchange_node, forecast_node}
use Rattle.irs_emit_xml.specs.Flows.{observation_node, definition_node, fraction_node, rate_content, period_node}
use Rattle.irs_emit_xml.specs.Flows.{listed_period_nodes, one_period_nodes, period_nodes, payment_node, cashflows_node}
use Rattle.irs_emit_xml.specs.Flows.{stream_node, stream_nodes}
use Rattle.irs_emit_xml.proofs.Currencies.{letters_plain}
use Rattle.irs_emit_xml.proofs.PlainTexts.{day_plain, dec_plain, whole_plain}

-- ---- lists

-- what holds of each of two lists holds of each of both
every_append : {X : Type 0} (P : X → Type 0) (xs ys : List X) → Every P xs → Every P ys → Every P (xs ++ ys)
every_append P [] ys h k = k
every_append P (x ∷ xs) ys h k = (h.0, every_append P xs ys h.1 k)

every_map : {X Y : Type 0} (P : X → Type 0) (Q : Y → Type 0) (f : X → Y) (xs : List X) → ((x : X) → P x → Q (f x))
    → Every P xs → Every Q (map f xs)
every_map P Q f [] law h = tt
every_map P Q f (x ∷ xs) law h = (law x h.0, every_map P Q f xs law h.1)

are_listed : (levels : ℕ) (ns : List Node) → Every (IsNode levels) ns → IsNodes levels (listed_nodes ns)
are_listed levels [] h = tt
are_listed levels (n ∷ ns) h = (h.0, are_listed levels ns h.1)

known_are : {X : Type 0} (levels : ℕ) (P : X → Type 0) (f : X → Node) (o : Option X)
    → ((x : X) → P x → IsNode levels (f x)) → IfSome o P
    → Every (IsNode levels) (known f o)
known_are levels P f None law h = tt
known_are levels P f (Some x) law h = (law x h, tt)

-- ---- numbers

-- a number of few digits before the point isn't large
short_small : (units : ℤ) (places : ℕ) → places ≤ 12 → IsShortNumber units places → unsigned_abs units < 2 ^ 128
short_small units places l h =
    let above : 0 < 10 ^ places = let one = one-le-pow places 10 (omega arith) in omega (arith, one) in
    let below : unsigned_abs units < 10 ^ 18 * 10 ^ places =
    (div-lt_iff_lt-mul {k = 10 ^ places} {x = unsigned_abs units} {y = 10 ^ 18} above).0 h in
    let most : 10 ^ places ≤ 10 ^ 12 = pow-le-pow_right {n = 10} (omega arith) {i = places} {j = 12} l in
    omega (arith, below, most)

-- ---- rows

exchange_is : (l : ℕ) (x : Exchange) → IsExchangeShort x → IsNode (suc (suc l)) (exchange_node x)
unfolding exchange_node is_letter
exchange_is l x h = (
  refl,
  tt,
  (
    (refl, day_plain x.unadjusted h.unadjusted),
    (
      (refl, day_plain x.adjusted h.adjusted),
      (
        (
          refl,
          dec_plain x.amount.units x.amount.places
              (short_small x.amount.units x.amount.places h.amount.0 h.amount.1),
        ),
        tt,
      ),
    ),
  ),
)

amount_is : (l : ℕ) (v : Dec) → IsShortAmount v → IsNode (suc l) (amount_node (codes "amount") v)
unfolding is_letter
amount_is l v h = (refl, dec_plain v.units v.places (short_small v.units v.places h.0 h.1))

forecast_is : (l : ℕ) (currency : Currency) (y : PaymentEntry) → IsCode currency → IfSome y.amount IsShortAmount
    → IsNode (suc (suc l)) (forecast_node currency y)
unfolding forecast_node is_letter
forecast_is l currency y c h = (
  refl,
  tt,
  (
    (refl, letters_plain currency c),
    are_listed (suc l) (known (amount_node (codes "amount")) y.amount)
        (known_are (suc l) IsShortAmount (amount_node (codes "amount")) y.amount (amount_is l) h),
  ),
)

rate_is : (l : ℕ) (name : List ℕ) → is_tag_name name ≡ true → (r : ℤ) → IsShortRate r → IsNode (suc l) (rate_node name r)
rate_is l name e r h = (e, dec_plain r 9 (short_small r 9 (omega arith) h))

observed_named : is_tag_name (codes "observedRate") ≡ true
unfolding is_letter
observed_named = refl

calculated_named : is_tag_name (codes "calculatedRate") ≡ true
unfolding is_letter
calculated_named = refl

fixed_named : is_tag_name (codes "fixedRate") ≡ true
unfolding is_letter
fixed_named = refl

observation_is : (l : ℕ) (r : Reset) → IsResetShort r → IsNode (suc (suc l)) (observation_node r)
unfolding observation_node is_letter
observation_is l r h = (
  refl,
  tt,
  (
    (refl, day_plain r.reset h.reset),
    (
      (refl, day_plain r.fixing h.fixing),
      are_listed (suc l) (known (rate_node (codes "observedRate")) r.observed)
          (known_are (suc l) IsShortRate (rate_node (codes "observedRate")) r.observed
          (rate_is l (codes "observedRate") observed_named) h.observed),
    ),
  ),
)

-- one or more elements are more than none
filled_end : (ns : List Node) (n : Node) → IsFilled (listed_nodes (ns ++ n ∷ []))
filled_end [] n = tt
filled_end (m ∷ ns) n = tt

definition_is : (l : ℕ) (x : CalculationPeriod) (r : Reset) → IfSome x.rate IsShortRate → IsResetShort r
    → IsNode (suc (suc (suc l))) (definition_node x r)
unfolding definition_node is_letter
definition_is l x r h k =
    let front = known (rate_node (codes "calculatedRate")) x.rate in (
      refl,
      filled_end front (observation_node r),
      are_listed (suc (suc l)) (front ++ observation_node r ∷ [])
          (every_append (IsNode (suc (suc l))) front (observation_node r ∷ [])
          (known_are (suc (suc l)) IsShortRate (rate_node (codes "calculatedRate")) x.rate
          (rate_is (suc l) (codes "calculatedRate") calculated_named) h)
          (observation_is l r k, tt)),
    )

rate_of_is : (l : ℕ) (x : CalculationPeriod) (reset : Option Reset) → IfSome x.rate IsShortRate
    → IfSome reset IsResetShort
    → Every (IsNode (suc (suc (suc l)))) (rate_content x reset)
rate_of_is l x None h k =
    known_are (suc (suc (suc l))) IsShortRate (rate_node (codes "fixedRate")) x.rate
    (rate_is (suc (suc l)) (codes "fixedRate") fixed_named) h
rate_of_is l x (Some r) h k = (definition_is l x r h k, tt)

-- a number of days is small
count_small : (n : ℤ) → unsigned_abs n < 10 ^ 9 → unsigned_abs n < 2 ^ 128
count_small n h = omega (arith, h)

period_is : (l : ℕ) (x : CalculationPeriod) (reset : Option Reset) → IsPeriodShort x → IfSome reset IsResetShort
    → IsNode (suc (suc (suc (suc l)))) (period_node x reset)
unfolding period_node is_letter
period_is l x reset h k =
    let fraction = fraction_node (codes "dayCountYearFraction") x.frac in (
      refl,
      tt,
      (
        (refl, day_plain x.start h.start),
        (
          (refl, day_plain x.«end» h.«end»),
          (
            (refl, day_plain x.adjusted_start h.adjusted_start),
            (
              (refl, day_plain x.adjusted_end h.adjusted_end),
              (
                (refl, whole_plain x.days (count_small x.days h.days)),
                (
                  (refl, dec_plain x.notional 4 (short_small x.notional 4 (omega arith) h.notional)),
                  are_listed (suc (suc (suc l))) (rate_content x reset ++ fraction ∷ [])
                      (every_append (IsNode (suc (suc (suc l)))) (rate_content x reset) (fraction ∷ [])
                      (rate_of_is l x reset h.rate k) (
                        (
                          refl,
                          dec_plain (stated_fraction x.frac).units 10
                              (short_small (stated_fraction x.frac).units 10 (omega arith) h.short),
                        ),
                        tt,
                      )),
                ),
              ),
            ),
          ),
        ),
      ),
    )

listed_is : (l : ℕ) (reset : Option Reset) (o : Option CalculationPeriod) → IfSome reset IsResetShort
    → IfSome o IsPeriodShort
    → Every (IsNode (suc (suc (suc (suc l))))) (listed_period_nodes reset o)
listed_is l reset None k h = tt
listed_is l reset (Some x) k h = (period_is l x reset h k, tt)

periods_are : (l : ℕ) (p : Part) (j n : ℕ) → IsPartShort p
    → Every (IsNode (suc (suc (suc (suc l))))) (period_nodes p j n)
periods_are l p j zero h = tt
periods_are l p j (suc n) h =
    every_append (IsNode (suc (suc (suc (suc l))))) (period_nodes p j n) (one_period_nodes p (j + n)) (periods_are l p j n h)
    (listed_is l (slice_get p.resets (j + n)) (period_at p (j + n)) (h.resets (j + n)) (h.periods (j + n)))

-- ---- streams

payment_is : (l : ℕ) (p : Part) → IsPartShort p → (y : PaymentEntry) → IsPaymentShort p y
    → IsNode (suc (suc (suc (suc (suc l))))) (payment_node p y)
unfolding payment_node is_letter
payment_is l p h y k =
    let j = y.first_period - 1 in
    let n = y.last_period + 1 - y.first_period in
    let levels = suc (suc (suc (suc l))) in (
      refl,
      tt,
      (
        (refl, day_plain y.unadjusted k.unadjusted),
        (
          (refl, day_plain y.adjusted k.adjusted),
          are_listed levels (period_nodes p j n ++ forecast_node p.currency y ∷ [])
              (every_append (IsNode levels) (period_nodes p j n)
              (forecast_node p.currency y ∷ []) (periods_are l p j n h)
              (forecast_is (suc (suc l)) p.currency y h.bounds.currency k.amount, tt)),
        ),
      ),
    )

true_plain : list_all is_unescaped (codes "true") ≡ true
unfolding is_unescaped
true_plain = refl

cashflows_is : (l : ℕ) (p : Part) → IsPartShort p → IsNode (suc (suc (suc (suc (suc (suc l)))))) (cashflows_node p)
unfolding cashflows_node is_letter
cashflows_is l p h =
    let levels = suc (suc (suc (suc (suc l)))) in (
      refl,
      tt,
      (
        (refl, true_plain),
        are_listed levels (map exchange_node p.exchanges ++ map (payment_node p) p.payments)
            (every_append (IsNode levels) (map exchange_node p.exchanges)
            (map (payment_node p) p.payments)
            (every_map IsExchangeShort (IsNode levels) exchange_node p.exchanges (exchange_is (suc (suc (suc l))))
            h.exchanges)
            (every_map (IsPaymentShort p) (IsNode levels) (payment_node p) p.payments (payment_is l p h) h.payments)),
      ),
    )

stream_is : (l : ℕ) (p : Part) → IsPartShort p → IsNode (suc (suc (suc (suc (suc (suc (suc l))))))) (stream_node p)
unfolding stream_node is_letter
stream_is l p h = (refl, tt, (cashflows_is l p h, tt))

swap_named : is_tag_name (codes "swap") ≡ true
unfolding is_letter
swap_named = refl

streams_filled : (s : List Part) → 0 < length s → IsFilled (stream_nodes s)
streams_filled [] l = absurd (omega arith)
streams_filled (p ∷ s) l = tt

-- the elements of a schedule can be written
pub root_is : (s : List Part) → IsWithin s → IsRoot (codes "swap") (stream_nodes s)
root_is s h = record {
  named = swap_named;
  filled = streams_filled s h.some;
  nested = are_listed 62 (map stream_node s)
      (every_map IsPartShort (IsNode 62) stream_node s (stream_is 55) (parts_short s h.each));
}
