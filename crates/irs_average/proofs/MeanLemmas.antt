-- Sums over observations, and the bounds of their means.
use Rattle.std.proofs.Common.{◌≡◌, ℕ, suc, ◌+◌, ◌<◌, List, [], ◌∷◌, length, drop, drop-cons, get_or, All, Option, Some}
use Rattle.std.proofs.Common.{None, IsSome, IfSome, unwrap_or, ℤ, pos, neg_ℤ, ◌+ℤ◌, ◌*ℤ◌, ◌≤ℤ◌, ◌<ℤ◌, refl, sym, subst}
use Rattle.std.proofs.Common.{ap, ap₂, ◌∙◌, arith}
use Rattle.jiff_core.proofs.SignedLemmas.{signed_arith}
use Rattle.irs_base.specs.Limits.{most_rate}
use Rattle.irs_base.proofs.RoundingLaws.{nearest_exists, nearest_once}
use Rattle.irs_terms.specs.Lawful.{IsRate}
use Rattle.irs_overnight.specs.Private.Bounds.{IsSmall}
use Rattle.irs_overnight.specs.Observations.{first_absent}
use Rattle.irs_overnight.specs.declared.derived.Found.{Found}
use Rattle.irs_overnight.specs.declared.derived.Found.TheVariants.{Rate, Missing}
use Rattle.irs_overnight.specs.declared.observations.Observation.{Observation}
use Rattle.irs_overnight.proofs.ObservationLemmas.{known_or}
use Rattle.irs_average.specs.Averages.{IsMean, RateLiesBetween, LiesAmong, counted_rate, divisor, rate_or_zero}
use Rattle.irs_average.specs.Averages.{sum_over, IsMeanFound}
use Rattle.irs_average.specs.Private.Means.{ShareOut}
use Rattle.irs_average.specs.declared.means.Mean.{Mean}
use Rattle.irs_average.specs.declared.means.Mean.TheVariants.{Plain, Weighted}
use Rattle.irs_average.proofs.BetweenLemmas.{rounded_within, scaled, small_within, spread, within_small}

-- ---- sums

moved : (sum more rest whole left : ℤ) → left ≡ more +ℤ rest → sum +ℤ left ≡ whole → (sum +ℤ more) +ℤ rest ≡ whole
moved sum more rest whole left a b = omega (arith, signed_arith, a, b)

-- one more is counted
pub sum_step : (f : Observation → ℤ) (os : List Observation) (k : ℕ) (o : Observation) (sum : ℤ) → k < length os
    → get_or os k o ≡ o → sum +ℤ sum_over f (drop k os) ≡ sum_over f os
    → (sum +ℤ f o) +ℤ sum_over f (drop (k + 1) os) ≡ sum_over f os
sum_step f os k o sum low is h =
    let next : suc k ≡ k + 1 = omega arith in
    let left : drop k os ≡ o ∷ drop (k + 1) os = drop-cons os k o low ∙ ap₂ ◌∷◌ is (ap (λ (n : ℕ). drop n os) next) in
    moved sum (f o) (sum_over f (drop (k + 1) os)) (sum_over f os) (sum_over f (drop k os)) (ap (sum_over f) left) h

-- what an observation counts for
abbrev portion : Mean → Observation → ℤ
portion Plain o = pos 1
portion Weighted o = o.weight

sum_of_ones : (os : List Observation) → sum_over (portion Plain) os ≡ pos (length os)
sum_of_ones [] = refl
sum_of_ones (o ∷ os) = let rest = sum_of_ones os in omega (arith, signed_arith, rest)

divisor_is : (kind : Mean) (days : ℤ) (os : List Observation) → ShareOut days os
    → divisor kind days os ≡ sum_over (portion kind) os
divisor_is Plain days os h = sym (sum_of_ones os)
divisor_is Weighted days os h = sym h.whole

-- the divisor of a mean is above 0
pub divisor_above : (kind : Mean) (days : ℤ) (os : List Observation) → pos 0 <ℤ days → 0 < length os
    → pos 0 <ℤ divisor kind days os
divisor_above Plain days os above some = omega (arith, signed_arith, some)
divisor_above Weighted days os above some = above

-- ---- bounds

some_within : (l g : ℤ) (r : Option ℤ) → IsSome r → IfSome r (RateLiesBetween l g) → RateLiesBetween l g (unwrap_or r (pos 0))
some_within l g None some h = absurd (cc)
some_within l g (Some r) some h = h

counted_within : (l g : ℤ) (kind : Mean) (o : Observation) → pos 0 ≤ℤ o.weight → RateLiesBetween l g (rate_or_zero o)
    → ((l *ℤ portion kind o) ≤ℤ counted_rate kind o) × (counted_rate kind o ≤ℤ (g *ℤ portion kind o))
counted_within l g Plain o some h = (omega (arith, signed_arith, h), omega (arith, signed_arith, h))
counted_within l g Weighted o some h = (scaled l (rate_or_zero o) o.weight h.0 some, scaled (rate_or_zero o) g o.weight h.1 some)

both_sums : (a b s t x : ℤ) → x ≡ a +ℤ b → a ≤ℤ s → b ≤ℤ t → x ≤ℤ (s +ℤ t)
both_sums a b s t x e h k = omega (arith, signed_arith, e, h, k)

sums_both : (a b s t x : ℤ) → x ≡ a +ℤ b → s ≤ℤ a → t ≤ℤ b → (s +ℤ t) ≤ℤ x
sums_both a b s t x e h k = omega (arith, signed_arith, e, h, k)

sum_within : (l g : ℤ) (kind : Mean) (os : List Observation) → first_absent os ≡ None → All (λ o. pos 0 ≤ℤ o.weight) os
    → All (λ o. IfSome o.rate (RateLiesBetween l g)) os → ((l *ℤ sum_over (portion kind) os) ≤ℤ sum_over (counted_rate kind) os)
    × (sum_over (counted_rate kind) os ≤ℤ (g *ℤ sum_over (portion kind) os))
sum_within l g kind [] known weights within = (omega (arith, signed_arith), omega (arith, signed_arith))
sum_within l g kind (o ∷ os) known weights within =
    let here = known_or o.rate o.day (first_absent os) known in
    let low : pos 0 ≤ℤ o.weight = weights 0 o (omega arith) in
    let bounds : IfSome o.rate (RateLiesBetween l g) = within 0 o (omega arith) in
    let one = counted_within l g kind o low (some_within l g o.rate here.0 bounds) in
    let rest = sum_within l g kind os here.1 (λ k d less. weights (suc k) d (omega (arith, less)))
    (λ k d less. within (suc k) d (omega (arith, less))) in (
      both_sums _ _ _ _ _ (spread l (portion kind o) (sum_over (portion kind) os)) one.0 rest.0,
      sums_both _ _ _ _ _ (spread g (portion kind o) (sum_over (portion kind) os)) one.1 rest.1,
    )

module _ (kind : Mean) (days : ℤ) (os : List Observation) (above : pos 0 <ℤ days) (shares : ShareOut days os) where
  -- a mean lies between all bounds of the rates
  pub mean_within : (x : ℤ) → IsMean kind days os x → LiesAmong os x
  mean_within x mean l g within =
      let by = divisor_is kind days os shares in
      let sums = sum_within l g kind os mean.known shares.weights within in
      rounded_within (sum_over (counted_rate kind) os) (divisor kind days os) x l g
      (divisor_above kind days os above shares.some) mean.rounded
      (subst (λ (q : ℤ). (l *ℤ q) ≤ℤ sum_over (counted_rate kind) os) (sym by) sums.0)
      (subst (λ (q : ℤ). sum_over (counted_rate kind) os ≤ℤ (g *ℤ q)) (sym by) sums.1)

  rates_within : (r : Option ℤ) → IfSome r IsRate → IfSome r (RateLiesBetween (neg_ℤ (pos most_rate)) (pos most_rate))
  rates_within None h = tt
  rates_within (Some r) h = within_small most_rate r h

  -- so it is a rate
  pub mean_small : (x : ℤ) → All IsSmall os → IsMean kind days os x → IsRate x
  mean_small x small mean =
      small_within most_rate x
      (mean_within x mean (neg_ℤ (pos most_rate)) (pos most_rate)
      (λ k d low. rates_within (get_or os k d).rate (small k d low).rate))

  some_day : (a b : ℤ) → Some a ≡ Some b → a ≡ b
  some_day a b e = cc

  apart : (o : Option ℤ) (d : ℤ) → o ≡ None → o ≡ Some d → ⊥
  apart o d p q = cc

  -- there is one mean, or one first day without a rate
  pub one_mean_found : (x y : Found) → IsMeanFound kind days os x → IsMeanFound kind days os y → x ≡ y
  one_mean_found (Rate x) (Rate y) p q =
      ap Rate (nearest_once (sum_over (counted_rate kind) os) (divisor kind days os) x y
      (divisor_above kind days os above shares.some) p.rounded q.rounded)
  one_mean_found (Rate x) (Missing d) p q = absurd (apart (first_absent os) d p.known q)
  one_mean_found (Missing d) (Rate x) p q = absurd (apart (first_absent os) d q.known p)
  one_mean_found (Missing c) (Missing d) p q = ap Missing (some_day c d (sym p ∙ q))

  mean_by : (absent : Option ℤ) → first_absent os ≡ absent → (found : Found) × IsMeanFound kind days os found
  mean_by (Some d) e = (Missing d, e)
  mean_by None e =
      let x = nearest_exists (sum_over (counted_rate kind) os) (divisor kind days os)
      (divisor_above kind days os above shares.some) in
      (Rate x.0, record { known = e; rounded = x.1 })

  -- the observations have a mean, or a first day without a rate
  pub mean_there : (found : Found) × IsMeanFound kind days os found
  mean_there = mean_by (first_absent os) refl
