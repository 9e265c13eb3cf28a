-- What holds of every observed rate: of rates of 0, of one rate, and of averages.
use Rattle.std.proofs.Common.{◌≡◌, ℕ, ◌*◌, ◌+◌, ◌^◌, ◌<◌, ◌≤◌, List, [], ◌∷◌, Option, Some, None, IfSome, ℤ, pos, ◌+ℤ◌, ◌-ℤ◌}
use Rattle.std.proofs.Common.{◌*ℤ◌, ◌≤ℤ◌, sym, subst, ◌∙◌, arith}
use Rattle.std.proofs.Math.Nat.{mul-le-mul_left}
use borrow.Author.Differences.{up, down}
use Rattle.jiff_core.proofs.SignedLemmas.{signed_arith}
use Rattle.irs_base.specs.Lists.{Every}
use Rattle.irs_base.specs.Limits.{Rounded}
use Rattle.irs_base.specs.declared.rounding.Direction.TheVariants.{Nearest}
use Rattle.irs_base.proofs.RoundingLaws.{nearest_once}
use Rattle.irs_observed.specs.ObservedRates.{DailyRates, Through, Grows, one_factor, unit_rate, AddsBy, RateFraction}
use Rattle.irs_observed.specs.ObservedRates.{IsAveraged, IsCompounded, IsObservedRate, IsPrintedRate, days_of_year}
use Rattle.irs_observed.specs.ObservedRates.{rate_precision, EachRate, NotAbove, NotBelow, OneGivesItself}
use Rattle.irs_observed.specs.ObservedRates.{ZeroGivesZero}
use Rattle.irs_observed.specs.Observations.{total_weight}
use Rattle.irs_observed.specs.declared.method.DailyRateMethod.{DailyRateMethod}
use Rattle.irs_observed.specs.declared.method.DailyRateMethod.TheVariants.{Compounding, Averaging}
use Rattle.irs_observed.specs.declared.method.YearDays.{YearDays}
use Rattle.irs_observed.specs.declared.method.YearDays.TheVariants.{Days360, Days365}
use Rattle.irs_observed.specs.declared.observation.Observation.{Observation}
use Rattle.irs_observed.proofs.FactorLemmas.{year_above}

-- what holds of the rate that is there
rate_meets : (P : ℤ → Type 0) (found : Option ℤ) (r : ℤ) → IfSome found P → found ≡ Some r → P r
rate_meets P None r h e = absurd (cc)
rate_meets P (Some x) r h e = let same : x ≡ r = cc in subst P same h

-- ---- rates of 0

-- a factor that no interest is earned on stays
stays : (basis w : ℕ) (f g : ℤ) → 1 ≤ basis → Rounded Nearest (f *ℤ (unit_rate basis +ℤ pos 0 *ℤ pos w)) (unit_rate basis) g
    → g ≡ f
stays basis w f g some h =
    let above = year_above basis some in
    let none : unit_rate basis +ℤ pos 0 *ℤ pos w ≡ unit_rate basis = omega (arith, signed_arith) in
    let moved : Rounded Nearest (f *ℤ unit_rate basis) (unit_rate basis) g = subst (λ (y : ℤ). Rounded Nearest (f *ℤ y) (unit_rate basis) g) none h in
    let itself : Rounded Nearest (f *ℤ unit_rate basis) (unit_rate basis) f =
    (omega (arith, signed_arith, above), omega (arith, signed_arith, above)) in
    nearest_once (f *ℤ unit_rate basis) (unit_rate basis) g f above moved itself

all_stay : (basis : ℕ) (daily : DailyRates) → 1 ≤ basis → (os : List Observation) (f g : ℤ) → Grows basis daily os f g
    → EachRate daily (λ r. r ≡ pos 0) os → g ≡ f
all_stay basis daily some [] f g p zeros = p
all_stay basis daily some (o ∷ os) f g p zeros =
    let rate = rate_meets (λ r. r ≡ pos 0) (daily o.observed) p.1.rate zeros.0 p.1.is_rate in
    let by : Rounded Nearest (f *ℤ (unit_rate basis +ℤ pos 0 *ℤ pos o.weight)) (unit_rate basis) p.0 =
    subst (λ (r : ℤ). Rounded Nearest (f *ℤ (unit_rate basis +ℤ r *ℤ pos o.weight)) (unit_rate basis) p.0) rate
    p.1.rounded in
    all_stay basis daily some os p.0 g p.2 zeros.1 ∙ stays basis o.weight f p.0 some by

sums_zero : (daily : DailyRates) (os : List Observation) (f g : ℤ) → Through (AddsBy daily) os f g
    → EachRate daily (λ r. r ≡ pos 0) os → g ≡ f
sums_zero daily [] f g p zeros = p
sums_zero daily (o ∷ os) f g p zeros =
    let rate = rate_meets (λ r. r ≡ pos 0) (daily o.observed) p.1.rate zeros.0 p.1.is_rate in
    let sum : p.0 ≡ f +ℤ pos 0 *ℤ pos o.weight =
    subst (λ (r : ℤ). p.0 ≡ f +ℤ r *ℤ pos o.weight) rate p.1.sum in
    let here : p.0 ≡ f = omega (arith, signed_arith, sum) in
    sums_zero daily os p.0 g p.2 zeros.1 ∙ here

year_some : (year : YearDays) → 1 ≤ days_of_year year
year_some Days360 = omega arith
year_some Days365 = omega arith

-- daily rates of 0 give an observed rate of 0
pub zero_gives_zero : (method : DailyRateMethod) (daily : DailyRates) (os : List Observation)
    → ZeroGivesZero method daily os
zero_gives_zero (Compounding year) daily os x is zeros =
    let same = all_stay (days_of_year year) daily (year_some year) os (one_factor rate_precision) is.factor is.grows zeros in
    let numerator = is.numerator in
    let none : is.factor -ℤ one_factor rate_precision ≡ pos 0 = omega (arith, signed_arith, same) in
    is.numerator ∙ rw none (omega (arith, signed_arith))
zero_gives_zero Averaging daily os x is zeros = sums_zero daily os (pos 0) x.numerator is.sums zeros

-- ---- averages

-- the order of numbers by a weight
times_weight : (a b : ℤ) (w : ℕ) → a ≤ℤ b → (a *ℤ pos w) ≤ℤ (b *ℤ pos w)
times_weight a b w h =
    let e : up a + down b ≤ up b + down a = omega (arith, signed_arith, h) in
    let f : w * (up a + down b) ≤ w * (up b + down a) = mul-le-mul_left w e in
    omega (arith, signed_arith, f)

times_sum : (a : ℤ) (v w : ℕ) → a *ℤ pos (v + w) ≡ a *ℤ pos v +ℤ a *ℤ pos w
times_sum a v w = omega (arith, signed_arith)

-- a sum by weights of numbers that aren't below another
sums_above : (daily : DailyRates) (low : ℤ) (os : List Observation) (f g : ℤ) → Through (AddsBy daily) os f g
    → EachRate daily (λ r. low ≤ℤ r) os → (f +ℤ low *ℤ pos (total_weight os)) ≤ℤ g
sums_above daily low [] f g p each = omega (arith, signed_arith, p)
sums_above daily low (o ∷ os) f g p each =
    let rate = rate_meets (λ r. low ≤ℤ r) (daily o.observed) p.1.rate each.0 p.1.is_rate in
    let here = times_weight low p.1.rate o.weight rate in
    let sum = p.1.sum in
    let rest = sums_above daily low os p.0 g p.2 each.1 in
    let split = times_sum low o.weight (total_weight os) in
    omega (arith, signed_arith, here, sum, rest, split)

-- and of numbers that aren't above another
sums_below : (daily : DailyRates) (high : ℤ) (os : List Observation) (f g : ℤ) → Through (AddsBy daily) os f g
    → EachRate daily (λ r. r ≤ℤ high) os → g ≤ℤ (f +ℤ high *ℤ pos (total_weight os))
sums_below daily high [] f g p each = omega (arith, signed_arith, p)
sums_below daily high (o ∷ os) f g p each =
    let rate = rate_meets (λ r. r ≤ℤ high) (daily o.observed) p.1.rate each.0 p.1.is_rate in
    let here = times_weight p.1.rate high o.weight rate in
    let sum = p.1.sum in
    let rest = sums_below daily high os p.0 g p.2 each.1 in
    let split = times_sum high o.weight (total_weight os) in
    omega (arith, signed_arith, here, sum, rest, split)

-- an average is not below the least daily rate
pub not_below : (daily : DailyRates) (os : List Observation) → NotBelow daily os
not_below daily os low x is each =
    let sum = sums_above daily low os (pos 0) x.numerator is.sums each in
    let denominator = is.denominator in
    rw denominator (omega (arith, signed_arith, sum))

-- an average is not above the greatest daily rate
pub not_above : (daily : DailyRates) (os : List Observation) → NotAbove daily os
not_above daily os high x is each =
    let sum = sums_below daily high os (pos 0) x.numerator is.sums each in
    let denominator = is.denominator in
    rw denominator (omega (arith, signed_arith, sum))

-- ---- one member

-- one factor gives its rate back to 9 decimals, by a year of 360 and of 365 days
one_360 : (r f z : ℤ) (w : ℕ) → 0 < w
    → Rounded Nearest (pos (10 ^ 18) *ℤ (pos (10 ^ 9 * 360) +ℤ r *ℤ pos w)) (pos (10 ^ 9 * 360)) f
    → Rounded Nearest (pos (10 ^ 9) *ℤ ((f -ℤ pos (10 ^ 18)) *ℤ pos 360)) (pos (10 ^ 18) *ℤ pos (w + 0)) z → z ≡ r
one_360 r f z w some factor printed =
    nearest_once (pos (10 ^ 9) *ℤ ((f -ℤ pos (10 ^ 18)) *ℤ pos 360)) (pos (10 ^ 18) *ℤ pos (w + 0)) z r
    (omega (arith, signed_arith, some)) printed
    (omega (arith, signed_arith, factor, some), omega (arith, signed_arith, factor, some))

one_365 : (r f z : ℤ) (w : ℕ) → 0 < w
    → Rounded Nearest (pos (10 ^ 18) *ℤ (pos (10 ^ 9 * 365) +ℤ r *ℤ pos w)) (pos (10 ^ 9 * 365)) f
    → Rounded Nearest (pos (10 ^ 9) *ℤ ((f -ℤ pos (10 ^ 18)) *ℤ pos 365)) (pos (10 ^ 18) *ℤ pos (w + 0)) z → z ≡ r
one_365 r f z w some factor printed =
    nearest_once (pos (10 ^ 9) *ℤ ((f -ℤ pos (10 ^ 18)) *ℤ pos 365)) (pos (10 ^ 18) *ℤ pos (w + 0)) z r
    (omega (arith, signed_arith, some)) printed
    (omega (arith, signed_arith, factor, some), omega (arith, signed_arith, factor, some))

-- and so does one average
one_mean : (r z : ℤ) (w : ℕ) → 0 < w
    → Rounded Nearest (pos (10 ^ 9) *ℤ (r *ℤ pos w)) (pos (10 ^ 9) *ℤ pos (w + 0)) z → z ≡ r
one_mean r z w some printed =
    nearest_once (pos (10 ^ 9) *ℤ (r *ℤ pos w)) (pos (10 ^ 9) *ℤ pos (w + 0)) z r
    (omega (arith, signed_arith, some)) printed
    (omega (arith, signed_arith, some), omega (arith, signed_arith, some))

-- by a year of either length
one_by : (year : YearDays) (r f z : ℤ) (w : ℕ) → 0 < w
    → Rounded Nearest (one_factor rate_precision *ℤ (unit_rate (days_of_year year) +ℤ r *ℤ pos w))
    (unit_rate (days_of_year year)) f
    → Rounded Nearest (pos (10 ^ 9) *ℤ ((f -ℤ one_factor rate_precision) *ℤ pos (days_of_year year)))
    (one_factor rate_precision *ℤ pos (w + 0)) z → z ≡ r
one_by Days360 r f z w some factor printed = one_360 r f z w some factor printed
one_by Days365 r f z w some factor printed = one_365 r f z w some factor printed

same_rate : (a b : ℤ) (found : Option ℤ) → found ≡ Some a → found ≡ Some b → a ≡ b
same_rate a b found h k = cc

-- over one observation
module _ (daily : DailyRates) (o : Observation) (r z : ℤ) (x : RateFraction) (known : daily o.observed ≡ Some r)
    (some : 0 < o.weight) where
  one_compounded : (year : YearDays) → IsCompounded (days_of_year year) daily (o ∷ []) x → IsPrintedRate x z → z ≡ r
  one_compounded year is printed =
      let step = is.grows.1 in
      let same = same_rate step.rate r (daily o.observed) step.is_rate known in
      let last : is.factor ≡ is.grows.0 = is.grows.2 in
      let rounded = subst (λ (f : ℤ). Rounded Nearest
      (one_factor rate_precision *ℤ (unit_rate (days_of_year year) +ℤ step.rate *ℤ pos o.weight))
      (unit_rate (days_of_year year)) f) (sym last) step.rounded in
      let factor = subst (λ (v : ℤ). Rounded Nearest
      (one_factor rate_precision *ℤ (unit_rate (days_of_year year) +ℤ v *ℤ pos o.weight))
      (unit_rate (days_of_year year)) is.factor) same rounded in
      let upper = subst (λ (n : ℤ). Rounded Nearest (pos (10 ^ 9) *ℤ n) x.denominator z) is.numerator printed in
      let lower = subst (λ (d : ℤ). Rounded Nearest
      (pos (10 ^ 9) *ℤ ((is.factor -ℤ one_factor rate_precision) *ℤ pos (days_of_year year))) d z) is.denominator upper in
      one_by year r is.factor z o.weight some factor lower

  one_averaged : IsAveraged daily (o ∷ []) x → IsPrintedRate x z → z ≡ r
  one_averaged is printed =
      let step = is.sums.1 in
      let same = same_rate step.rate r (daily o.observed) step.is_rate known in
      let last : x.numerator ≡ is.sums.0 = is.sums.2 in
      let sum = step.sum in
      let sum_r = subst (λ (v : ℤ). is.sums.0 ≡ pos 0 +ℤ v *ℤ pos o.weight) same sum in
      let numerator : x.numerator ≡ r *ℤ pos o.weight = omega (arith, signed_arith, last, sum_r) in
      let upper = subst (λ (n : ℤ). Rounded Nearest (pos (10 ^ 9) *ℤ n) x.denominator z) numerator printed in
      let lower = subst (λ (d : ℤ). Rounded Nearest (pos (10 ^ 9) *ℤ (r *ℤ pos o.weight)) d z) is.denominator upper in
      one_mean r z o.weight some lower

one_method : (method : DailyRateMethod) (daily : DailyRates) (o : Observation) (r z : ℤ) (x : RateFraction) → 0 < o.weight
    → daily o.observed ≡ Some r → IsObservedRate method daily (o ∷ []) x → IsPrintedRate x z → z ≡ r
one_method (Compounding year) daily o r z x some known is printed = one_compounded daily o r z x known some year is printed
one_method Averaging daily o r z x some known is printed = one_averaged daily o r z x known some is printed

-- with one member the observed rate prints as its daily rate
pub one_gives_itself : (method : DailyRateMethod) (daily : DailyRates) (os : List Observation)
    → Every (λ o. 0 < o.weight) os → OneGivesItself method daily os
one_gives_itself method daily os each o r z x one known is printed =
    let here = subst (λ (v : List Observation). Every (λ o. 0 < o.weight) v) one each in
    one_method method daily o r z x here.0 known
    (subst (λ (v : List Observation). IsObservedRate method daily v x) one is) printed
