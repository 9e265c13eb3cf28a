-- How large rounded rates are.
use Rattle.std.proofs.Common.{◌≡◌, ℕ, zero, suc, ◌+◌, ◌-◌, ◌*◌, ◌^◌, ◌<◌, ◌≤◌, ℤ, pos, negsuc, ◌<ℤ◌, ◌*ℤ◌, sym, subst, ◌∙◌}
use Rattle.std.proofs.Common.{ap, arith, unsigned_abs}
use Rattle.std.proofs.Math.Nat.{mul-le-mul}
use Rattle.std.proofs.lemmas.Nat.{pow-add}
use Rattle.jiff_core.proofs.SignedLemmas.{signed_arith}
use Rattle.irs_base.specs.Limits.{Rounded}
use Rattle.irs_base.specs.declared.rounding.Direction.{Direction}
use Rattle.irs_base.proofs.RoundingLaws.{rounded_size}
use Rattle.irs_terms.specs.declared.amounts.Rounding.{Rounding}
use Rattle.irs_observed.specs.ObservedRates.{RateFraction, IsPeriodRate, IsPrintedRate, most_observed, most_period_rate}

-- p/q is rounded to at most a whole number that it doesn't pass in size
pub rounded_within : (dir : Direction) (p q m : ℤ) (l : ℕ) → pos 0 <ℤ q → unsigned_abs p ≤ l * unsigned_abs q
    → Rounded dir p q m → unsigned_abs m ≤ l
rounded_within dir p (negsuc k) m l low h r = absurd (omega (arith, signed_arith, low))
rounded_within dir p (pos k) m l low h r =
    rounded_size dir p m k l (omega (arith, signed_arith, low)) (omega (arith, h)) r

ten_above : (n : ℕ) → 0 < 10 ^ n
ten_above zero = omega arith
ten_above (suc n) = let h = ten_above n in omega (arith, h)

times_above : (t : ℕ) (d : ℤ) → 0 < t → pos 0 <ℤ d → pos 0 <ℤ (pos t *ℤ d)
times_above t (negsuc k) h e = absurd (omega (arith, signed_arith, e))
times_above t (pos zero) h e = absurd (omega (arith, signed_arith, e))
times_above zero (pos (suc k)) h e = absurd (omega (arith, h))
times_above (suc t) (pos (suc k)) h e = omega (arith, signed_arith)

-- units of a last decimal are above 0
pub units_above : (n : ℕ) (d : ℤ) → pos 0 <ℤ d → pos 0 <ℤ (pos (10 ^ n) *ℤ d)
units_above n d h = times_above (10 ^ n) d (ten_above n) h

times_size : (t : ℕ) (d : ℤ) → pos 0 <ℤ d → unsigned_abs (pos t *ℤ d) ≡ t * unsigned_abs d
times_size t (negsuc k) h = absurd (omega (arith, signed_arith, h))
times_size t (pos k) h = omega (arith, signed_arith)

tens : (n : ℕ) → n ≤ 9 → 10 ^ (n + 1) * 10 ^ (9 - n) ≡ 10 ^ 10
tens n h =
    let e : n + 1 + (9 - n) ≡ 10 = omega (arith, h) in
    sym (pow-add 10 (n + 1) (9 - n)) ∙ ap (λ j. 10 ^ j) e

-- a rate in units of its last decimal
pub whole_size : (n e : ℕ) (d : ℤ) → n ≤ 9 → pos 0 <ℤ d → e ≤ most_period_rate * unsigned_abs d
    → e ≤ (most_observed + 1) * 10 ^ (n + 1) * unsigned_abs (pos (10 ^ (9 - n)) *ℤ d)
whole_size n e d h low fits =
    let units = times_size (10 ^ (9 - n)) d low in
    let ten : 10 ^ (n + 1) * 10 ^ (9 - n) * unsigned_abs d ≡ 10 ^ 10 * unsigned_abs d =
    ap (λ k. k * unsigned_abs d) (tens n h) in
    let same : (most_observed + 1) * 10 ^ (n + 1) * unsigned_abs (pos (10 ^ (9 - n)) *ℤ d)
    ≡ (most_observed + 1) * 10 ^ (n + 1) * (10 ^ (9 - n) * unsigned_abs d) =
    ap (λ k. (most_observed + 1) * 10 ^ (n + 1) * k) units in
    omega (arith, fits, ten, same)

-- and in units of 10^-9
pub scaled_size : (n t w : ℕ) → n ≤ 9 → t ≡ 10 ^ (9 - n) → w ≤ (most_observed + 1) * 10 ^ (n + 1)
    → w * t ≤ most_period_rate
scaled_size n t w h e k =
    let a : t ≤ 10 ^ (9 - n) = omega (arith, e) in
    let p : w * t ≤ (most_observed + 1) * 10 ^ (n + 1) * 10 ^ (9 - n) = mul-le-mul k a in
    let q = tens n h in
    omega (arith, p, q)

-- ---- the parts of a rate

-- the rate of a period depends only on the numerator and the denominator
pub period_rate_of : (x : RateFraction) (n d m s z : ℤ) (rounding : Rounding) → n ≡ x.numerator → d ≡ x.denominator
    → IsPeriodRate (record { numerator = n; denominator = d }) m s rounding z → IsPeriodRate x m s rounding z
period_rate_of x n d m s z rounding numerator denominator is =
    subst (λ (e : ℤ). IsPeriodRate (record { numerator = x.numerator; denominator = e }) m s rounding z) denominator
    (subst (λ (k : ℤ). IsPeriodRate (record { numerator = k; denominator = d }) m s rounding z) numerator is)

-- the printed rate depends only on the numerator and the denominator
pub printed_of : (x : RateFraction) (n d z : ℤ) → n ≡ x.numerator → d ≡ x.denominator
    → IsPrintedRate (record { numerator = n; denominator = d }) z → IsPrintedRate x z
printed_of x n d z numerator denominator is =
    subst (λ (e : ℤ). IsPrintedRate (record { numerator = x.numerator; denominator = e }) z) denominator
    (subst (λ (k : ℤ). IsPrintedRate (record { numerator = k; denominator = d }) z) numerator is)
