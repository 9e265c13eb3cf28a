-- Numbers and fractions that are stated.
use Rattle.std.proofs.Common.{◌≡◌, ℕ, ◌+◌, ◌-◌, ◌*◌, ◌^◌, ◌<◌, ◌≤◌, ℤ, pos, negsuc, ◌+ℤ◌, ◌*ℤ◌, ◌<ℤ◌, ◌≤ℤ◌, FitsSigned}
use Rattle.std.proofs.Common.{zero, suc, neg_ℤ, nat_eq, to_z, of_z, to_z-of_z, eq-eqb, inl, inr, Bool, IsTrue, ◌↔◌, sym}
use Rattle.std.proofs.Common.{◌∙◌, ap, subst, arith}
use Rattle.std.proofs.lemmas.Bool.{cases_lt}
use Rattle.std.proofs.lemmas.Bool.Decides.{nat_tests}
use Rattle.std.proofs.Math.IntN.{pos-*ℤ-pos, negsuc-*ℤ-pos}
use Rattle.std.proofs.Math.Nat.{mul-le-mul, mul-le-mul_left, le_of_mul-le-mul_right, one-le-pow, pow-le-pow_right}
use Rattle.std.proofs.Math.Nat.{sub-add_cancel}
use Rattle.std.proofs.lemmas.Nat.{pow-add}
use Rattle.std.specs.Int.{Width, w128, int_div_euclid, int_rem_euclid}
use Rattle.jiff_core.proofs.SignedLemmas.{signed_arith, fits_between}
use Rattle.irs_base.proofs.RoundingLemmas.{quotient_and_rest}
use borrow.Author.Differences.{up, down}
use Rattle.irs_base.specs.Limits.{Rounded, most_numerator}
use Rattle.irs_base.specs.declared.rounding.Direction.TheVariants.{Nearest}
use Rattle.irs_base.proofs.RoundingLaws.{nearest_once}
use Rattle.irs_terms.specs.declared.results.Frac.{Frac}
use Rattle.irs_flows.specs.declared.flows.StatedFraction.{StatedFraction}
use Rattle.irs_audit.specs.Verdicts.{StatesNumber, StatesFraction}
use Rattle.irs_audit.specs.Private.Comparisons.{most_scaled}

cancel : (a b p : ℕ) → 0 < p → a * p ≡ b * p → a ≡ b
cancel a b p some e =
    let l : a ≤ b = le_of_mul-le-mul_right {m = a} {n = b} {k = p} (omega (arith, e)) some in
    let r : b ≤ a = le_of_mul-le-mul_right {m = b} {n = a} {k = p} (omega (arith, e)) some in
    omega (arith, l, r)

cancel_signed : (m n : ℤ) (k : ℕ) → 0 < k → (m *ℤ pos k) ≡ (n *ℤ pos k) → m ≡ n
cancel_signed m n k some e =
    let f : (up m + down n) * k ≡ (up n + down m) * k = omega (arith, signed_arith, e) in
    let g : up m + down n ≡ up n + down m = cancel (up m + down n) (up n + down m) k some f in
    omega (arith, signed_arith, g)

neg_pos : (k b : ℕ) → (neg_ℤ (pos k) *ℤ pos b) ≡ neg_ℤ (pos (k * b))
neg_pos zero b = omega (arith, signed_arith)
neg_pos (suc k) b = negsuc-*ℤ-pos k b

twice : (u : ℤ) (a b : ℕ) → ((u *ℤ pos a) *ℤ pos b) ≡ (u *ℤ pos (a * b))
twice (pos u) a b = omega (arith, signed_arith)
twice (negsuc u) a b =
    let e : suc u * a * b ≡ suc u * (a * b) = omega arith in
    ap (λ (z : ℤ). z *ℤ pos b) (negsuc-*ℤ-pos u a) ∙ neg_pos (suc u * a) b ∙ ap (λ (n : ℕ). neg_ℤ (pos n)) e
    ∙ sym (negsuc-*ℤ-pos u (a * b))

-- numbers that compare equal are equal
pub equal_bits : (m n : ℕ) → IsTrue (nat_eq m n) → m ≡ n
equal_bits m n t = grind (arith, nat_tests)

-- equal numbers have equal bits, and only they
pub same_bits : (w : Width) (a b : ℤ) → FitsSigned w a → FitsSigned w b
    → (IsTrue (nat_eq (of_z w a) (of_z w b)) ↔ (a ≡ b))
same_bits w a b f g = (
  λ t. sym (to_z-of_z f) ∙ ap (to_z w) (equal_bits (of_z w a) (of_z w b) t) ∙ to_z-of_z g,
  λ e. eq-eqb (of_z w a) (of_z w b) (ap (of_z w) e),
)

-- powers of ten up to the twelfth are small
pub power_small : (n : ℕ) → n ≤ 12 → 10 ^ n ≤ 10 ^ 12
power_small n h = pow-le-pow_right {n = 10} (omega arith) {i = n} {j = 12} h

-- a power of 10 for at most 12 decimals fits 64 bits
pub power_fits : (n : ℕ) → n ≤ 12 → 10 ^ n < 2 ^ 64
power_fits n h = let l = power_small n h in omega (arith, l)

some_power : (n : ℕ) → 0 < 10 ^ n
some_power n = let l = one-le-pow n 10 (omega arith) in omega (arith, l)

-- a power of 10 is above 0
pub power_positive : (n : ℕ) → pos 0 <ℤ pos (10 ^ n)
power_positive n = let l = some_power n in omega (arith, signed_arith, l)

-- the powers for p and for 12 - p decimals give that for 12
pub both_powers : (p : ℕ) → p ≤ 12 → 10 ^ (12 - p) * 10 ^ p ≡ 10 ^ 12
both_powers p h = sym (pow-add 10 (12 - p) p) ∙ ap (λ (n : ℕ). 10 ^ n) (sub-add_cancel h)

-- a number converted to units of 10^-12 is the same number
pub scaled_up : (u s : ℤ) (p : ℕ) → p ≤ 12 → (u *ℤ pos (10 ^ (12 - p))) ≡ s → StatesNumber u p s
scaled_up u s p h e =
    ap (λ (z : ℤ). z *ℤ pos (10 ^ p)) (sym e) ∙ twice u (10 ^ (12 - p)) (10 ^ p)
    ∙ ap (λ (n : ℕ). u *ℤ pos n) (both_powers p h)

scaled_down : (u s : ℤ) (p : ℕ) → p ≤ 12 → StatesNumber u p s → (u *ℤ pos (10 ^ (12 - p))) ≡ s
scaled_down u s p h e =
    cancel_signed (u *ℤ pos (10 ^ (12 - p))) s (10 ^ p) (some_power p)
    (twice u (10 ^ (12 - p)) (10 ^ p) ∙ ap (λ (n : ℕ). u *ℤ pos n) (both_powers p h) ∙ sym e)

-- a stated number is the schedule's where both are equal in units of 10^-12
pub number_decided : (u s : ℤ) (p : ℕ) (r : Bool) → p ≤ 12 → (IsTrue r ↔ ((u *ℤ pos (10 ^ (12 - p))) ≡ s))
    → (IsTrue r ↔ StatesNumber u p s)
number_decided u s p r h d = (λ t. scaled_up u s p h (d.0 t), λ e. d.1 (scaled_down u s p h e))

-- p is m times q where the quotient is m and the remainder is 0
multiple_up : (p q m k r : ℤ) → p ≡ q *ℤ k +ℤ r → r ≡ pos 0 → k ≡ m → (m *ℤ q) ≡ p
multiple_up p q m k r e z h = rw (e, z, h) (omega (arith, signed_arith))

pieces : (a b n r : ℕ) → a * n ≡ b * n + r → r < n → (r ≡ 0) × (a ≡ b)
pieces a b n r e h = elim (cases_lt b a) [
  | inl l ↦ absurd (let above : n * (b + 1) ≤ n * a = mul-le-mul_left n (omega (arith, l)) in
      omega (arith, e, h, above))
  | inr l ↦
      let below : n * a ≤ n * b = mul-le-mul_left n l in
      let none : r ≡ 0 = omega (arith, e, below) in
      (none, cancel a b n (omega (arith, h)) (omega (arith, e, none)))
]

-- where p is m times q, the remainder is 0 and the quotient is m
multiple_down : (p q m k r : ℤ) → pos 0 <ℤ q → p ≡ q *ℤ k +ℤ r → pos 0 ≤ℤ r → r <ℤ q → (m *ℤ q) ≡ p
    → (r ≡ pos 0) × (k ≡ m)
multiple_down p (negsuc n) m k r some e low high f = absurd (omega (arith, signed_arith, some))
multiple_down p (pos n) m k (negsuc r) some e low high f = absurd (omega (arith, signed_arith, low))
multiple_down p (pos n) m k (pos r) some e low high f =
    let parts = pieces (up m + down k) (up k + down m) n r (omega (arith, signed_arith, e, f))
    (omega (arith, signed_arith, high)) in
    let none = parts.0 in
    let same = parts.1 in
    (ap (λ (i : ℕ). pos i) none, omega (arith, signed_arith, same))

-- p is m times q exactly where the remainder is 0 and the quotient is m
pub divides : (p q m : ℤ) → pos 0 <ℤ q → ((int_rem_euclid p q ≡ pos 0) × (int_div_euclid p q ≡ m)) ↔ ((m *ℤ q) ≡ p)
divides p q m some =
    let k = int_div_euclid p q in
    let r = int_rem_euclid p q in
    let parts = quotient_and_rest p q some in
    (λ d. multiple_up p q m k r parts.0 d.0 d.1, λ f. multiple_down p q m k r some parts.0 parts.1 parts.2 f)

-- a numerator times a power of 10 for at most 12 decimals is within the greatest numerator
pub scaled_within : (num : ℤ) (n : ℕ) → n ≤ 12 → (pos 0 ≤ℤ num) × (num ≤ℤ pos most_numerator)
    → (pos 0 ≤ℤ (num *ℤ pos (10 ^ n))) × ((num *ℤ pos (10 ^ n)) ≤ℤ pos most_scaled)
scaled_within (negsuc k) n h range = absurd (omega (arith, signed_arith, range))
scaled_within (pos k) n h range =
    let small : k ≤ most_numerator = omega (arith, signed_arith, range) in
    let power : 10 ^ n ≤ 10 ^ 12 = power_small n h in
    let product : k * 10 ^ n ≤ most_numerator * 10 ^ 12 = mul-le-mul small power in
    rw (pos-*ℤ-pos k (10 ^ n)) (omega (arith, signed_arith), omega (arith, signed_arith, product))

-- a numerator times a power of 10 for at most 12 decimals fits 128 bits
pub scaled_fits : (num : ℤ) (n : ℕ) → n ≤ 12 → (pos 0 ≤ℤ num) × (num ≤ℤ pos most_numerator)
    → FitsSigned w128 (num *ℤ pos (10 ^ n))
scaled_fits num n h range = let within = scaled_within num n h range in
    fits_between w128 (num *ℤ pos (10 ^ n)) (omega (arith, signed_arith, within))

-- with fewer than four decimals, comparing exactly decides whether the fraction agrees
pub exact_fraction : (f : Frac) (s : StatedFraction) (r : Bool) → s.places < 4
    → (IsTrue r ↔ ((s.units *ℤ f.den) ≡ (f.num *ℤ pos (10 ^ s.places)))) → (IsTrue r ↔ StatesFraction f s)
exact_fraction f s r h d = (
  λ t. record { decimals = omega (arith, h); exact = λ _. d.0 t; nearest = λ k. absurd (omega (arith, h, k)) },
  λ q. d.1 (q.exact h),
)

-- with four to twelve decimals, comparing the rounded fraction decides whether it agrees
pub near_fraction : (f : Frac) (s : StatedFraction) (q : ℤ) (r : Bool) → 4 ≤ s.places → s.places ≤ 12 → pos 0 <ℤ f.den
    → Rounded Nearest (f.num *ℤ pos (10 ^ s.places)) f.den q → (IsTrue r ↔ (q ≡ s.units)) → (IsTrue r ↔ StatesFraction f s)
near_fraction f s q r low high den is d = (
  λ t. let R : ℤ → Type 0 = λ m. Rounded Nearest (f.num *ℤ pos (10 ^ s.places)) f.den m in
      record { decimals = high; exact = λ k. absurd (omega (arith, low, k)); nearest = λ _. subst R (d.0 t) is },
  λ k. d.1 (nearest_once (f.num *ℤ pos (10 ^ s.places)) f.den q s.units den is (k.nearest low)),
)

-- a fraction with more than twelve decimals agrees with none
pub not_a_fraction : (f : Frac) (s : StatedFraction) → 12 < s.places → StatesFraction f s → ⊥
not_a_fraction f s h k = let l = k.decimals in omega (arith, h, l)
