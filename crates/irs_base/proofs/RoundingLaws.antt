-- Each p/q has one rounded value, and only one.
use Rattle.std.proofs.Common.{◌≡◌, ℕ, suc, zero, ◌+◌, ◌*◌, ◌<◌, ◌≤◌, ℤ, pos, negsuc, ◌+ℤ◌, ◌-ℤ◌, ◌*ℤ◌, ◌≤ℤ◌, ◌<ℤ◌}
use Rattle.std.proofs.Common.{unsigned_abs, neg_ℤ, refl, arith, true, false, Bool, if◌then◌else◌}
use Rattle.std.specs.Prelude.{int_lt}
use Rattle.std.proofs.Math.Nat.{mul-le-mul_left}
use Rattle.std.proofs.lemmas.Int.{by_lt_z}
use Rattle.std.specs.Int.{int_div_euclid, int_rem_euclid}
use borrow.Author.Differences.{up, down}
use Rattle.irs_base.specs.Limits.{Rounded, rounded}
use Rattle.irs_base.specs.declared.rounding.Direction.{Direction}
use Rattle.irs_base.specs.declared.rounding.Direction.TheVariants.{Up, Down, Nearest}
use Rattle.irs_base.proofs.RoundingLemmas.{quotient_and_rest, near_low, near_high, down_low, up_low, up_high}
use Rattle.jiff_core.proofs.SignedLemmas.{signed_arith}

-- below the next multiple is at most this one
multiple_order : (k : ℕ) (m n : ℤ) → (pos k *ℤ m) <ℤ (pos k *ℤ n +ℤ pos k) → m ≤ℤ n
multiple_order k m n h =
    by_lt_z n m
    (λ (l : n <ℤ m). let e : up n + down m + 1 ≤ up m + down n = omega (arith, signed_arith, l) in
    let f : k * (up n + down m + 1) ≤ k * (up m + down n) = mul-le-mul_left k e in
    absurd (omega (arith, signed_arith, h, f)))
    (λ (l : m ≤ℤ n). l)

both_ways : (m n : ℤ) → m ≤ℤ n → n ≤ℤ m → m ≡ n
both_ways m n h k = omega (arith, signed_arith, h, k)

-- a fraction is rounded to one nearest number
pub nearest_once : (p q m n : ℤ) → pos 0 <ℤ q → Rounded Nearest p q m → Rounded Nearest p q n → m ≡ n
nearest_once p (negsuc k) m n h a b = absurd (omega (arith, signed_arith, h))
nearest_once p (pos k) m n h a b =
    both_ways m n
    (multiple_order (2 * k) m n (omega (arith, signed_arith, a, b)))
    (multiple_order (2 * k) n m (omega (arith, signed_arith, a, b)))

down_once : (p q m n : ℤ) → pos 0 <ℤ q → Rounded Down p q m → Rounded Down p q n → m ≡ n
down_once p (negsuc k) m n h a b = absurd (omega (arith, signed_arith, h))
down_once p (pos k) m n h a b =
    both_ways m n
    (multiple_order k m n (omega (arith, signed_arith, a, b)))
    (multiple_order k n m (omega (arith, signed_arith, a, b)))

up_once : (p q m n : ℤ) → pos 0 <ℤ q → Rounded Up p q m → Rounded Up p q n → m ≡ n
up_once p (negsuc k) m n h a b = absurd (omega (arith, signed_arith, h))
up_once p (pos k) m n h a b =
    both_ways m n
    (multiple_order k m n (omega (arith, signed_arith, a, b)))
    (multiple_order k n m (omega (arith, signed_arith, a, b)))

-- a fraction is rounded to one number, in each direction
pub rounded_once : (dir : Direction) (p q m n : ℤ) → pos 0 <ℤ q → Rounded dir p q m → Rounded dir p q n → m ≡ n
rounded_once Up p q m n h a b = up_once p q m n h a b
rounded_once Down p q m n h a b = down_once p q m n h a b
rounded_once Nearest p q m n h a b = nearest_once p q m n h a b

-- a fraction has a nearest number
pub nearest_exists : (p q : ℤ) → pos 0 <ℤ q → (m : ℤ) × Rounded Nearest p q m
nearest_exists p q h =
    let k = int_div_euclid p q in
    let r = int_rem_euclid p q in
    let d = quotient_and_rest p q h in
    by_lt_z r (q -ℤ r)
    (λ (l : r <ℤ (q -ℤ r)). (k, near_low p q k r d l))
    (λ (l : (q -ℤ r) ≤ℤ r). (k +ℤ pos 1, near_high p q k r d l))

-- the size of a number between two opposite ones
size_within : (m : ℤ) (l : ℕ) → neg_ℤ (pos l) ≤ℤ m → m ≤ℤ pos l → unsigned_abs m ≤ l
size_within (pos n) l h k = omega (arith, signed_arith, h, k)
size_within (negsuc n) l h k = omega (arith, signed_arith, h, k)

-- what a bound on the size of p says of p
between : (p : ℤ) (n : ℕ) → unsigned_abs p ≤ n → (neg_ℤ (pos n) ≤ℤ p) × (p ≤ℤ pos n)
between (pos a) n h = (omega (arith, signed_arith, h), omega (arith, signed_arith, h))
between (negsuc a) n h = (omega (arith, signed_arith, h), omega (arith, signed_arith, h))

negative_multiple : (k l : ℕ) → pos k *ℤ neg_ℤ (pos l) ≡ neg_ℤ (pos (k * l))
negative_multiple k zero = omega (arith, signed_arith)
negative_multiple k (suc l) = refl

-- p/q is rounded to at most a whole number that it doesn't pass in size
pub rounded_size : (dir : Direction) (p m : ℤ) (k l : ℕ) → 0 < k → unsigned_abs p ≤ k * l → Rounded dir p (pos k) m
    → unsigned_abs m ≤ l
rounded_size Up p m k l a h r =
    let b = between p (k * l) h in
    size_within m l
    (multiple_order k (neg_ℤ (pos l)) m (rw (negative_multiple k l) (omega (arith, signed_arith, a, b, r))))
    (multiple_order k m (pos l) (omega (arith, signed_arith, a, b, r)))
rounded_size Down p m k l a h r =
    let b = between p (k * l) h in
    size_within m l
    (multiple_order k (neg_ℤ (pos l)) m (rw (negative_multiple k l) (omega (arith, signed_arith, a, b, r))))
    (multiple_order k m (pos l) (omega (arith, signed_arith, a, b, r)))
rounded_size Nearest p m k l a h r =
    let b = between p (k * l) h in
    size_within m l
    (multiple_order (2 * k) (neg_ℤ (pos l)) m (rw (negative_multiple (2 * k) l) (omega (arith, signed_arith, a, b, r))))
    (multiple_order (2 * k) m (pos l) (omega (arith, signed_arith, a, b, r)))

up_choice : (p q : ℤ) (b : Bool) → int_lt (pos 0) (int_rem_euclid p q) ≡ b → pos 0 <ℤ q
    → Rounded Up p q (if b then int_div_euclid p q +ℤ pos 1 else int_div_euclid p q)
up_choice p q true e low =
    up_high p q (int_div_euclid p q) (int_rem_euclid p q) (quotient_and_rest p q low) (omega (arith, signed_arith, e))
up_choice p q false e low =
    up_low p q (int_div_euclid p q) (int_rem_euclid p q) (quotient_and_rest p q low) (omega (arith, signed_arith, e))

near_choice : (p q : ℤ) (b : Bool) → int_lt (int_rem_euclid p q) (q -ℤ int_rem_euclid p q) ≡ b → pos 0 <ℤ q
    → Rounded Nearest p q (if b then int_div_euclid p q else int_div_euclid p q +ℤ pos 1)
near_choice p q true e low =
    near_low p q (int_div_euclid p q) (int_rem_euclid p q) (quotient_and_rest p q low) (omega (arith, signed_arith, e))
near_choice p q false e low =
    near_high p q (int_div_euclid p q) (int_rem_euclid p q) (quotient_and_rest p q low) (omega (arith, signed_arith, e))

-- the function gives a rounded number
pub rounded_is : (dir : Direction) (p q : ℤ) → pos 0 <ℤ q → Rounded dir p q (rounded dir p q)
rounded_is Up p q low = up_choice p q (int_lt (pos 0) (int_rem_euclid p q)) refl low
rounded_is Down p q low = down_low p q (int_div_euclid p q) (int_rem_euclid p q) (quotient_and_rest p q low)
rounded_is Nearest p q low = near_choice p q (int_lt (int_rem_euclid p q) (q -ℤ int_rem_euclid p q)) refl low

-- the rounded number is that of the function
pub rounded_value : (dir : Direction) (p q m : ℤ) → pos 0 <ℤ q → Rounded dir p q m → m ≡ rounded dir p q
rounded_value dir p q m low h = rounded_once dir p q m (rounded dir p q) low h (rounded_is dir p q low)
