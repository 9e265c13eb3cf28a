-- How large products can be.
use Rattle.std.proofs.Common.{◌≡◌, ℕ, ◌*◌, ◌≤◌, ℤ, pos, negsuc, ◌≤ℤ◌, ◌<ℤ◌, unsigned_abs, arith, refl}
use Rattle.std.proofs.Math.Nat.{mul-le-mul}
use Rattle.jiff_core.proofs.SignedLemmas.{signed_arith}

-- the size of a number between 0 and n
pub size_between : (z : ℤ) (n : ℕ) → pos 0 ≤ℤ z → z ≤ℤ pos n → unsigned_abs z ≤ n
size_between (pos a) n h k = omega (arith, signed_arith, h, k)
size_between (negsuc a) n h k = absurd (omega (arith, signed_arith, h, k))

-- a number above 0 is its own size
pub positive_size : (z : ℤ) → pos 0 <ℤ z → z ≡ pos (unsigned_abs z)
positive_size (pos a) h = refl
positive_size (negsuc a) h = absurd (omega (arith, signed_arith, h))

-- a product is at most the product of the limits
pub product_of_two : (a b l m : ℕ) → a ≤ l → b ≤ m → a * b ≤ l * m
product_of_two a b l m h k = mul-le-mul h k
