-- How large products are.
use Rattle.std.proofs.Common.{ℕ, zero, suc, ◌*◌, ◌^◌, ◌≤◌, ℤ, pos, negsuc, ◌≤ℤ◌, unsigned_abs, arith}
use Rattle.std.proofs.Math.Nat.{mul-le-mul}
use Rattle.jiff_core.proofs.SignedLemmas.{signed_arith}

-- the size of a number between 0 and n
pub size_between : (z : ℤ) (n : ℕ) → pos 0 ≤ℤ z → z ≤ℤ pos n → unsigned_abs z ≤ n
size_between (pos a) n h k = omega (arith, signed_arith, h, k)
size_between (negsuc a) n h k = absurd (omega (arith, signed_arith, h, k))

-- a product of two bounded numbers is bounded
pub product_of_two : (a b l m : ℕ) → a ≤ l → b ≤ m → a * b ≤ l * m
product_of_two a b l m h k = mul-le-mul h k

-- a currency has at most three decimals
pub thousand : (n : ℕ) → n ≤ 3 → 10 ^ n ≤ 1_000
thousand zero h = omega arith
thousand (suc zero) h = omega arith
thousand (suc (suc zero)) h = omega arith
thousand (suc (suc (suc zero))) h = omega arith
thousand (suc (suc (suc (suc n)))) h = absurd (omega (arith, h))
