-- Tests of order and of both, as facts.
use Rattle.std.proofs.Common.{◌≡◌, Bool, true, false, ◌&&◌, refl, arith, ℤ, ◌≤ℤ◌, ◌<ℤ◌}
use Rattle.std.specs.Ordering.{int_cmp, is_le, is_lt}
use Rattle.jiff_core.proofs.SignedLemmas.{signed_arith}

-- the test finds at most
pub le_true : (a b : ℤ) → is_le (int_cmp a b) ≡ true → a ≤ℤ b
le_true a b h = grind (arith, signed_arith)

-- where the test of at most fails the number is greater
pub le_false : (a b : ℤ) → is_le (int_cmp a b) ≡ false → b <ℤ a
le_false a b h = grind (arith, signed_arith)

-- a number that is at most passes the test
pub true_le : (a b : ℤ) → a ≤ℤ b → is_le (int_cmp a b) ≡ true
true_le a b h = grind (arith, signed_arith)

-- the test finds less
pub lt_true : (a b : ℤ) → is_lt (int_cmp a b) ≡ true → a <ℤ b
lt_true a b h = grind (arith, signed_arith)

-- where the test of less fails the number is not less
pub lt_false : (a b : ℤ) → is_lt (int_cmp a b) ≡ false → b ≤ℤ a
lt_false a b h = grind (arith, signed_arith)

-- a number that is less passes the test
pub true_lt : (a b : ℤ) → a <ℤ b → is_lt (int_cmp a b) ≡ true
true_lt a b h = grind (arith, signed_arith)

-- both are true where both together are
pub both_true : (a b : Bool) → (a && b) ≡ true → (a ≡ true) × (b ≡ true)
both_true true b h = (refl, h)
both_true false b h = absurd (cc)
