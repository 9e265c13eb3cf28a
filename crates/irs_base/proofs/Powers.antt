-- The table of the powers of ten.
use Rattle.std.proofs.Common.{◌≡◌, ℕ, zero, suc, ◌-◌, ◌^◌, ◌<◌, ◌≤◌, Bool, true, ◌&&◌, T, eqb, get_or, arith, inl, inr}
use Rattle.std.proofs.Common.{eq-zero-or-pos, eqb→eq}
use lib.Ieee.Fits.{and_l, and_r}
use Rattle.irs_base.specs.declared.digits.TheConstants.{POWERS}

-- whether the table's first entries are the powers of 10
abbrev are_powers : ℕ → Bool
are_powers zero = true
are_powers (suc k) = eqb (get_or POWERS k 0) (10 ^ k) && are_powers k

below : (n k : ℕ) → T (are_powers n) → k < n → get_or POWERS k 0 ≡ 10 ^ k
below zero k t h = absurd (omega arith)
below (suc n) k t h =
    elim (eq-zero-or-pos (n - k)) [
      | inl z ↦ let e : k ≡ n = omega arith in rw e (eqb→eq _ _ (and_l _ (are_powers n) t))
      | inr g ↦ below n k (and_r _ (are_powers n) t) (omega arith)
    ]

-- the table has the powers of ten
pub power_at : (k : ℕ) → k ≤ 18 → get_or POWERS k 0 ≡ 10 ^ k
power_at k h = below 19 k tt (omega (arith, h))
