-- The table of the two digits of each number below 100.
use Rattle.std.proofs.Common.{◌≡◌, ℕ, zero, suc, ◌+◌, ◌-◌, ◌*◌, ◌/◌, ◌%◌, ◌<◌, Bool, true, ◌&&◌, T, eqb, get_or, arith}
use Rattle.std.proofs.Common.{inl, inr, eq-zero-or-pos, eqb→eq}
use lib.Ieee.Fits.{and_l, and_r}
use Rattle.irs_base.specs.declared.digits.TheConstants.{PAIRS}

-- the first n pairs are the digits of their numbers
abbrev are_pairs : ℕ → Bool
are_pairs zero = true
are_pairs (suc k) =
    (eqb (get_or PAIRS.now (2 * k) 0) (48 + k / 10) && eqb (get_or PAIRS.now (2 * k + 1) 0) (48 + k % 10)) && are_pairs k

-- the table's two digits at k are those of the number k
abbrev IsPair : ℕ → Type 0
IsPair k = (get_or PAIRS.now (2 * k) 0 ≡ 48 + k / 10) × (get_or PAIRS.now (2 * k + 1) 0 ≡ 48 + k % 10)

below : (n k : ℕ) → T (are_pairs n) → k < n → IsPair k
below zero k t h = absurd (omega arith)
below (suc n) k t h =
    elim (eq-zero-or-pos (n - k)) [
      | inl z ↦
          let e : k ≡ n = omega arith in
          let both = and_l _ (are_pairs n) t in
          rw e (eqb→eq _ _ (and_l _ _ both), eqb→eq _ _ (and_r _ _ both))
      | inr g ↦ below n k (and_r _ (are_pairs n) t) (omega arith)
    ]

-- the two digits of k
pub pair_at : (k : ℕ) → k < 100 → IsPair k
pair_at k h = below 100 k tt h
