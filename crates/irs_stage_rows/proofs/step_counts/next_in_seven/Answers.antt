use Rattle.std.proofs.Common.{◌≡◌, ◌⊎◌, inl, inr, ℕ, zero, suc, ◌+◌, ◌-◌, ◌*◌, ◌^◌, ◌≤◌, arith, subst}
use Rattle.std.proofs.Math.Nat.{pow-succ'}
use Rattle.irs_stage_rows.proofs.step_counts.next_in_seven.Goals as goal

at_most : (k : ℕ) → 2 ^ k ≤ 214 → k ≤ 7
at_most k few = elim (cases_le k) [
  | inl low ↦ low
  | inr high ↦ absurd (too_many (k - 8) (subst (λ (n : ℕ). 2 ^ n ≤ 214) (split k high) few))
]
  where
    cases_le : (k : ℕ) → (k ≤ 7) ⊎ (8 ≤ k)
    cases_le k = grind arith

    split : (k : ℕ) → 8 ≤ k → k ≡ k - 8 + 8
    split k h = omega (arith, h)

    too_many : (n : ℕ) → 2 ^ (n + 8) ≤ 214 → ⊥
    too_many zero h = omega (arith, h)
    too_many (suc n) h =
        let k : suc n + 8 ≡ suc (n + 8) = omega arith in
        let e : 2 ^ (suc n + 8) ≡ 2 * 2 ^ (n + 8) = rw k (pow-succ' 2 (n + 8)) in
        too_many n (omega (arith, e, h))

pub returns : goal.returns
returns g c =
    at_most _ (subst (λ (n : ℕ). 2 ^ (c.next_good_counted.new.steps - c.args.steps.now) ≤ 4 * n + 2) c.requires
    c.next_good_counted.ensures.cost)
