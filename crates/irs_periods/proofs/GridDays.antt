-- The numbers and the days of a grid, from its laws alone.
use Rattle.std.proofs.Common.{◌≡◌, ◌⊎◌, inl, inr, ℕ, zero, suc, ℤ, pos, negsuc, neg_ℤ, ◌+ℤ◌, ◌<ℤ◌, ◌≤ℤ◌, subst, arith}
use Rattle.jiff_core.proofs.SignedLemmas.{signed_arith}
use Rattle.jiff_core.specs.Calendar.{IsBetween}
use Rattle.irs_base.specs.Days.{IsDay, all_days}

-- of two numbers one is below the other, or not
pub cases_ltz : (a b : ℤ) → (a <ℤ b) ⊎ (b ≤ℤ a)
cases_ltz a b = grind (arith, signed_arith)

module _ (f : ℤ → ℤ) (rises : (j k : ℤ) → j <ℤ k → f j <ℤ f k) where
  -- each step leads at least one day on
  pub grows : (n : ℕ) (j : ℤ) → (f j +ℤ pos n) ≤ℤ f (j +ℤ pos n)
  grows zero j = let e : j +ℤ pos 0 ≡ j = omega (arith, signed_arith) in rw e (omega (arith, signed_arith))
  grows (suc n) j =
      let more = rises (j +ℤ pos n) (j +ℤ pos (suc n)) (omega (arith, signed_arith)) in
      omega (arith, signed_arith, more, grows n j)

  -- a later number on the grid has no earlier day
  pub no_earlier : (j k : ℤ) → j ≤ℤ k → f j ≤ℤ f k
  no_earlier j k le = elim (cases_ltz j k) [
    | inl lt ↦ let h = rises j k lt in omega (arith, signed_arith, h)
    | inr ge ↦ let same : j ≡ k = omega (arith, signed_arith, le, ge) in rw same (omega (arith, signed_arith))
  ]

  -- the order of numbers is that of their days
  pub number_order : (j k : ℤ) → f j ≤ℤ f k → j ≤ℤ k
  number_order j k le = elim (cases_ltz k j) [
    | inl lt ↦ let h = rises k j lt in absurd (omega (arith, signed_arith, h, le))
    | inr ge ↦ ge
  ]

  -- the number of a day in range, where the 0th day is in range
  pub number_bounds : (k : ℤ) → IsDay (f (pos 0)) → IsDay (f k) → IsBetween (neg_ℤ (pos all_days)) (pos all_days) k
  number_bounds (pos n) zeroth kth =
      let e : pos 0 +ℤ pos n ≡ pos n = omega (arith, signed_arith) in
      let more = subst (λ (z : ℤ). (f (pos 0) +ℤ pos n) ≤ℤ f z) e (grows n (pos 0)) in
      (omega (arith, signed_arith), omega (arith, signed_arith, more, zeroth, kth))
  number_bounds (negsuc n) zeroth kth =
      let e : negsuc n +ℤ pos (suc n) ≡ pos 0 = omega (arith, signed_arith) in
      let more = subst (λ (z : ℤ). (f (negsuc n) +ℤ pos (suc n)) ≤ℤ f z) e (grows (suc n) (negsuc n)) in
      (omega (arith, signed_arith, more, zeroth, kth), omega (arith, signed_arith))
