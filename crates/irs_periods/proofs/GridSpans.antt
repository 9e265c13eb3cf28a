-- The days of a grid from the first to the last day of a span, listed.
use Rattle.std.proofs.Common.{◌≡◌, inl, inr, ℕ, zero, suc, ◌+◌, ◌-◌, ◌<◌, [], ◌∷◌, ◌++◌, length, ℤ, pos, ◌+ℤ◌, ◌<ℤ◌}
use Rattle.std.proofs.Common.{◌≤ℤ◌, refl, sym, ap, subst, ◌∙◌, arith, length-append}
use Rattle.std.proofs.lemmas.Bool.{cases_lt}
use Rattle.jiff_core.proofs.SignedLemmas.{signed_arith}
use borrow.Author.Differences.{up, down}
use Rattle.irs_base.specs.Lists.{Member, IsRising, Lists}
use Rattle.irs_base.proofs.Rising.{member_old, member_new, member_cases, rising_push}
use Rattle.irs_periods.specs.Boundaries.{OnSpan}
use Rattle.irs_periods.specs.Private.Spans.{days_from, where_before, all_boundaries}
use Rattle.irs_periods.proofs.GridDays.{no_earlier, number_order}

-- a list of n grid days has n days
pub length-days_from : (f : ℤ → ℤ) (start : ℤ) (n : ℕ) → length (days_from f start n) ≡ n
length-days_from f start zero = refl
length-days_from f start (suc n) =
    omega (arith, length-days_from f start n, length-append (days_from f start n) (f (start +ℤ pos n) ∷ []))

place_of : (f : ℤ → ℤ) (start : ℤ) (n : ℕ) (d : ℤ) → Member d (days_from f start n)
    → (j : ℕ) × (j < n) × (d ≡ f (start +ℤ pos j))
place_of f start zero d m = absurd m
place_of f start (suc n) d m = elim (member_cases d (f (start +ℤ pos n)) (days_from f start n) m) [
  | inl old ↦ let p = place_of f start n d old in (p.0, omega (arith, p.1), p.2)
  | inr new ↦ (n, omega arith, new)
]

at_place : (f : ℤ → ℤ) (start : ℤ) (n j : ℕ) → j < n → Member (f (start +ℤ pos j)) (days_from f start n)
at_place f start zero j h = absurd (omega arith)
at_place f start (suc n) j h = elim (cases_lt j n) [
  | inl low ↦ member_old (f (start +ℤ pos j)) (f (start +ℤ pos n)) (days_from f start n) (at_place f start n j low)
  | inr high ↦ let same : j ≡ n = omega arith in rw same (member_new (f (start +ℤ pos n)) (days_from f start n))
]

module _ (f : ℤ → ℤ) (rises : (j k : ℤ) → j <ℤ k → f j <ℤ f k) where
  rising-days_from : (start : ℤ) (n : ℕ) → IsRising (days_from f start n)
  rising-days_from start zero = tt
  rising-days_from start (suc n) =
      rising_push (f (start +ℤ pos n)) (days_from f start n) (rising-days_from start n) (λ d m.
      let p = place_of f start n d m in
      subst (λ z. z <ℤ f (start +ℤ pos n)) (sym p.2)
      (rises (start +ℤ pos p.0) (start +ℤ pos n) (omega (arith, signed_arith, p.1))))

  module _ (on : ℤ → Type 0) (nth_is_on : (k : ℤ) → on (f k)) (misses_none : (d : ℤ) → on d
      → (k : ℤ) × (f k ≡ d)) (start : ℤ) (n : ℕ) where
    -- a day between the ends of the span has a number between theirs
    stands : (d : ℤ) → f start ≤ℤ d → d ≤ℤ f (start +ℤ pos n) → (k : ℤ) → f k ≡ d → Member d (days_from f start (n + 1))
    stands d low high k e =
        let from = number_order f rises start k (subst (λ (z : ℤ). f start ≤ℤ z) (sym e) low) in
        let to = number_order f rises k (start +ℤ pos n) (subst (λ (z : ℤ). z ≤ℤ f (start +ℤ pos n)) (sym e) high) in
        let j : ℕ = up k + down start - (down k + up start) in
        let place : start +ℤ pos j ≡ k = omega (arith, signed_arith, from) in
        let within : j < n + 1 = omega (arith, signed_arith, from, to) in
        subst (λ (z : ℤ). Member z (days_from f start (n + 1))) (ap f place ∙ e) (at_place f start (n + 1) j within)

    -- the n + 1 days from the first one to the last one are the days of the span
    pub span_days : Lists (OnSpan on (f start) (f (start +ℤ pos n))) (days_from f start (n + 1))
    span_days = record {
      rising = rising-days_from start (n + 1);
      sound = λ d m.
          let p = place_of f start (n + 1) d m in
          let from = no_earlier f rises start (start +ℤ pos p.0) (omega (arith, signed_arith)) in
          let to = no_earlier f rises (start +ℤ pos p.0) (start +ℤ pos n) (omega (arith, signed_arith, p.1)) in
          rw p.2 (from, to, nth_is_on (start +ℤ pos p.0));
      complete = λ d b. let k = misses_none d b.2 in stands d b.0 b.1 k.0 k.1;
    }

-- how many boundaries there are
pub length-all_boundaries : (f : ℤ → ℤ) (start : ℤ) (n : ℕ) (e t first last : ℤ)
    → length (all_boundaries f start n e t first last)
    ≡ (length (where_before e first e) + (n + 1)) + length (where_before last t t)
length-all_boundaries f start n e t first last =
    omega (
      arith,
      length-append (where_before e first e ++ days_from f start (n + 1)) (where_before last t t),
      length-append (where_before e first e) (days_from f start (n + 1)),
      length-days_from f start (n + 1),
    )
