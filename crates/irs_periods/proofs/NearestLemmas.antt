-- Neighbours among the numbers of a grid are neighbours among its days.
use Rattle.std.proofs.Common.{◌≡◌, inl, inr, arith, ℤ, pos, ◌+ℤ◌, ◌-ℤ◌, ◌≤ℤ◌, ◌<ℤ◌}
use Rattle.jiff_core.proofs.SignedLemmas.{signed_arith}
use Rattle.irs_periods.specs.Spans.{FirstFrom, FirstAfter, LastUpTo, LastBefore}
use Rattle.irs_periods.proofs.GridDays.{cases_ltz, no_earlier}

module _ (f : ℤ → ℤ) (rises : (j k : ℤ) → j <ℤ k → f j <ℤ f k) (on : ℤ → Type 0) (nth_is_on : (k : ℤ)
    → on (f k)) (misses_none : (d : ℤ) → on d → (k : ℤ) × (f k ≡ d)) where
  not_below : (k d x : ℤ) → f (k -ℤ pos 1) <ℤ d → d ≤ℤ x → (j : ℤ) → f j ≡ x → f k ≤ℤ x
  not_below k d x before later j e = elim (cases_ltz j k) [
    | inl low ↦
        let le = no_earlier f rises j (k -ℤ pos 1) (omega (arith, signed_arith, low)) in
        absurd (omega (arith, signed_arith, le, before, later, e))
    | inr high ↦
        let le = no_earlier f rises k j high in
        omega (arith, signed_arith, le, e)
  ]

  -- the k-th day isn't before d, and the one before it is
  pub first_from : (k d : ℤ) → d ≤ℤ f k → f (k -ℤ pos 1) <ℤ d → FirstFrom on d (f k)
  first_from k d here before = record {
    is_on = nth_is_on k;
    after = here;
    least = λ x on_x later. let j = misses_none x on_x in not_below k d x before later j.0 j.1;
  }

  not_above : (k d x : ℤ) → d <ℤ f (k +ℤ pos 1) → x ≤ℤ d → (j : ℤ) → f j ≡ x → x ≤ℤ f k
  not_above k d x after earlier j e = elim (cases_ltz k j) [
    | inl high ↦
        let le = no_earlier f rises (k +ℤ pos 1) j (omega (arith, signed_arith, high)) in
        absurd (omega (arith, signed_arith, le, after, earlier, e))
    | inr low ↦
        let le = no_earlier f rises j k low in
        omega (arith, signed_arith, le, e)
  ]

  -- the k-th day isn't after d, and the one after it is
  pub last_up_to : (k d : ℤ) → f k ≤ℤ d → d <ℤ f (k +ℤ pos 1) → LastUpTo on d (f k)
  last_up_to k d here after = record {
    is_on = nth_is_on k;
    before = here;
    greatest = λ x on_x earlier. let j = misses_none x on_x in not_above k d x after earlier j.0 j.1;
  }

  next_least : (k x : ℤ) → f k <ℤ x → (j : ℤ) → f j ≡ x → f (k +ℤ pos 1) ≤ℤ x
  next_least k x later j e = elim (cases_ltz k j) [
    | inl high ↦ let le = no_earlier f rises (k +ℤ pos 1) j (omega (arith, signed_arith, high)) in
        omega (arith, signed_arith, le, e)
    | inr low ↦ let le = no_earlier f rises j k low in absurd (omega (arith, signed_arith, le, e, later))
  ]

  -- the next number has the next day
  pub first_after : (k : ℤ) → FirstAfter on (f k) (f (k +ℤ pos 1))
  first_after k = record {
    is_on = nth_is_on (k +ℤ pos 1);
    after = rises k (k +ℤ pos 1) (omega (arith, signed_arith));
    least = λ x on_x later. let j = misses_none x on_x in next_least k x later j.0 j.1;
  }

  before_greatest : (k x : ℤ) → x <ℤ f k → (j : ℤ) → f j ≡ x → x ≤ℤ f (k -ℤ pos 1)
  before_greatest k x earlier j e = elim (cases_ltz j k) [
    | inl low ↦ let le = no_earlier f rises j (k -ℤ pos 1) (omega (arith, signed_arith, low)) in
        omega (arith, signed_arith, le, e)
    | inr high ↦ let le = no_earlier f rises k j high in absurd (omega (arith, signed_arith, le, e, earlier))
  ]

  -- the number before has the day before
  pub last_before : (k : ℤ) → LastBefore on (f k) (f (k -ℤ pos 1))
  last_before k = record {
    is_on = nth_is_on (k -ℤ pos 1);
    before = rises (k -ℤ pos 1) k (omega (arith, signed_arith));
    greatest = λ x on_x earlier. let j = misses_none x on_x in before_greatest k x earlier j.0 j.1;
  }
