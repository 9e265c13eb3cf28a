-- Finding a day among days that rise.
use Rattle.std.proofs.Common.{◌≡◌, ◌⊎◌, inl, inr, ℕ, zero, suc, ◌<◌, ◌≤◌, Bool, true, false, ◌&&◌, List, [], ◌∷◌}
use Rattle.std.proofs.Common.{length, slice_get, Some, arith, refl, sym, ◌∙◌, subst, ℤ, ◌<ℤ◌}
use Rattle.std.specs.Ordering.{int_cmp, is_lt, is_le, int_eq}
use Rattle.std.proofs.lemmas.Option.{slice_get_within, same_Some}
use Rattle.std.proofs.lemmas.Bool.{cases_Bool}
use Rattle.jiff_core.proofs.SignedLemmas.{signed_arith}
use Rattle.irs_calendar.specs.declared.sections.Section.{Section}
use Rattle.irs_calendar.specs.Rising.{RisesByPlace}
use Rattle.irs_calendar.specs.Private.Files.{fits_section}
use Rattle.irs_calendar.specs.Private.Rising.{IsAfter, all_before}
use Rattle.irs_base.proofs.Orders.{lt_true, lt_false, true_lt, both_true}

-- numbers that compare equal are equal
pub eq_true : (a b : ℤ) → int_eq a b ≡ true → a ≡ b
eq_true a b h = grind (arith, signed_arith)

-- equal numbers compare equal
pub true_eq : (a b : ℤ) → a ≡ b → int_eq a b ≡ true
true_eq a b h = grind (arith, signed_arith)

-- numbers that compare unequal differ
pub eq_false : (a b : ℤ) → int_eq a b ≡ false → a ≡ b → ⊥
eq_false a b h e = let t = true_eq a b e in cc (t, h)

-- what isn't true is false
pub not_true : (b : Bool) → (b ≡ true → ⊥) → b ≡ false
not_true true h = absurd (h refl)
not_true false h = refl

-- above each of the days
pub after_all : (days : List ℤ) (d : ℤ) → all_before d days ≡ true → IsAfter d days
after_all [] d h i x at = absurd (cc)
after_all (y ∷ ys) d h zero x at = let b = both_true (is_lt (int_cmp y d)) (all_before d ys) h in
    subst (λ (z : ℤ). z <ℤ d) (same_Some y x at) (lt_true y d b.0)
after_all (y ∷ ys) d h (suc i) x at = let b = both_true (is_lt (int_cmp y d)) (all_before d ys) h in
    after_all ys d b.1 i x at

-- a day after each day of a list is after all
pub all_after : (days : List ℤ) (d : ℤ) → ((i : ℕ) (x : ℤ) → slice_get days i ≡ Some x → x <ℤ d)
    → all_before d days ≡ true
all_after [] d h = refl
all_after (y ∷ ys) d h = rw (true_lt y d (h 0 y refl), all_after ys d (λ i x at. h (suc i) x at)) refl

-- a holiday that fits comes after those of the section
pub fits_after : (s : Section) (d : ℤ) → fits_section s d ≡ true → IsAfter d s.holidays
fits_after s d h =
    let a = both_true (is_le (int_cmp s.first d)) (is_le (int_cmp d s.last) && all_before d s.holidays) h in
    let b = both_true (is_le (int_cmp d s.last)) (all_before d s.holidays) a.1 in
    after_all s.holidays d b.1

-- it is enough to be above the last one
pub last_before : (days : List ℤ) (d x : ℤ) (n : ℕ) → RisesByPlace days → suc n ≡ length days → slice_get days n ≡ Some x
    → is_lt (int_cmp x d) ≡ all_before d days
last_before days d x n rising len at = elim (cases_Bool (is_lt (int_cmp x d))) [
  | inl low ↦ low ∙ sym
      (all_after days d (λ i y there. elim (cases_le i n (omega (arith, len, slice_get_within days i y there))) [
        | inl front ↦ omega (arith, signed_arith, rising.rises i n y x front there at, lt_true x d low)
        | inr same ↦
            let q : Some x ≡ Some y = sym at ∙ subst (λ (k : ℕ). slice_get days k ≡ Some y) same there in
            subst (λ (z : ℤ). z <ℤ d) (same_Some x y q) (lt_true x d low)
      ]))
  | inr high ↦
      high ∙ sym (not_true (all_before d days) (λ t. let low = after_all days d t n x at in
      omega (arith, signed_arith, low, lt_false x d high)))
]
  where
    cases_le : (i j : ℕ) → i ≤ j → (i < j) ⊎ (i ≡ j)
    cases_le i j h = grind arith
