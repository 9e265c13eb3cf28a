-- Rows of a list: those that pass a test, and how many.
use Rattle.std.proofs.Common.{◌≡◌, ◌⊎◌, inl, inr, ℕ, zero, suc, ◌+◌, ◌-◌, ◌<◌, ◌≤◌, Bool, true, false, ◌&&◌, ◌||◌, cond}
use Rattle.std.proofs.Common.{List, [], ◌∷◌, length, ℤ, arith, refl, sym, subst, ap, ◌∙◌}
use Rattle.std.specs.List.{count_by, list_any}
use Rattle.std.specs.Ordering.{int_cmp, int_eq, is_lt}
use Rattle.std.specs.Prelude.{nat_lt}
use Rattle.std.proofs.lemmas.Bool.{and_parts, cases_Bool, or_cases, ltb-true, lt-ltb}
use Rattle.std.proofs.lemmas.Bool.Decides.{Decides-int_eq}
use Rattle.std.proofs.lemmas.List.Sums.{sum_by-cons}
use Rattle.std.proofs.lemmas.Option.{same_Some, none-some}
use Rattle.jiff_core.proofs.SignedLemmas.{signed_arith}
use Rattle.irs_base.proofs.Orders.{lt_true, true_lt}
use Rattle.irs_breaks.specs.Pairing.{At, row_before}
use Rattle.irs_breaks.specs.Private.Blocks.{IsEarlier}
use Rattle.irs_breaks.specs.declared.dated.DatedRow.{DatedRow}

-- two days that pass the test are equal
pub eq_true : (a b : ℤ) → int_eq a b ≡ true → a ≡ b
eq_true a b h = (Decides-int_eq a b).0 h

-- two equal days pass the test
pub true_eq : (a b : ℤ) → a ≡ b → int_eq a b ≡ true
true_eq a b h = (Decides-int_eq a b).1 h

-- where some row passes a test, there is a place with a row that does
pub any_true : {X : Type 0} (p : X → Bool) (xs : List X) → list_any p xs ≡ true
    → (k : ℕ) × (x : X) × At xs k x × (p x ≡ true)
any_true p [] h = absurd (cc)
any_true p (x ∷ xs) h = elim (or_cases (p x) (list_any p xs) h) [
  | inl here ↦ (zero, x, refl, here)
  | inr there ↦ let rest = any_true p xs there in (suc rest.0, rest.1, rest.2, rest.3)
]

or_either : (a b : Bool) → (a ≡ true) ⊎ (b ≡ true) → (a || b) ≡ true
or_either true b h = refl
or_either false b (inl h) = absurd (cc)
or_either false b (inr h) = h

-- where the row at a place passes a test, some row passes
pub any_at : {X : Type 0} (p : X → Bool) (xs : List X) (k : ℕ) (x : X) → At xs k x → p x ≡ true → list_any p xs ≡ true
any_at p [] k x at h = absurd (none-some x at)
any_at p (y ∷ ys) zero x at h = or_either (p y) _ (inl (subst (λ z. p z ≡ true) (sym (same_Some y x at)) h))
any_at p (y ∷ ys) (suc k) x at h = or_either (p y) _ (inr (any_at p ys k x at h))

-- the first row adds one to the count where it passes
pub counted : {X : Type 0} (p : X → Bool) (x : X) (xs : List X) → count_by p (x ∷ xs) ≡ cond (p x) 1 0 + count_by p xs
counted p x xs = sum_by-cons (λ z. cond (p z) 1 0) x xs

-- a first row that passes adds one to the count
pub counted_one : {X : Type 0} (p : X → Bool) (x : X) (xs : List X) → p x ≡ true
    → count_by p (x ∷ xs) ≡ 1 + count_by p xs
counted_one p x xs h = counted p x xs ∙ ap (λ (b : Bool). cond b 1 0 + count_by p xs) h

-- a first row that fails adds nothing to the count
pub counted_none : {X : Type 0} (p : X → Bool) (x : X) (xs : List X) → p x ≡ false → count_by p (x ∷ xs) ≡ count_by p xs
counted_none p x xs h =
    let e : count_by p (x ∷ xs) ≡ 0 + count_by p xs =
    counted p x xs ∙ ap (λ (b : Bool). cond b 1 0 + count_by p xs) h in omega (arith, e)

-- where exactly the rows between two places pass, that is how many pass
pub count_range : {X : Type 0} (p : X → Bool) (xs : List X) (lo hi : ℕ) → lo ≤ hi → hi ≤ length xs
    → ((k : ℕ) (x : X) → At xs k x → lo ≤ k → k < hi → p x ≡ true)
    → ((k : ℕ) (x : X) → At xs k x → k < lo → p x ≡ false)
    → ((k : ℕ) (x : X) → At xs k x → hi ≤ k → p x ≡ false) → count_by p xs ≡ hi - lo
count_range p [] lo hi order high inside below above = omega (arith, order, high)
count_range p (x ∷ xs) zero zero order high inside below above =
    counted_none p x xs (above zero x refl (omega arith))
    ∙ count_range p xs zero zero (omega arith) (omega arith) (λ k y at l h. absurd (omega (arith, h)))
    (λ k y at h. absurd (omega (arith, h))) (λ k y at h. above (suc k) y at (omega arith))
count_range p (x ∷ xs) zero (suc hi) order high inside below above =
    let e = counted_one p x xs (inside zero x refl (omega arith) (omega arith)) in
    let rest = count_range p xs zero hi (omega arith) (omega (arith, high))
    (λ k y at l h. inside (suc k) y at (omega arith) (omega (arith, h)))
    (λ k y at h. absurd (omega (arith, h))) (λ k y at h. above (suc k) y at (omega (arith, h))) in
    omega (arith, e, rest)
count_range p (x ∷ xs) (suc lo) zero order high inside below above = absurd (omega (arith, order))
count_range p (x ∷ xs) (suc lo) (suc hi) order high inside below above =
    let e = counted_none p x xs (below zero x refl (omega arith)) in
    let rest = count_range p xs lo hi (omega (arith, order)) (omega (arith, high))
    (λ k y at l h. inside (suc k) y at (omega (arith, l)) (omega (arith, h)))
    (λ k y at h. below (suc k) y at (omega (arith, h))) (λ k y at h. above (suc k) y at (omega (arith, h))) in
    omega (arith, e, rest)

-- ---- the order of rows

-- a row that passes the test comes before the other
pub before_true : (x y : DatedRow) → row_before x y ≡ true → IsEarlier x y
before_true x y h = elim (or_cases (is_lt (int_cmp x.day y.day)) (int_eq x.day y.day && nat_lt x.place y.place) h) [
  | inl day ↦ inl (lt_true x.day y.day day)
  | inr same ↦
      let both = and_parts (int_eq x.day y.day) (nat_lt x.place y.place) same in
      inr (eq_true x.day y.day both.0, ltb-true x.place y.place both.1)
]

and_both : (a b : Bool) → a ≡ true → b ≡ true → (a && b) ≡ true
and_both a b h k = rw h k

-- a row that comes before another passes the test
pub true_before : (x y : DatedRow) → IsEarlier x y → row_before x y ≡ true
true_before x y (inl day) = or_either _ _ (inl (true_lt x.day y.day day))
true_before x y (inr same) =
    or_either _ _ (inr (and_both _ _ (true_eq x.day y.day same.0) (lt-ltb x.place y.place same.1)))

-- two rows do not each come before the other
pub not_both_ways : (x y : DatedRow) → IsEarlier x y → IsEarlier y x → ⊥
not_both_ways x y (inl a) (inl b) = omega (arith, signed_arith, a, b)
not_both_ways x y (inl a) (inr b) = let e = b.0 in omega (arith, signed_arith, a, e)
not_both_ways x y (inr a) (inl b) = let e = a.0 in omega (arith, signed_arith, e, b)
not_both_ways x y (inr a) (inr b) = let e = a.1 in let f = b.1 in omega (arith, e, f)

-- no row comes before itself
pub not_itself_before : (x : DatedRow) → ¬ (IsEarlier x x)
not_itself_before x h = not_both_ways x x h h

-- a row that doesn't come before another fails the test
pub before_false : (x y : DatedRow) → (¬ (IsEarlier x y)) → row_before x y ≡ false
before_false x y h = elim (cases_Bool (row_before x y)) [
  | inl holds ↦ absurd (h (before_true x y holds))
  | inr fails ↦ fails
]

-- a row fails the test against itself
pub not_itself : (x : DatedRow) → row_before x x ≡ false
not_itself x = before_false x x (not_itself_before x)

-- ---- one row at a place

-- a list has one member at a place
pub one_at : {X : Type 0} (xs : List X) (k : ℕ) (x y : X) → At xs k x → At xs k y → x ≡ y
one_at xs k x y a b = same_Some x y (sym a ∙ b)
