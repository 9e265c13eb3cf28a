-- Rising lists of days.
use Rattle.std.proofs.Common.{◌≡◌, ◌⊎◌, inl, inr, ⊎_elim, ◌≤◌, List, [], ◌∷◌, ◌++◌, length, ℤ, ◌<ℤ◌, refl, sym, ap₂}
use Rattle.std.proofs.Common.{subst, ◌∙◌, arith}
use Rattle.jiff_core.proofs.SignedLemmas.{signed_arith}
use Rattle.irs_base.specs.Lists.{Member, AllAfter, IsRising}

-- no number is less than itself
pub not_itself : (x : ℤ) → ¬ (x <ℤ x)
not_itself x h = omega (arith, signed_arith)

-- a member of a list is after what all of the list is after
pub member_after : (x d : ℤ) (xs : List ℤ) → AllAfter x xs → Member d xs → x <ℤ d
member_after x d [] after m = absurd m
member_after x d (y ∷ ys) after (inl here) = subst (λ z. x <ℤ z) (sym here) after.0
member_after x d (y ∷ ys) after (inr there) = member_after x d ys after.1 there

-- a day of a list is one of the list with one more
pub member_old : (d y : ℤ) (xs : List ℤ) → Member d xs → Member d (xs ++ y ∷ [])
member_old d y [] m = absurd m
member_old d y (x ∷ xs) (inl here) = inl here
member_old d y (x ∷ xs) (inr there) = inr (member_old d y xs there)

-- the day that is added is in the list
pub member_new : (y : ℤ) (xs : List ℤ) → Member y (xs ++ y ∷ [])
member_new y [] = inl refl
member_new y (x ∷ xs) = inr (member_new y xs)

-- a day of a list with one more is in the list or the one more
pub member_cases : (d y : ℤ) (xs : List ℤ) → Member d (xs ++ y ∷ []) → Member d xs ⊎ (d ≡ y)
member_cases d y [] (inl here) = inr here
member_cases d y [] (inr none) = absurd none
member_cases d y (x ∷ xs) (inl here) = inl (inl here)
member_cases d y (x ∷ xs) (inr there) = ⊎_elim (λ old. inl (inr old)) (λ new. inr new) (member_cases d y xs there)

after_push : (x y : ℤ) (xs : List ℤ) → AllAfter x xs → x <ℤ y → AllAfter x (xs ++ y ∷ [])
after_push x y [] after h = (h, tt)
after_push x y (z ∷ zs) after h = (after.0, after_push x y zs after.1 h)

-- a rising list with a later day rises
pub rising_push : (y : ℤ) (xs : List ℤ) → IsRising xs → ((d : ℤ) → Member d xs → d <ℤ y) → IsRising (xs ++ y ∷ [])
rising_push y [] rising below = (tt, tt)
rising_push y (x ∷ xs) rising below =
    (after_push x y xs rising.0 (below x (inl refl)), rising_push y xs rising.1 (λ d m. below d (inr m)))

-- a day of both that is not the first of one comes after it
behind : (x y d : ℤ) (ys : List ℤ) → x <ℤ d → x ≡ y → Member d (y ∷ ys) → Member d ys
behind x y d ys later same (inl here) = absurd (not_itself x (subst (λ z. x <ℤ z) (here ∙ sym same) later))
behind x y d ys later same (inr there) = there

first_same : (x y : ℤ) (xs ys : List ℤ) → IsRising (x ∷ xs) → IsRising (y ∷ ys) → Member x (y ∷ ys)
    → Member y (x ∷ xs) → x ≡ y
first_same x y xs ys rx ry (inl here) n = here
first_same x y xs ys rx ry (inr there) (inl here) = sym here
first_same x y xs ys rx ry (inr there) (inr other) =
    let a = member_after y x ys ry.0 there in
    let b = member_after x y xs rx.0 other in
    absurd (omega (arith, signed_arith, a, b))

-- rising lists with the same members are one
pub one_rising : (a b : List ℤ) → IsRising a → IsRising b → ((d : ℤ) → Member d a → Member d b)
    → ((d : ℤ) → Member d b → Member d a) → a ≡ b
one_rising [] [] ra rb there back = refl
one_rising [] (y ∷ ys) ra rb there back = absurd (back y (inl refl))
one_rising (x ∷ xs) [] ra rb there back = absurd (there x (inl refl))
one_rising (x ∷ xs) (y ∷ ys) ra rb there back =
    let same = first_same x y xs ys ra rb (there x (inl refl)) (back y (inl refl)) in
    ap₂ ◌∷◌ same (one_rising xs ys ra.1 rb.1
    (λ d m. behind x y d ys (member_after x d xs ra.0 m) same (there d (inr m)))
    (λ d m. behind y x d xs (member_after y d ys rb.0 m) (sym same) (back d (inr m))))

-- a rising list has at most as many members as one that has them all
pub no_longer : (xs b : List ℤ) → IsRising xs → IsRising b → ((d : ℤ) → Member d xs → Member d b) → length xs ≤ length b
no_longer [] b rx rb all = omega arith
no_longer (x ∷ xs) [] rx rb all = absurd (all x (inl refl))
no_longer (x ∷ xs) (y ∷ ys) rx rb all = elim (all x (inl refl)) [
  | inl here ↦ let rest =
      no_longer xs ys rx.1 rb.1 (λ d m. behind x y d ys (member_after x d xs rx.0 m) here (all d (inr m))) in
      omega (arith, rest)
  | inr there ↦
      let later = member_after y x ys rb.0 there in
      let rest = no_longer (x ∷ xs) ys rx rb.1
      (λ d m. behind y y d ys (after_first x y d xs rx later m) refl (all d m)) in
      omega (arith, rest)
]
  where
    after_first : (x y d : ℤ) (xs : List ℤ) → IsRising (x ∷ xs) → y <ℤ x → Member d (x ∷ xs) → y <ℤ d
    after_first x y d xs rising later (inl here) = subst (λ z. y <ℤ z) (sym here) later
    after_first x y d xs rising later (inr there) = let a = member_after x d xs rising.0 there in
        omega (arith, signed_arith, a, later)
