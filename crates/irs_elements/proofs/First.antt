-- The first of a set of faults.
use Rattle.std.proofs.Common.{◌≡◌, ℕ, ◌<◌, ◌≤◌, ◌+◌, subst, ◌⊎◌, inl, inr, Option, Some, None}
use Rattle.std.proofs.Common.{refl, sym, arith}
use Rattle.std.proofs.Math.Nat.{eq-or-lt_of_le}
use Rattle.irs_terms.specs.declared.places.Broken.{Broken}
use Rattle.irs_terms.specs.Faults.{is_before, earlier_broken as earlier, IsFirstBroken as IsFirst}
use Rattle.irs_elements.specs.Private.Walk.{Any}
use Rattle.irs_terms.proofs.FaultOrder.{broken_order}
use Rattle.irs_base.proofs.Firsts.{first_or as either_first, first_same as same_first, first_one as alone_first}

-- the earlier of the first of two sets is the first of both
pub first_or : (P Q : Broken → Type 0) (a b : Option Broken) → IsFirst P a → IsFirst Q b
    → IsFirst (λ f. P f ⊎ Q f) (earlier a b)
first_or P Q a b p q = either_first is_before broken_order P Q a b p q

-- two sets of the same faults have the same first
pub first_same : (P Q : Broken → Type 0) (a : Option Broken) → ((f : Broken) → P f → Q f) → ((f : Broken) → Q f → P f)
    → IsFirst P a → IsFirst Q a
first_same P Q a to from p = same_first is_before P Q a to from p

-- one fault alone
pub first_one : (P : Broken → Type 0) (f : Broken) → P f → ((g : Broken) → P g → g ≡ f) → IsFirst P (Some f)
first_one P f p only = alone_first is_before broken_order P f p only

module _ (F : ℕ → Broken → Type 0) where
  -- the faults of the first n of a row of sets
  abbrev pub Below : ℕ → Broken → Type 0
  Below n f = (c : ℕ) × ((c < n) × F c f)

  split : (n : ℕ) (f : Broken) → Below (n + 1) f → Below n f ⊎ F n f
  split n f (c, (h, x)) = let le : c ≤ n = omega arith in
      elim (eq-or-lt_of_le le) [ inl e ↦ inr (subst (λ (m : ℕ). F m f) e x) | inr lt ↦ inl (c, (lt, x)) ]

  joined : (n : ℕ) (f : Broken) → Below n f ⊎ F n f → Below (n + 1) f
  joined n f (inl (c, (h, x))) = (c, (omega arith, x))
  joined n f (inr x) = (n, (omega arith, x))

  -- with one row more the first fault is the earlier of two
  pub first_more : (n : ℕ) (a b : Option Broken) → IsFirst (Below n) a → IsFirst (F n) b
      → IsFirst (Below (n + 1)) (earlier a b)
  first_more n a b p q = first_same _ _ _ (joined n) (split n) (first_or _ _ _ _ p q)

  -- where each is of the first n, the first of these is that of all
  pub first_all : (n : ℕ) (a : Option Broken) → ((c : ℕ) (f : Broken) → F c f → c < n) → IsFirst (Below n) a
      → IsFirst (Any F) a
  first_all n a before p = first_same _ _ a (λ f (c, (h, x)). (c, x)) (λ f (c, x). (c, (before c f x, x))) p

-- the same answer
pub first_is : (P : Broken → Type 0) (a b : Option Broken) → b ≡ a → IsFirst P a → IsFirst P b
first_is P a b e p = subst (λ (o : Option Broken). IsFirst P o) (sym e) p

-- nothing comes later than a fault
pub none_later : (a : Option Broken) → a ≡ earlier a None
none_later None = refl
none_later (Some f) = refl
