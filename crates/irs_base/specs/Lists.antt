-- Lists: sets of days in order, and members that have numbers or partners.
use Rattle.std.specs.Prelude.{◌≡◌, ◌⊎◌, List, [], ◌∷◌, ℤ, ◌<ℤ◌, ◌≤ℤ◌, ℕ, ◌+◌, ◌-◌, ◌≤◌, Some, slice_get, slice_index_or}
use Rattle.std.specs.Prelude.{pos}
use Rattle.irs_base.specs.Days.{IsDay}

-- ---- sets of days, listed in order

-- the day is in the list
abbrev pub Member : ℤ → List ℤ → Type 0
Member d [] = ⊥
Member d (x ∷ xs) = (d ≡ x) ⊎ Member d xs

-- each day of the list is after this one
abbrev pub AllAfter : ℤ → List ℤ → Type 0
AllAfter d [] = Unit {0}
AllAfter d (x ∷ xs) = (d <ℤ x) × AllAfter d xs

-- each day is before all that follow
abbrev pub IsRising : List ℤ → Type 0
IsRising [] = Unit {0}
IsRising (x ∷ xs) = AllAfter x xs × IsRising xs

-- the strictly rising list that has exactly the members of P
pub record Lists (P : ℤ → Type 0) (b : List ℤ) : Type 0 where
  pub rising : IsRising b
  pub sound : (d : ℤ) → Member d b → P d
  pub complete : (d : ℤ) → P d → Member d b

-- the list rises strictly from the first day to the last, as the boundaries of a term do
pub record RunsFromTo (first last : ℤ) (days : List ℤ) : Type 0 where
  pub rising : IsRising days
  pub starts : Member first days
  pub ends : Member last days
  pub from : (d : ℤ) → Member d days → first ≤ℤ d
  pub to : (d : ℤ) → Member d days → d ≤ℤ last

-- ---- lists whose members have numbers or partners

-- the day at a place, counted from 0
abbrev pub day_at : List ℤ → ℕ → ℤ
day_at days i = slice_index_or days i (pos 0)

-- P holds of each member
abbrev pub Every : {X : Type 0} → (X → Type 0) → List X → Type 0
Every P [] = Unit {0}
Every P (x ∷ xs) = P x × Every P xs

-- P holds of each member and its number, the first number being n
abbrev pub EachNumbered : {X : Type 0} → (ℕ → X → Type 0) → ℕ → List X → Type 0
EachNumbered P n [] = Unit {0}
EachNumbered P n (x ∷ xs) = P n x × EachNumbered P (n + 1) xs

-- the members cover the numbers from `next` to `last` in order, each at least one of them: `from` and `to`
-- say which a member covers
abbrev pub CoverNumbers : {X : Type 0} → (X → ℕ) → (X → ℕ) → ℕ → List X → ℕ → Type 0
CoverNumbers from to next [] last = next ≡ last + 1
CoverNumbers from to next (x ∷ xs) last =
    (from x ≡ next) × (from x ≤ to x) × CoverNumbers from to (to x + 1) xs last

-- the lists are as long as each other, and R holds of the members at each place
abbrev pub Pairs : {X Y : Type 0} → (X → Y → Type 0) → List X → List Y → Type 0
Pairs R [] [] = Unit {0}
Pairs R [] (y ∷ ys) = ⊥
Pairs R (x ∷ xs) [] = ⊥
Pairs R (x ∷ xs) (y ∷ ys) = R x y × Pairs R xs ys

-- P holds of the member with that number, from 1
pub record HoldsOf {X : Type 0} (P : X → Type 0) (xs : List X) (number : ℕ) : Type 0 where
  pub from_one : 1 ≤ number
  pub member : X
  pub at : slice_get xs (number - 1) ≡ Some member
  pub holds : P member

-- ---- lists of days

-- each member is a day
abbrev pub AreDays : List ℤ → Type 0
AreDays [] = Unit {0}
AreDays (x ∷ xs) = IsDay x × AreDays xs
