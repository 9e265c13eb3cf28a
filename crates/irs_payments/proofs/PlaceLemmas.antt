-- Places in rising lists of days.
use Rattle.std.proofs.Common.{◌≡◌, ◌⊎◌, inl, inr, ℕ, zero, suc, ◌<◌, ◌≤◌, List, [], ◌∷◌, length, ℤ, pos, ◌+ℤ◌, ◌<ℤ◌}
use Rattle.std.proofs.Common.{◌≤ℤ◌, refl, sym, subst, arith}
use Rattle.std.proofs.lemmas.Bool.{cases_lt}
use Rattle.jiff_core.proofs.SignedLemmas.{signed_arith}
use Rattle.irs_base.specs.Days.{IsDay, all_days, last_day}
use Rattle.irs_base.specs.Lists.{AreDays, Member, AllAfter, IsRising, day_at}
use Rattle.irs_base.proofs.Rising.{member_after}

-- the element at a place of the list is a member
pub member_at : (xs : List ℤ) (i : ℕ) → i < length xs → Member (day_at xs i) xs
member_at [] i h = absurd (omega arith)
member_at (x ∷ xs) zero h = inl refl
member_at (x ∷ xs) (suc i) h = inr (member_at xs i (omega arith))

-- a member has a place
pub place_of : (d : ℤ) (xs : List ℤ) → Member d xs → (i : ℕ) × (i < length xs) × (day_at xs i ≡ d)
place_of d [] m = absurd m
place_of d (x ∷ xs) (inl here) = (zero, omega arith, sym here)
place_of d (x ∷ xs) (inr there) = let p = place_of d xs there in (suc p.0, omega (arith, p.1), p.2)

-- days at later places are later
pub rises_at : (xs : List ℤ) (i k : ℕ) → IsRising xs → i < k → k < length xs → day_at xs i <ℤ day_at xs k
rises_at [] i k r l h = absurd (omega arith)
rises_at (x ∷ xs) i zero r l h = absurd (omega arith)
rises_at (x ∷ xs) zero (suc k) r l h = member_after x (day_at xs k) xs r.0 (member_at xs k (omega arith))
rises_at (x ∷ xs) (suc i) (suc k) r l h = rises_at xs i k r.1 (omega arith) (omega arith)

-- the later day has the later place
pub place_below : (xs : List ℤ) (i k : ℕ) → IsRising xs → i < length xs → day_at xs i <ℤ day_at xs k
    → i < k ⊎ length xs ≤ k
place_below xs i k r h l = elim (cases_lt i k) [
  | inl below ↦ inl below
  | inr above ↦ elim (cases_lt k i) [
    | inl less ↦ absurd (omega (arith, signed_arith, l, rises_at xs k i r less h))
    | inr more ↦ let same : k ≡ i = omega arith in
        absurd (omega (arith, signed_arith, subst (λ (z : ℕ). day_at xs i <ℤ day_at xs z) same l))
  ]
]

-- a day has one place
pub place_same : (xs : List ℤ) (i k : ℕ) → IsRising xs → i < length xs → k < length xs
    → day_at xs i ≡ day_at xs k → i ≡ k
place_same xs i k r h l e = elim (cases_lt i k) [
  | inl below ↦ absurd (omega (arith, signed_arith, e, rises_at xs i k r below l))
  | inr above ↦ elim (cases_lt k i) [
    | inl less ↦ absurd (omega (arith, signed_arith, e, rises_at xs k i r less h))
    | inr more ↦ omega arith
  ]
]

-- days of the range that rise are not many
module _ where
  few_after : (x : ℤ) (xs : List ℤ) → AllAfter x xs → IsRising xs → AreDays xs → IsDay x
      → (x +ℤ pos (length xs)) ≤ℤ last_day
  few_after x [] a r d h = omega (arith, signed_arith, h)
  few_after x (y ∷ ys) a r d h = omega (arith, signed_arith, a.0, few_after y ys r.0 r.1 d.1 d.0)

-- days that rise are at most the days of the range
pub few_days : (xs : List ℤ) → IsRising xs → AreDays xs → length xs ≤ all_days
few_days [] r d = omega arith
few_days (x ∷ xs) r d = omega (arith, signed_arith, few_after x xs r.0 r.1 d.1 d.0, d.0)
