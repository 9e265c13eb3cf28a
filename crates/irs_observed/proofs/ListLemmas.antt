-- Rising lists of days by their places.
use Rattle.std.proofs.Common.{◌≡◌, inl, inr, ℕ, zero, suc, ◌<◌, List, [], ◌∷◌, length, ℤ, ◌<ℤ◌, refl, arith}
use Rattle.jiff_core.proofs.SignedLemmas.{signed_arith}
use Rattle.irs_base.specs.Lists.{IsRising, Member, day_at}
use Rattle.irs_base.proofs.Rising.{member_after}
use Rattle.irs_observed.specs.Observations.{member_or_end}

-- the day at a place is one of the list
pub at_member : (u : List ℤ) (k : ℕ) → k < length u → Member (day_at u k) u
at_member [] k h = absurd (omega (arith, h))
at_member (x ∷ xs) zero h = inl refl
at_member (x ∷ xs) (suc k) h = inr (at_member xs k (omega (arith, h)))

-- each day of the list has a place
pub member_place : (d : ℤ) (u : List ℤ) → Member d u → (k : ℕ) × (k < length u) × (d ≡ day_at u k)
member_place d [] m = absurd m
member_place d (x ∷ xs) (inl here) = (0, omega arith, here)
member_place d (x ∷ xs) (inr there) = let rest = member_place d xs there in (suc rest.0, omega (arith, rest.1), rest.2)

-- before the end its day is that of the place
pub at_or_end : (u : List ℤ) (b : ℤ) (k : ℕ) → k < length u → member_or_end u b k ≡ day_at u k
at_or_end [] b k h = absurd (omega (arith, h))
at_or_end (x ∷ xs) b zero h = refl
at_or_end (x ∷ xs) b (suc k) h = at_or_end xs b k (omega (arith, h))

-- after the last place it is the end
pub past_end : (u : List ℤ) (b : ℤ) → member_or_end u b (length u) ≡ b
past_end [] b = refl
past_end (x ∷ xs) b = past_end xs b

-- each day comes before the next one, or before the end
pub rises_to : (u : List ℤ) (b : ℤ) (k : ℕ) → IsRising u → ((d : ℤ) → Member d u → d <ℤ b) → k < length u
    → day_at u k <ℤ member_or_end u b (suc k)
rises_to [] b k rising below h = absurd (omega (arith, h))
rises_to (x ∷ []) b zero rising below h = below x (inl refl)
rises_to (x ∷ y ∷ ys) b zero rising below h = rising.0.0
rises_to (x ∷ xs) b (suc k) rising below h =
    rises_to xs b k rising.1 (λ d m. below d (inr m)) (omega (arith, h))

-- no day of the list lies between two neighbours
pub none_between : (u : List ℤ) (k : ℕ) (d : ℤ) → IsRising u → suc k < length u → day_at u k <ℤ d
    → d <ℤ day_at u (suc k) → Member d u → ⊥
none_between [] k d rising h low high m = absurd (omega (arith, h))
none_between (x ∷ []) k d rising h low high m = absurd (omega (arith, h))
none_between (x ∷ y ∷ ys) zero d rising h low high (inl here) = omega (arith, signed_arith, low, here)
none_between (x ∷ y ∷ ys) zero d rising h low high (inr (inl here)) = omega (arith, signed_arith, high, here)
none_between (x ∷ y ∷ ys) zero d rising h low high (inr (inr there)) =
    let later = member_after y d ys rising.1.0 there in
    omega (arith, signed_arith, high, later)
none_between (x ∷ y ∷ ys) (suc k) d rising h low high (inl here) =
    let later = member_after x (day_at (y ∷ ys) k) (y ∷ ys) rising.0 (at_member (y ∷ ys) k (omega (arith, h))) in
    omega (arith, signed_arith, low, here, later)
none_between (x ∷ y ∷ ys) (suc k) d rising h low high (inr there) =
    none_between (y ∷ ys) k d rising.1 (omega (arith, h)) low high there

-- the first day comes before every other
pub first_lowest : (u : List ℤ) (k : ℕ) → IsRising u → suc k < length u → day_at u 0 <ℤ day_at u (suc k)
first_lowest [] k rising h = absurd (omega (arith, h))
first_lowest (x ∷ xs) k rising h = member_after x (day_at xs k) xs rising.0 (at_member xs k (omega (arith, h)))
