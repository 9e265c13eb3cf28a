-- Observations one after another: what becomes of a number through them, and their rates and weights.
use Rattle.std.proofs.Common.{◌≡◌, ℕ, zero, suc, ◌+◌, ◌<◌, ◌≤◌, List, [], ◌∷◌, ◌++◌, length, take, Option, Some, None, IsSome}
use Rattle.std.proofs.Common.{ℤ, refl, sym, subst, ◌∙◌, ap, arith}
use Rattle.std.specs.Prelude.{get_or}
use Rattle.std.proofs.lemmas.List.{take_more, take_all}
use Rattle.irs_base.specs.Lists.{Every}
use Rattle.irs_observed.specs.ObservedRates.{AreKnown, DailyRates, Through}
use Rattle.irs_observed.specs.Observations.{total_weight}
use Rattle.irs_observed.specs.declared.observation.Observation.{Observation}

-- ---- steps

module _ (Step : Observation → ℤ → ℤ → Type 0) where
  through_push : (os : List Observation) (o : Observation) (f g h : ℤ) → Through Step os f g → Step o g h
      → Through Step (os ++ o ∷ []) f h
  through_push [] o f g h p by = (h, subst (λ (x : ℤ). Step o x h) p by, refl)
  through_push (x ∷ xs) o f g h p by = (p.0, p.1, through_push xs o p.0 g h p.2 by)

  -- through one observation more
  pub through_more : (os : List Observation) (k : ℕ) (o : Observation) (f g h : ℤ) → k < length os → get_or os k o ≡ o
      → Through Step (take k os) f g → Step o g h → Through Step (take (k + 1) os) f h
  through_more os k o f g h low is p by =
      let longer : take (k + 1) os ≡ take k os ++ o ∷ [] = take_more os k o low ∙ ap (λ z. take k os ++ z ∷ []) is in
      subst (λ (xs : List Observation). Through Step xs f h) (sym longer) (through_push (take k os) o f g h p by)

  -- through all of them
  pub through_all : (os : List Observation) (k : ℕ) (f g : ℤ) → length os ≤ k → Through Step (take k os) f g
      → Through Step os f g
  through_all os k f g all p = subst (λ (xs : List Observation). Through Step xs f g) (take_all k os all) p

  -- where a step gives one number all of them do
  pub one_through : ((o : Observation) (f g h : ℤ) → Step o f g → Step o f h → g ≡ h) → (os : List Observation)
      (f g h : ℤ) → Through Step os f g → Through Step os f h → g ≡ h
  one_through one [] f g h p q = p ∙ sym q
  one_through one (o ∷ os) f g h p q =
      let same = one o f p.0 q.0 p.1 q.1 in
      one_through one os q.0 g h (subst (λ (x : ℤ). Through Step os x g) same p.2) q.2

-- ---- rates

-- where each rate is there, that of a place is
pub known_at : (daily : DailyRates) (os : List Observation) (k : ℕ) (o : Observation) → AreKnown daily os → k < length os
    → get_or os k o ≡ o → IsSome (daily o.observed)
known_at daily [] k o known low is = absurd (omega (arith, low))
known_at daily (x ∷ xs) zero o known low is = subst (λ (y : Observation). IsSome (daily y.observed)) is known.0
known_at daily (x ∷ xs) (suc k) o known low is = known_at daily xs k o known.1 (omega (arith, low)) is

-- a place without a rate
pub absent_at : (daily : DailyRates) (os : List Observation) (k : ℕ) (o : Observation) → k < length os
    → get_or os k o ≡ o → daily o.observed ≡ None → AreKnown daily os → ⊥
absent_at daily os k o low is none known = nothing (daily o.observed) (known_at daily os k o known low is) none
  where
    nothing : (r : Option ℤ) → IsSome r → r ≡ None → ⊥
    nothing None some e = absurd (cc)
    nothing (Some x) some e = absurd (cc)

every_push : (P : Observation → Type 0) (os : List Observation) (o : Observation) → Every P os → P o
    → Every P (os ++ o ∷ [])
every_push P [] o each p = (p, tt)
every_push P (x ∷ xs) o each p = (each.0, every_push P xs o each.1 p)

-- what holds of the observations so far and of the next holds of them all
pub every_more : (P : Observation → Type 0) (os : List Observation) (k : ℕ) (o : Observation) → k < length os
    → get_or os k o ≡ o → Every P (take k os) → P o → Every P (take (k + 1) os)
every_more P os k o low is each p =
    let longer : take (k + 1) os ≡ take k os ++ o ∷ [] = take_more os k o low ∙ ap (λ z. take k os ++ z ∷ []) is in
    subst (λ (xs : List Observation). Every P xs) (sym longer) (every_push P (take k os) o each p)

-- the observations so far are all of them once the end is reached
pub every_all : (P : Observation → Type 0) (os : List Observation) (k : ℕ) → length os ≤ k → Every P (take k os)
    → Every P os
every_all P os k all each = subst (λ (xs : List Observation). Every P xs) (take_all k os all) each

-- ---- weights

total_push : (os : List Observation) (o : Observation) → total_weight (os ++ o ∷ []) ≡ total_weight os + o.weight
total_push [] o = omega arith
total_push (x ∷ xs) o = let rest = total_push xs o in omega (arith, rest)

-- the weight of a place comes to those before it
pub total_more : (os : List Observation) (k : ℕ) (o : Observation) → k < length os → get_or os k o ≡ o
    → total_weight (take (k + 1) os) ≡ total_weight (take k os) + o.weight
total_more os k o low is =
    let longer : take (k + 1) os ≡ take k os ++ o ∷ [] = take_more os k o low ∙ ap (λ z. take k os ++ z ∷ []) is in
    subst (λ (xs : List Observation). total_weight xs ≡ total_weight (take k os) + o.weight) (sym longer)
    (total_push (take k os) o)

-- the first weights are together at most all of them
pub total_first : (os : List Observation) (k : ℕ) → total_weight (take k os) ≤ total_weight os
total_first [] zero = omega arith
total_first [] (suc k) = omega arith
total_first (x ∷ xs) zero = omega arith
total_first (x ∷ xs) (suc k) = let rest = total_first xs k in omega (arith, rest)

-- the total so far is the whole total once the end is reached
pub total_all : (os : List Observation) (k : ℕ) → length os ≤ k → total_weight (take k os) ≡ total_weight os
total_all os k all = ap total_weight (take_all k os all)

-- no weight is above all of them
pub weight_at : (os : List Observation) (k : ℕ) (o : Observation) → k < length os → get_or os k o ≡ o
    → o.weight ≤ total_weight os
weight_at os k o low is =
    let more = total_more os k o low is in
    let first = total_first os (k + 1) in
    omega (arith, more, first)
