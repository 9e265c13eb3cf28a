-- What comes first in an order by levels: there is at most one first. The earlier of two firsts is the first of
-- both sets. Where nothing comes first there is nothing.
use Rattle.std.proofs.Common.{◌≡◌, ℕ, zero, suc, ◌<◌, Bool, true, false, true≢false, ◌⊎◌, inl, inr, Option, Some, None}
use Rattle.std.proofs.Common.{refl, sym, ◌∙◌, ap, arith}
use Rattle.std.specs.Prelude.{if◌then◌else◌, nat_lt}
use Rattle.std.proofs.lemmas.Bool.Decides.{nat_tests}
use Rattle.std.proofs.lemmas.Bool.{cases_order}
use Rattle.irs_base.specs.Outcomes.{First, IsFirst, earlier, level}

-- ---- levels

-- an order of two levels is transitive
pub level_trans : (a b c : ℕ) (s t u : Bool) → (s ≡ true → t ≡ true → u ≡ true) → level a b s ≡ true
    → level b c t ≡ true → level a c u ≡ true
level_trans a b c true true u h p q = let e : u ≡ true = h refl refl in rw e (grind (arith, nat_tests))
level_trans a b c true false u h p q = grind (arith, nat_tests)
level_trans a b c false t u h p q = grind (arith, nat_tests)

-- of two in order the third comes after the one or before the other
pub level_split : (a b c : ℕ) (s t u : Bool) → (s ≡ true → t ≡ false → u ≡ true) → level a c s ≡ true
    → level a b t ≡ false → level b c u ≡ true
level_split a b c true false u h p q = let e : u ≡ true = h refl refl in rw e (grind (arith, nat_tests))
level_split a b c true true u h p q = grind (arith, nat_tests)
level_split a b c false t u h p q = grind (arith, nat_tests)

-- what doesn't come before by the next level doesn't come before by an equal one
pub level_same : (a b : ℕ) (t : Bool) → a ≡ b → t ≡ false → level a b t ≡ false
level_same a b t e f = rw f (grind (arith, nat_tests))

-- a later level comes later
pub level_later : (a b : ℕ) (t : Bool) → b < a → level a b t ≡ false
level_later a b true h = grind (arith, nat_tests)
level_later a b false h = grind (arith, nat_tests)

-- an earlier level comes earlier
pub level_earlier : (a b : ℕ) (t : Bool) → a < b → level a b t ≡ true
level_earlier a b true h = grind (arith, nat_tests)
level_earlier a b false h = grind (arith, nat_tests)

-- where neither level comes before the other they are the same, and neither does by the next
pub tied : (a b : ℕ) (t u : Bool) → level a b t ≡ false → level b a u ≡ false → (a ≡ b) × (t ≡ false) × (u ≡ false)
tied a b true true p q = absurd (grind (arith, nat_tests))
tied a b true false p q = absurd (grind (arith, nat_tests))
tied a b false true p q = absurd (grind (arith, nat_tests))
tied a b false false p q = (grind (arith, nat_tests), refl, refl)

-- two numbers of which neither is less are equal
pub tied_last : (a b : ℕ) → nat_lt a b ≡ false → nat_lt b a ≡ false → a ≡ b
tied_last a b p q = grind (arith, nat_tests)

-- the test finds that a number is not less
pub lt_false : (a b : ℕ) → (a < b → ⊥) → nat_lt a b ≡ false
lt_false a b h = elim (cases_order a b) [
  | inl same ↦ grind (arith, nat_tests)
  | inr (inl less) ↦ absurd (h less)
  | inr (inr more) ↦ grind (arith, nat_tests)
]

-- where the test fails the number is not less
pub false_lt : (a b : ℕ) → nat_lt a b ≡ false → a < b → ⊥
false_lt a b e h = grind (arith, nat_tests)

-- ---- orders

-- nothing comes before itself, and what doesn't come before is passed on
pub record IsOrder {X : Type 0} (before : X → X → Bool) : Type 0 where
  pub itself : (f : X) → before f f ≡ false
  pub trans : (h g f : X) → before h g ≡ true → before g f ≡ true → before h f ≡ true
  pub split : (h g f : X) → before h f ≡ true → before h g ≡ false → before g f ≡ true

-- ranks order what has them
pub rank_order : {X : Type 0} (rank : X → ℕ) → IsOrder (λ (f g : X). nat_lt (rank f) (rank g))
rank_order rank = record {
  itself = λ f. grind (arith, nat_tests);
  trans = λ h g f p q. grind (arith, nat_tests);
  split = λ h g f p q. grind (arith, nat_tests);
}

-- ranks and an order below them are an order
pub level_order : {X : Type 0} (rank : X → ℕ) (next : X → X → Bool) → IsOrder next
    → IsOrder (λ (f g : X). level (rank f) (rank g) (next f g))
level_order rank next order = record {
  itself = λ f. level_same (rank f) (rank f) (next f f) refl (order.itself f);
  trans = λ h g f p q. level_trans (rank h) (rank g) (rank f) (next h g) (next g f) (next h f) (order.trans h g f) p q;
  split = λ h g f p q. level_split (rank h) (rank g) (rank f) (next h f) (next h g) (next g f) (order.split h g f) p q;
}

-- ---- firsts

not_before : (b : Bool) → (b ≡ true → ⊥) → b ≡ false
not_before true never = absurd (never refl)
not_before false never = refl

module _ {X : Type 0} (before : X → X → Bool) (order : IsOrder before) where
  -- what is not before f is not before one that is
  pub after_earlier : (h g f : X) → before h f ≡ false → before g f ≡ true → before h g ≡ false
  after_earlier h g f p q = not_before (before h g) (λ e. true≢false (sym (order.trans h g f e q) ∙ p))

  -- what is not before g is not before one that g is not before
  pub after_kept : (h g f : X) → before h g ≡ false → before g f ≡ false → before h f ≡ false
  after_kept h g f p q = not_before (before h f) (λ e. true≢false (sym (order.split h g f e p) ∙ q))

  chosen : (P Q : X → Type 0) (f g : X) (b : Bool) → before g f ≡ b → First before P f → First before Q g
      → IsFirst before (λ h. P h ⊎ Q h) (if b then Some g else Some f)
  chosen P Q f g true e p q = (inr q.0, λ h x. elim x [ inl y ↦ after_earlier h g f (p.1 h y) e | inr y ↦ q.1 h y ])
  chosen P Q f g false e p q = (inl p.0, λ h x. elim x [ inl y ↦ p.1 h y | inr y ↦ after_kept h g f (q.1 h y) e ])

  -- the earlier of the firsts of two sets is the first of both
  pub first_or : (P Q : X → Type 0) (a b : Option X) → IsFirst before P a → IsFirst before Q b
      → IsFirst before (λ f. P f ⊎ Q f) (earlier before a b)
  first_or P Q None None p q = λ f x. elim x [ inl y ↦ p f y | inr y ↦ q f y ]
  first_or P Q None (Some g) p q = (inr q.0, λ h x. elim x [ inl y ↦ absurd (p h y) | inr y ↦ q.1 h y ])
  first_or P Q (Some f) None p q = (inl p.0, λ h x. elim x [ inl y ↦ p.1 h y | inr y ↦ absurd (q h y) ])
  first_or P Q (Some f) (Some g) p q = chosen P Q f g (before g f) refl p q

  -- one alone is the first
  pub first_one : (P : X → Type 0) (f : X) → P f → ((g : X) → P g → g ≡ f) → First before P f
  first_one P f p only = (p, λ g y. let e : g ≡ f = only g y in rw e (order.itself f))

-- two sets of the same have the same first
pub first_same : {X : Type 0} (before : X → X → Bool) (P Q : X → Type 0) (a : Option X) → ((f : X) → P f → Q f)
    → ((f : X) → Q f → P f) → IsFirst before P a → IsFirst before Q a
first_same before P Q None to from p = λ f y. p f (from f y)
first_same before P Q (Some f) to from p = (to f p.0, λ g y. p.1 g (from g y))

-- where none comes before the other they are the same
abbrev pub AreTied : {X : Type 0} → (X → X → Bool) → Type 0
AreTied {X} before = (f g : X) → before f g ≡ false → before g f ≡ false → f ≡ g

-- so there is one first
pub one_first : {X : Type 0} (before : X → X → Bool) → AreTied before → (P : X → Type 0) (f g : X) → First before P f
    → First before P g → f ≡ g
one_first before ties P f g p q = ties f g (q.1 f p.0) (p.1 g q.0)

-- and one answer
pub one_answer : {X : Type 0} (before : X → X → Bool) → AreTied before → (P : X → Type 0) (a b : Option X)
    → IsFirst before P a → IsFirst before P b → a ≡ b
one_answer before ties P None None p q = refl
one_answer before ties P None (Some g) p q = absurd (p g q.0)
one_answer before ties P (Some f) None p q = absurd (q f p.0)
one_answer before ties P (Some f) (Some g) p q = ap (λ (x : _). Some x) (one_first before ties P f g p q)

-- ---- no first, and none at all

-- no x is the lowest with P
abbrev pub NoLowest : {X : Type 0} → (X → ℕ) → (X → Type 0) → Type 0
NoLowest {X} rank P = (x : X) → P x → ((y : X) → rank y < rank x → P y → ⊥) → ⊥

none_below : {X : Type 0} (rank : X → ℕ) (P : X → Type 0) → NoLowest rank P → (n : ℕ) (x : X) → rank x < n → P x → ⊥
none_below rank P no_lowest zero x below holds = omega (arith, below)
none_below rank P no_lowest (suc n) x below holds =
    no_lowest x holds (λ y lower h. none_below rank P no_lowest n y (omega (arith, below, lower)) h)

-- where no x is the lowest with P there is none
pub none_by_rank : {X : Type 0} (rank : X → ℕ) (P : X → Type 0) → NoLowest rank P → (x : X) → P x → ⊥
none_by_rank rank P no_lowest x holds = none_below rank P no_lowest (suc (rank x)) x (omega arith) holds

-- where nothing with P comes first there is none, for every P
abbrev pub IsFounded : {X : Type 0} → (X → X → Bool) → Type 1
IsFounded {X} before = (P : X → Type 0) → ((x : X) → First before P x → ⊥) → (x : X) → P x → ⊥

-- ranks fall no further than 0
pub rank_founded : {X : Type 0} (rank : X → ℕ) → IsFounded (λ (f g : X). nat_lt (rank f) (rank g))
rank_founded rank P no_first =
    none_by_rank rank P (λ x h lower. no_first x (h, λ y p. lt_false (rank y) (rank x) (λ less. lower y less p)))

-- an order of two levels has no endless fall if its lower level has none
pub level_founded : {X : Type 0} (rank : X → ℕ) (next : X → X → Bool) → IsFounded next
    → IsFounded (λ (f g : X). level (rank f) (rank g) (next f g))
level_founded {X} rank next founded P no_first = none_by_rank rank P (λ x h lower.
    founded (λ (y : X). P y × (rank y ≡ rank x)) (λ y first. no_first y (
      first.0.0,
      λ z p. elim (cases_order (rank z) (rank y)) [
        | inl same ↦ level_same (rank z) (rank y) (next z y) same (first.1 z (p, same ∙ first.0.1))
        | inr (inl less) ↦ absurd (let e = first.0.1 in lower z (omega (arith, less, e)) p)
        | inr (inr more) ↦ level_later (rank z) (rank y) (next z y) more
      ],
    )) x (h, refl))
