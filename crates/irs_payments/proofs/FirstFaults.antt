-- The first of the faults of two sets, and which of two faults comes before the other.
use Rattle.std.proofs.Common.{◌≡◌, ◌⊎◌, inl, inr, ℕ, ◌<◌, false, Result, Ok, Err, refl}
use Rattle.irs_base.specs.Outcomes.{First, MeetsExactly, unbroken}
use Rattle.irs_terms.specs.Faults.{rule_number, fault_at, comes_before, turn}
use Rattle.irs_terms.specs.declared.places.Rule.{Rule}
use Rattle.irs_terms.specs.declared.places.Fault.{Fault}
use Rattle.irs_base.proofs.Firsts.{level_same, level_later, lt_false}

-- a fault is the first of these, or there is none
abbrev pub FirstOrNone : (Fault → Type 0) → Type 0
FirstOrNone P = ((f : Fault) × First comes_before P f) ⊎ ((f : Fault) → P f → ⊥)

-- the first fault of one kind is the first of two kinds, where none of the other comes before it
pub first_left : (P Q : Fault → Type 0) (f : Fault) → First comes_before P f
    → ((g : Fault) → Q g → comes_before g f ≡ false) → First comes_before (λ g. P g ⊎ Q g) f
first_left P Q f h late = (inl h.0, λ g either. elim either [ inl p ↦ h.1 g p | inr q ↦ late g q ])

-- where there is none of the one kind, the first of the other is the first of both
pub first_right : (P Q : Fault → Type 0) (f : Fault) → ((g : Fault) → P g → ⊥) → First comes_before Q f
    → First comes_before (λ g. P g ⊎ Q g) f
first_right P Q f none h = (inr h.0, λ g either. elim either [ inl p ↦ absurd (none g p) | inr q ↦ h.1 g q ])

-- where there is none of either kind, there is none of both
pub none_of_both : (P Q : Fault → Type 0) → ((g : Fault) → P g → ⊥) → ((g : Fault) → Q g → ⊥) → (g : Fault)
    → P g ⊎ Q g → ⊥
none_of_both P Q p q g either = elim either [ inl h ↦ p g h | inr h ↦ q g h ]

-- where the second set has nothing before the first, both together have a first or none
pub first_of_both : (P Q : Fault → Type 0) → ((f g : Fault) → P f → Q g → comes_before g f ≡ false) → FirstOrNone P
    → FirstOrNone Q → FirstOrNone (λ g. P g ⊎ Q g)
first_of_both P Q late (inl p) q = inl (p.0, first_left P Q p.0 p.1 (λ g h. late p.0 g p.1.0 h))
first_of_both P Q late (inr none) (inl q) = inl (q.0, first_right P Q q.0 none q.1)
first_of_both P Q late (inr none) (inr neither) = inr (none_of_both P Q none neither)

-- after a check that passed, the next one decides
pub next_checked : (P Q : Fault → Type 0) (r : Result (Unit {0}) Fault) → ((g : Fault) → P g → ⊥)
    → MeetsExactly (unbroken comes_before Q) r → MeetsExactly (unbroken comes_before (λ g. P g ⊎ Q g)) r
next_checked P Q (Ok v) none h = none_of_both P Q none h
next_checked P Q (Err f) none h = first_right P Q f none h

-- ---- which of two faults comes before the other

-- faults that are equal to these come in the same order
pub told : (f g x y : Fault) → f ≡ x → g ≡ y → comes_before y x ≡ false → comes_before g f ≡ false
told f g x y p q h = rw p (rw q h)

-- under one rule at one element the higher index doesn't come before
pub not_before_index : (rule : Rule) (e m n : ℕ) → (m < n → ⊥)
    → comes_before (fault_at rule e m) (fault_at rule e n) ≡ false
not_before_index rule e m n h =
    level_same (turn rule) (turn rule) _ refl
    (level_same (rule_number rule) (rule_number rule) _ refl (level_same e e _ refl (lt_false m n h)))

-- under one rule the later element doesn't come before
pub not_before_element : (rule : Rule) (e d m n : ℕ) → e < d
    → comes_before (fault_at rule d m) (fault_at rule e n) ≡ false
not_before_element rule e d m n h =
    level_same (turn rule) (turn rule) _ refl
    (level_same (rule_number rule) (rule_number rule) _ refl (level_later d e _ h))

-- in one turn the higher rule doesn't come before
pub not_before_rule : (r q : Rule) (e d m n : ℕ) → turn q ≡ turn r → rule_number r < rule_number q
    → comes_before (fault_at q d m) (fault_at r e n) ≡ false
not_before_rule r q e d m n same h =
    level_same (turn q) (turn r) _ same (level_later (rule_number q) (rule_number r) _ h)

-- the later turn doesn't come before
pub not_before_turn : (r q : Rule) (e d m n : ℕ) → turn r < turn q
    → comes_before (fault_at q d m) (fault_at r e n) ≡ false
not_before_turn r q e d m n h = level_later (turn q) (turn r) _ h
