-- The first rule of those that a stream breaks.
use Rattle.std.proofs.Common.{◌≡◌, ℕ, ◌+◌, ◌<◌, Bool, false, ◌⊎◌, Option, Some, None, refl, sym, subst, arith}
use Rattle.std.specs.Prelude.{◌↔◌, IsTrue, nat_lt}
use Rattle.irs_terms.specs.declared.places.Rule.{Rule}
use Rattle.irs_terms.specs.declared.places.Fault.{Fault}
use Rattle.irs_base.specs.Outcomes.{earlier, level}
use Rattle.irs_terms.specs.Faults.{rule_number, fault_at}
use Rattle.irs_base.proofs.Firsts.{IsOrder, rank_order, level_order, level_same, lt_false, first_or, first_same}
use Rattle.irs_rules.specs.Private.TermsKept.{is_before_here, IsFirstHere}
use Rattle.irs_rules.specs.TermsRules.{Breaks, BreaksItem}

-- the order of one stream's broken rules is an order
pub order_here : IsOrder is_before_here
order_here =
    level_order (λ (f : Fault). rule_number f.rule) _
    (level_order (λ (f : Fault). f.elem) _ (rank_order (λ (f : Fault). f.index)))

-- the answer of `earlier` is the first of both sets
pub either : (P Q : Fault → Type 0) (a b r : Option Fault) → r ≡ earlier is_before_here a b → IsFirstHere P a
    → IsFirstHere Q b → IsFirstHere (λ f. P f ⊎ Q f) r
either P Q a b r e p q =
    subst (λ (o : Option Fault). IsFirstHere (λ f. P f ⊎ Q f) o) (sym e)
    (first_or is_before_here order_here P Q a b p q)

-- a test of an element that says what the definition says
pub says : (rule : Rule) (elem : ℕ) (Kept : Type 0) (test : Bool) (a : Option Fault) → (IsTrue test ↔ Kept)
    → IsFirstHere (Breaks rule elem (IsTrue test)) a → IsFirstHere (Breaks rule elem Kept) a
says rule elem Kept test a same p = first_same is_before_here (Breaks rule elem (IsTrue test)) (Breaks rule elem Kept) a
    (λ f x. record { place = x.place; broken = λ kept. x.broken (same.1 kept) })
    (λ f x. record { place = x.place; broken = λ test. x.broken (same.0 test) }) p

-- where something is kept the rule isn't broken
pub keeps : (rule : Rule) (elem : ℕ) (Kept : Type 0) → Kept → IsFirstHere (Breaks rule elem Kept) None
keeps rule elem Kept kept = λ f x. x.broken kept

later : (rule : Rule) (elem i j : ℕ) → (j < i → ⊥)
    → is_before_here (fault_at rule elem (j + 1)) (fault_at rule elem (i + 1)) ≡ false
later rule elem i j h =
    let index : nat_lt (j + 1) (i + 1) ≡ false = lt_false (j + 1) (i + 1) (λ less. h (omega (arith, less))) in
    level_same (rule_number rule) (rule_number rule) (level elem elem (nat_lt (j + 1) (i + 1))) refl
    (level_same elem elem (nat_lt (j + 1) (i + 1)) refl index)

-- the item doesn't keep it, and each before it does
pub item_first : (rule : Rule) (elem : ℕ) (Kept : ℕ → Type 0) (i : ℕ) → (Kept i → ⊥) → ((k : ℕ) → k < i → Kept k)
    → IsFirstHere (BreaksItem rule elem Kept) (Some (fault_at rule elem (i + 1)))
item_first rule elem Kept i broken before = (
  record { item = i; place = refl; broken = broken },
  λ g y. subst (λ (h : Fault). is_before_here h (fault_at rule elem (i + 1)) ≡ false) (sym y.place)
      (later rule elem i y.item (λ h. y.broken (before y.item h))),
)

-- every item keeps it
pub no_item : (rule : Rule) (elem : ℕ) (Kept : ℕ → Type 0) → ((k : ℕ) → Kept k)
    → IsFirstHere (BreaksItem rule elem Kept) None
no_item rule elem Kept kept = λ f y. y.broken (kept y.item)
