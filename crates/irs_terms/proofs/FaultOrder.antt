-- The orders of broken rules: there is one first, and where none comes first none is broken.
use Rattle.std.proofs.Common.{◌≡◌, ℕ}
use Rattle.irs_base.specs.Outcomes.{First}
use Rattle.irs_terms.specs.Faults.{rule_number, fault_at, turn, is_before, is_before_in, comes_before}
use Rattle.irs_terms.specs.declared.places.Rule.{Rule}
use Rattle.irs_terms.specs.declared.places.Fault.{Fault}
use Rattle.irs_terms.specs.declared.places.Broken.{Broken}
use Rattle.irs_base.proofs.Firsts.{IsOrder, IsFounded, AreTied, level_order, rank_order, level_founded, rank_founded}
use Rattle.irs_base.proofs.Firsts.{tied, tied_last, one_first}
use Rattle.irs_terms.proofs.RuleNumbers.{same_rule}

-- ---- in a swap

-- a broken rule of a swap, from its rule, stream, element and index
abbrev whole : Rule → ℕ → ℕ → ℕ → Broken
whole r n e i = record { rule = r; place = record { stream = n; elem = e; index = i } }

same_whole : (r q : Rule) (n m e d i j : ℕ) → r ≡ q → n ≡ m → e ≡ d → i ≡ j → whole r n e i ≡ whole q m d j
same_whole r q n m e d i j a b c k = λ t. whole (a t) (b t) (c t) (k t)

-- two broken rules of which neither comes first are one
pub broken_ties : AreTied is_before
broken_ties f g p q =
    let streams = tied f.place.stream g.place.stream _ _ p q in
    let numbers = tied (rule_number f.rule) (rule_number g.rule) _ _ streams.1 streams.2 in
    let elements = tied f.place.elem g.place.elem _ _ numbers.1 numbers.2 in
    let index : f.place.index ≡ g.place.index = tied_last _ _ elements.1 elements.2 in
    same_whole f.rule g.rule _ _ _ _ _ _ (same_rule f.rule g.rule numbers.0) streams.0 elements.0 index

-- within its stream
pub broken_order_in : IsOrder is_before_in
broken_order_in =
    level_order (λ (f : Broken). rule_number f.rule) _
    (level_order (λ (f : Broken). f.place.elem) _ (rank_order (λ (f : Broken). f.place.index)))

-- the order of broken rules is an order
pub broken_order : IsOrder is_before
broken_order = level_order (λ (f : Broken). f.place.stream) _ broken_order_in

-- ---- in a part of a stream

same_fault : (r q : Rule) (e d i j : ℕ) → r ≡ q → e ≡ d → i ≡ j → fault_at r e i ≡ fault_at q d j
same_fault r q e d i j a b c = λ t. fault_at (a t) (b t) (c t)

-- two faults of which neither comes first are one
pub fault_ties : AreTied comes_before
fault_ties f g p q =
    let turns = tied (turn f.rule) (turn g.rule) _ _ p q in
    let numbers = tied (rule_number f.rule) (rule_number g.rule) _ _ turns.1 turns.2 in
    let elements = tied f.elem g.elem _ _ numbers.1 numbers.2 in
    let index : f.index ≡ g.index = tied_last _ _ elements.1 elements.2 in
    same_fault f.rule g.rule _ _ _ _ (same_rule f.rule g.rule numbers.0) elements.0 index

-- the order of faults is an order
pub fault_order : IsOrder comes_before
fault_order =
    level_order (λ (f : Fault). turn f.rule) _
    (level_order (λ (f : Fault). rule_number f.rule) _
    (level_order (λ (f : Fault). f.elem) _ (rank_order (λ (f : Fault). f.index))))

-- no faults come before one another without end
pub fault_founded : IsFounded comes_before
fault_founded =
    level_founded (λ (f : Fault). turn f.rule) _
    (level_founded (λ (f : Fault). rule_number f.rule) _
    (level_founded (λ (f : Fault). f.elem) _ (rank_founded (λ (f : Fault). f.index))))

-- at most one rule is the first that is broken
pub one_fault : (Breaks : Fault → Type 0) (f g : Fault) → First comes_before Breaks f
    → First comes_before Breaks g → f ≡ g
one_fault Breaks f g p q = one_first comes_before fault_ties Breaks f g p q

-- where none is the first, none is broken
pub none_broken : (Breaks : Fault → Type 0) → ((f : Fault) → First comes_before Breaks f → ⊥) → (f : Fault)
    → Breaks f → ⊥
none_broken Breaks no_first f h = fault_founded Breaks no_first f h
