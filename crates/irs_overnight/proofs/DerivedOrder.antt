-- The order of the rules of daily compounding, and which of them is the first that is broken.
use Rattle.std.proofs.Common.{◌≡◌, inl, inr, ℕ, ◌<◌, Bool, true, false, Some, None, refl, sym, subst, ◌∙◌}
use Rattle.std.specs.Prelude.{nat_lt}
use Rattle.std.proofs.lemmas.Bool.{cases_order}
use Rattle.irs_base.specs.Outcomes.{First, level}
use Rattle.irs_terms.specs.Faults.{fault_at, rule_number}
use Rattle.irs_terms.specs.declared.places.Fault.{Fault}
use Rattle.irs_terms.specs.declared.places.Rule.{Rule}
use Rattle.irs_base.proofs.Firsts.{AreTied, false_lt, level_later, level_same, tied, tied_last}
use Rattle.irs_terms.proofs.RuleNumbers.{same_rule}
use Rattle.irs_resets.specs.Resets.{IsPeriod}
use Rattle.irs_overnight.specs.Overnight.{derived_period_at, BreaksBasis, BreaksDerived, BreaksPeriod, FixingNotAfter}
use Rattle.irs_overnight.specs.Overnight.{derived_before, derived_turn, no_basis, fixing_not_after_at, period_fault}
use Rattle.irs_overnight.specs.Overnight.{DerivedSource}
use Rattle.irs_overnight.specs.Observations.{DailyPeriod, PeriodFails, basis_of}
use Rattle.irs_overnight.specs.Private.Bounds.{FirstWay, NoneFails}
use Rattle.irs_overnight.specs.declared.periods.PeriodFault.{PeriodFault}
use Rattle.irs_overnight.specs.declared.periods.PeriodFault.TheVariants.{NoDays, OutOfRange}
use Rattle.irs_overnight.proofs.PeriodLemmas.{some_basis}

same_fault : (r q : Rule) (e d i j : ℕ) → r ≡ q → e ≡ d → i ≡ j → fault_at r e i ≡ fault_at q d j
same_fault r q e d i j a b c = λ t. fault_at (a t) (b t) (c t)

-- faults of derived rates that tie are equal
pub derived_ties : AreTied derived_before
derived_ties f g p q =
    let turns = tied (derived_turn f.rule) (derived_turn g.rule) _ _ p q in
    let index = tied f.index g.index _ _ turns.1 turns.2 in
    let numbers = tied (rule_number f.rule) (rule_number g.rule) _ _ index.1 index.2 in
    let elem : f.elem ≡ g.elem = tied_last _ _ numbers.1 numbers.2 in
    same_fault f.rule g.rule _ _ _ _ (same_rule f.rule g.rule numbers.0) elem index.0

-- where no number is below the other, their level decides nothing
pub level_none : (m n : ℕ) → nat_lt m n ≡ false → level m n false ≡ false
level_none m n h = elim (cases_order m n) [
  | inl same ↦ level_same m n false same refl
  | inr (inl less) ↦ absurd (false_lt m n h less)
  | inr (inr more) ↦ level_later m n false more
]

-- ---- periods

-- within a period a day that lacks comes first
abbrev inner : PeriodFault → PeriodFault → Bool
inner NoDays NoDays = false
inner NoDays OutOfRange = true
inner OutOfRange NoDays = false
inner OutOfRange OutOfRange = false

periods_order : (w v : PeriodFault) (j i : ℕ)
    → derived_before (period_fault w j) (period_fault v i) ≡ level j i (inner w v)
periods_order NoDays NoDays j i = refl
periods_order NoDays OutOfRange j i = refl
periods_order OutOfRange NoDays j i = refl
periods_order OutOfRange OutOfRange j i = refl

inner_false : (p : DailyPeriod) (w v : PeriodFault) → FirstWay p v → PeriodFails w p → inner w v ≡ false
inner_false p NoDays NoDays first fails = refl
inner_false p NoDays OutOfRange first fails = absurd (first.0 fails)
inner_false p OutOfRange NoDays first fails = refl
inner_false p OutOfRange OutOfRange first fails = refl

fails_so : (p : DailyPeriod) (v : PeriodFault) → FirstWay p v → PeriodFails v p
fails_so p NoDays first = first
fails_so p OutOfRange first = first.1

-- no period before this number fails
abbrev pub KeptBelow : DerivedSource → ℕ → ℕ → Type 0
KeptBelow source basis i = (j : ℕ) → IsPeriod source.adjusted j → j < i → NoneFails (derived_period_at source basis j)

module _ (source : DerivedSource) (basis : ℕ) (is : basis_of source.day_count ≡ Some basis) where
  -- the way in which a period fails, by the basis that the day count has
  fails_by : (f : Fault) (b : BreaksPeriod source f) → PeriodFails b.why (derived_period_at source basis b.number)
  fails_by f b =
      let same : b.basis ≡ basis = some_basis b.basis basis (sym b.is_basis ∙ is) in
      subst (λ (n : ℕ). PeriodFails b.why (derived_period_at source n b.number)) same b.fails

  module _ (i : ℕ) (v : PeriodFault) (period : IsPeriod source.adjusted i)
      (first : FirstWay (derived_period_at source basis i) v) (kept : KeptBelow source basis i) where
    not_earlier : (f : Fault) → BreaksPeriod source f → derived_before f (period_fault v i) ≡ false
    not_earlier f b =
        let fails = fails_by f b in
        let at : level b.number i (inner b.why v) ≡ false = elim (cases_order b.number i) [
          | inl same ↦
              level_same b.number i (inner b.why v) same
              (inner_false (derived_period_at source basis i) b.why v first
              (subst (λ (n : ℕ). PeriodFails b.why (derived_period_at source basis n)) same fails))
          | inr (inl less) ↦ absurd (kept b.number b.period less b.why fails)
          | inr (inr more) ↦ level_later b.number i (inner b.why v) more
        ] in
        subst (λ (g : Fault). derived_before g (period_fault v i) ≡ false) (sym b.is)
        (periods_order b.why v b.number i ∙ at)

    -- so it is the first that fails
    pub first_period : First derived_before (BreaksPeriod source) (period_fault v i)
    first_period = (
      record {
        basis = basis;
        is_basis = is;
        number = i;
        period = period;
        why = v;
        fails =
            fails_so (derived_period_at source basis i) v first;
        is = refl;
      },
      not_earlier,
    )

  -- where no period fails no rule of periods is broken
  pub periods_kept : (i : ℕ) → ((j : ℕ) → IsPeriod source.adjusted j → j < i) → KeptBelow source basis i → (f : Fault)
      → BreaksPeriod source f → ⊥
  periods_kept i all kept f b = kept b.number b.period (all b.number b.period) b.why (fails_by f b)

  -- ---- the others

  has_basis : (f : Fault) → BreaksBasis source f → ⊥
  has_basis f b = let e = b.0 in cc (e, is)

  -- where fixing dates rise the first of periods is the first of all
  pub first_of_periods : ((n : ℕ) → FixingNotAfter source.resets n → ⊥) → (f : Fault)
      → First derived_before (BreaksPeriod source) f → First derived_before (BreaksDerived source) f
  first_of_periods rising f first = (
    inr (inr first.0),
    λ g b. elim b [
      | inl basis ↦ absurd (has_basis g basis)
      | inr (inl fixing) ↦ absurd (rising fixing.number fixing.not_after)
      | inr (inr period) ↦ first.1 g period
    ],
  )

  -- where no fixing date is out of order and no period breaks a rule, none is broken
  pub derived_kept : ((n : ℕ) → FixingNotAfter source.resets n → ⊥) → ((f : Fault) → BreaksPeriod source f → ⊥) → (f : Fault)
      → BreaksDerived source f → ⊥
  derived_kept rising periods f b = elim b [
    | inl basis ↦ has_basis f basis
    | inr (inl fixing) ↦ rising fixing.number fixing.not_after
    | inr (inr period) ↦ periods f period
  ]

  after_fixing : (w : PeriodFault) (j n : ℕ) → derived_before (period_fault w j) (fixing_not_after_at n) ≡ false
  after_fixing NoDays j n = refl
  after_fixing OutOfRange j n = refl

  -- the lowest period whose fixing date isn't later is the first of all
  pub first_fixing : (n : ℕ) → First nat_lt (FixingNotAfter source.resets) n
      → First derived_before (BreaksDerived source) (fixing_not_after_at n)
  first_fixing n first = (
    inr (inl (record { number = n; not_after = first.0; is = refl })),
    λ g b. elim b [
      | inl basis ↦ absurd (has_basis g basis)
      | inr (inl fixing) ↦
          subst (λ (h : Fault). derived_before h (fixing_not_after_at n) ≡ false) (sym fixing.is)
          (level_none fixing.number n (first.1 fixing.number fixing.not_after))
      | inr (inr period) ↦
          subst (λ (h : Fault). derived_before h (fixing_not_after_at n) ≡ false) (sym period.is)
          (after_fixing period.why period.number n)
    ],
  )

after_basis : (w : PeriodFault) (j : ℕ) → derived_before (period_fault w j) no_basis ≡ false
after_basis NoDays j = refl
after_basis OutOfRange j = refl

-- a day count without a basis is the first of all
pub first_basis : (source : DerivedSource) → basis_of source.day_count ≡ None
    → First derived_before (BreaksDerived source) no_basis
first_basis source none = (
  inl (none, refl),
  λ g b. elim b [
    | inl basis ↦ subst (λ (h : Fault). derived_before h no_basis ≡ false) (sym basis.1) refl
    | inr (inl fixing) ↦ subst (λ (h : Fault). derived_before h no_basis ≡ false) (sym fixing.is) refl
    | inr (inr period) ↦
        subst (λ (h : Fault). derived_before h no_basis ≡ false) (sym period.is) (after_basis period.why period.number)
  ],
)
