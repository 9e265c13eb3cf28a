-- The order of the rules of averages, and which of them is the first that is broken.
use Rattle.std.proofs.Common.{◌≡◌, inl, inr, ℕ, ◌<◌, false, refl, sym, subst, ◌∙◌}
use Rattle.std.specs.Prelude.{nat_lt}
use Rattle.std.proofs.lemmas.Bool.{cases_order}
use Rattle.irs_base.specs.Outcomes.{First, level}
use Rattle.irs_terms.specs.declared.places.Fault.{Fault}
use Rattle.irs_base.proofs.Firsts.{level_later, level_same}
use Rattle.irs_resets.specs.Resets.{IsPeriod}
use Rattle.irs_overnight.specs.Overnight.{FixingNotAfter, derived_before, fixing_not_after_at}
use Rattle.irs_overnight.proofs.DerivedOrder.{level_none}
use Rattle.irs_average.specs.Averages.{BreaksMeans, BreaksSamples, LacksSampleDay, lacking_at, MeanSource}
use Rattle.irs_average.specs.Averages.{mean_period_at}

-- in no period before this number an observation lacks a day
abbrev pub KeptBelow : MeanSource → ℕ → Type 0
KeptBelow source i = (j : ℕ) → IsPeriod source.adjusted j → j < i → LacksSampleDay (mean_period_at source j) → ⊥

lacking_order : (j i : ℕ) → derived_before (lacking_at j) (lacking_at i) ≡ level j i false
lacking_order j i = refl

module _ (source : MeanSource) where
  module _ (i : ℕ) (period : IsPeriod source.adjusted i) (lacks : LacksSampleDay (mean_period_at source i))
      (kept : KeptBelow source i) where
    not_earlier : (f : Fault) → BreaksSamples source f → derived_before f (lacking_at i) ≡ false
    not_earlier f b =
        let at : level b.number i false ≡ false = elim (cases_order b.number i) [
          | inl same ↦ level_same b.number i false same refl
          | inr (inl less) ↦ absurd (kept b.number b.period less b.lacks)
          | inr (inr more) ↦ level_later b.number i false more
        ] in
        subst (λ (g : Fault). derived_before g (lacking_at i) ≡ false) (sym b.is) (lacking_order b.number i ∙ at)

    -- so it is the first that lacks one
    pub first_lacking : First derived_before (BreaksSamples source) (lacking_at i)
    first_lacking = (record { number = i; period = period; lacks = lacks; is = refl }, not_earlier)

  -- where no period lacks one K43 isn't broken
  pub samples_kept : (i : ℕ) → ((j : ℕ) → IsPeriod source.adjusted j → j < i) → KeptBelow source i → (f : Fault)
      → BreaksSamples source f → ⊥
  samples_kept i all kept f b = kept b.number b.period (all b.number b.period) b.lacks

  -- where fixing dates rise the first K43 is the first of all
  pub first_of_samples : ((n : ℕ) → FixingNotAfter source.resets n → ⊥) → (f : Fault)
      → First derived_before (BreaksSamples source) f → First derived_before (BreaksMeans source) f
  first_of_samples rising f first = (
    inr first.0,
    λ g b. elim b [
      | inl order ↦ absurd (rising order.number order.not_after)
      | inr samples ↦ first.1 g samples
    ],
  )

  -- where no fixing date is out of order and no observation is lacking, no rule is broken
  pub means_kept : ((n : ℕ) → FixingNotAfter source.resets n → ⊥) → ((f : Fault) → BreaksSamples source f → ⊥) → (f : Fault)
      → BreaksMeans source f → ⊥
  means_kept rising samples f b = elim b [
    | inl order ↦ rising order.number order.not_after
    | inr lacks ↦ samples f lacks
  ]

  after_order : (j n : ℕ) → derived_before (lacking_at j) (fixing_not_after_at n) ≡ false
  after_order j n = refl

  -- the lowest period whose fixing date isn't later is the first of all
  pub first_order : (n : ℕ) → First nat_lt (FixingNotAfter source.resets) n
      → First derived_before (BreaksMeans source) (fixing_not_after_at n)
  first_order n first = (
    inl (record { number = n; not_after = first.0; is = refl }),
    λ g b. elim b [
      | inl order ↦
          subst (λ (h : Fault). derived_before h (fixing_not_after_at n) ≡ false) (sym order.is)
          (level_none order.number n (first.1 order.number order.not_after))
      | inr lacks ↦
          subst (λ (h : Fault). derived_before h (fixing_not_after_at n) ≡ false) (sym lacks.is) (after_order lacks.number n)
    ],
  )
