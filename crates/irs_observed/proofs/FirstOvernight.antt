-- Which rule of observations is the first that is broken: too few members of any period, then a day without a result.
use Rattle.std.proofs.Common.{◌≡◌, inl, inr, ℕ, false, Option, Some, None, refl, sym, subst}
use Rattle.std.specs.Prelude.{nat_lt}
use Rattle.std.proofs.lemmas.Bool.{cases_order}
use Rattle.irs_base.specs.Outcomes.{First, IsFirst}
use Rattle.irs_terms.specs.Faults.{comes_before}
use Rattle.irs_terms.specs.declared.places.Fault.{Fault}
use Rattle.irs_base.proofs.Firsts.{lt_false}
use Rattle.irs_observed.specs.Observations.{reported_before}
use Rattle.irs_observed.specs.OvernightRates.{BreaksObservations, LacksAt, OvernightSource, observation_fault}
use Rattle.irs_observed.specs.Private.OvernightRates.{HasFewAfter, NoneLacks, NoneLacksBefore, StopsAt, fault_by}
use Rattle.irs_observed.specs.declared.observation.NoObservations.{NoObservations}
use Rattle.irs_observed.specs.declared.observation.NoObservations.TheVariants.{FewMembers, NoDay}
use Rattle.irs_observed.specs.declared.overnight_rates.Unobserved.{Unobserved}

few_few : (j i : ℕ) → comes_before (observation_fault FewMembers j) (observation_fault FewMembers i) ≡ nat_lt j i
few_few j i = refl

days_few : (j i : ℕ) → comes_before (observation_fault NoDay j) (observation_fault FewMembers i) ≡ false
days_few j i = refl

days_days : (j i : ℕ) → comes_before (observation_fault NoDay j) (observation_fault NoDay i) ≡ nat_lt j i
days_days j i = refl

module _ (source : OvernightSource) where
  breaks : (why : NoObservations) (i : ℕ) → LacksAt source i why → BreaksObservations source (observation_fault why i)
  breaks why i lacks = record { number = i; why = why; lacks = lacks; is = refl }

  -- where nothing is lacking no rule is broken
  pub none_breaks : NoneLacks source → (f : Fault) → BreaksObservations source f → ⊥
  none_breaks none f b = none b.number b.why b.lacks

  -- and the other way round
  pub none_lacks_at : ((f : Fault) → BreaksObservations source f → ⊥) → NoneLacks source
  none_lacks_at none i why lacks = none (observation_fault why i) (breaks why i lacks)

  -- the first of a reason whose earlier ones come later
  first_with : (why : NoObservations) (i : ℕ) → LacksAt source i why
      → ((other : NoObservations) (j : ℕ) → LacksAt source j other
      → comes_before (observation_fault other j) (observation_fault why i) ≡ false)
      → First comes_before (BreaksObservations source) (observation_fault why i)
  first_with why i lacks later = (
    breaks why i lacks,
    λ g b.
        subst (λ (h : Fault). comes_before h (observation_fault why i) ≡ false) (sym b.is) (later b.why b.number b.lacks),
  )

  few_later : (i : ℕ) → ((j : ℕ) → LacksAt source j FewMembers → nat_lt j i ≡ false) → (other : NoObservations) (j : ℕ)
      → LacksAt source j other → comes_before (observation_fault other j) (observation_fault FewMembers i) ≡ false
  few_later i none FewMembers j lacks = none j lacks
  few_later i none NoDay j lacks = days_few j i

  -- the first period with too few members breaks the first rule
  pub first_few_at : (i : ℕ) → First nat_lt (λ j. LacksAt source j FewMembers) i
      → First comes_before (BreaksObservations source) (observation_fault FewMembers i)
  first_few_at i first = first_with FewMembers i first.0 (few_later i first.1)

  days_later : (i : ℕ) → ((j : ℕ) → LacksAt source j FewMembers → ⊥)
      → ((j : ℕ) → LacksAt source j NoDay → nat_lt j i ≡ false) → (other : NoObservations) (j : ℕ)
      → LacksAt source j other → comes_before (observation_fault other j) (observation_fault NoDay i) ≡ false
  days_later i few none FewMembers j lacks = absurd (few j lacks)
  days_later i few none NoDay j lacks = none j lacks

  -- where none has too few the first period without a day does
  pub first_day_at : (i : ℕ) → ((j : ℕ) → LacksAt source j FewMembers → ⊥) → First nat_lt (λ j. LacksAt source j NoDay) i
      → First comes_before (BreaksObservations source) (observation_fault NoDay i)
  first_day_at i few first = first_with NoDay i first.0 (days_later i few first.1)

  module _ (u : Unobserved) (stops : StopsAt source u) where
    -- the first period that lacks anything has too few members
    pub stops_few : u.why ≡ FewMembers
        → First comes_before (BreaksObservations source) (observation_fault FewMembers u.number)
    stops_few e = first_few_at u.number (
      subst (λ (w : NoObservations). LacksAt source u.number w) e stops.lacks,
      λ j lacks. lt_false j u.number (λ less. stops.before j FewMembers less lacks),
    )

    module _ (e : u.why ≡ NoDay) where
      few_is_after : (j : ℕ) → LacksAt source j FewMembers → HasFewAfter source u.number j
      few_is_after j lacks = elim (cases_order j u.number) [
        | inl same ↦ absurd (stops.not_few e (subst (λ (k : ℕ). LacksAt source k FewMembers) same lacks))
        | inr (inl less) ↦ absurd (stops.before j FewMembers less lacks)
        | inr (inr more) ↦ (more, lacks)
      ]

      -- it has no day: a later one with too few members breaks the first rule, else it does
      pub stops_day : (few : Option ℕ) → IsFirst nat_lt (HasFewAfter source u.number) few
          → First comes_before (BreaksObservations source) (fault_by few u.number)
      stops_day (Some m) first = first_few_at m (first.0.1, λ j lacks. first.1 j (few_is_after j lacks))
      stops_day None none = first_day_at u.number (λ j lacks. none j (few_is_after j lacks)) (
        subst (λ (w : NoObservations). LacksAt source u.number w) e stops.lacks,
        λ j lacks. lt_false j u.number (λ less. stops.before j NoDay less lacks),
      )

-- where no earlier period lacks observations, one that does is the first
pub stops_at : (source : OvernightSource) (number : ℕ) (why : NoObservations) → NoneLacksBefore source number
    → First reported_before (LacksAt source number) why → StopsAt source (record { number = number; why = why })
stops_at source number FewMembers before first = record {
  before = before;
  lacks = first.0;
  not_few = λ e few. cc (e);
}
stops_at source number NoDay before first = record {
  before = before;
  lacks = first.0;
  not_few = λ e few. let later = first.1 FewMembers few in cc (later);
}
