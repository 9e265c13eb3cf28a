-- Steps on boundaries: a step is the first whose date is no boundary, or the date of each is one.
use Rattle.std.proofs.Common.{◌≡◌, ℕ, ◌<◌, List, [], ◌∷◌, ℤ, false, inl, inr, arith}
use Rattle.irs_terms.specs.Elements.{notional_step_date, fixed_rate_step_date, multiplier_step_date, spread_step_date}
use Rattle.irs_base.specs.Lists.{Member}
use Rattle.irs_base.specs.Outcomes.{First}
use Rattle.irs_terms.specs.Faults.{fault_at, comes_before}
use Rattle.irs_base.specs.Private.Order.{IsDecided}
use Rattle.irs_terms.specs.declared.places.Rule.TheVariants.{K36}
use Rattle.irs_terms.specs.declared.places.Fault.{Fault}
use Rattle.irs_base.proofs.Decided.{decides_same}
use Rattle.irs_terms.proofs.FaultOrder.{one_fault}
use Rattle.irs_terms.specs.declared.amounts.Leg.{Leg}
use Rattle.irs_terms.specs.declared.amounts.Leg.TheVariants.{Fixed, Floating}
use Rattle.irs_terms.specs.declared.step_list.Step.{Step}
use Rattle.irs_terms.specs.declared.stream.Stream.{Stream}
use Rattle.irs_payments.specs.Exchanges.{IsOff, BreaksUnder, BreaksRateSteps, BreaksSteps}
use Rattle.irs_payments.proofs.FirstFaults.{FirstOrNone, told, first_of_both, not_before_element}
use Rattle.irs_payments.proofs.NumberLemmas.{decides_in}

-- a step under a later element doesn't come before the fault
pub later_steps : (boundaries : List ℤ) (elem later : ℕ) (steps more : List Step) (f g : Fault) → elem < later
    → BreaksUnder boundaries elem steps f → BreaksUnder boundaries later more g → comes_before g f ≡ false
later_steps boundaries elem later steps more f g le h k =
    told f g (fault_at K36 elem h.number) (fault_at K36 later k.number) h.is k.is
    (not_before_element K36 elem later k.number h.number le)

-- a day is in a list, or it isn't
pub decides_member : (d : ℤ) (xs : List ℤ) → IsDecided (Member d xs)
decides_member d [] = inr (λ h. h)
decides_member d (x ∷ xs) = elim (decides_same d x) [
  | inl same ↦ inl (inl same)
  | inr other ↦ elim (decides_member d xs) [
    | inl later ↦ inl (inr later)
    | inr none ↦ inr (λ h. elim h [ inl first ↦ other first | inr rest ↦ none rest ])
  ]
]

decides_off : (boundaries : List ℤ) (step : Step) → IsDecided (IsOff boundaries step)
decides_off boundaries step = elim (decides_member step.day boundaries) [
  | inl on ↦ inr (λ off. off on)
  | inr off ↦ inl off
]

under_decided : (boundaries : List ℤ) (elem : ℕ) (steps : List Step) → FirstOrNone (BreaksUnder boundaries elem steps)
under_decided boundaries elem steps =
    decides_in K36 elem (IsOff boundaries) steps (λ k step at. decides_off boundaries step)

rates_decided : (leg : Leg) (boundaries : List ℤ) → FirstOrNone (BreaksRateSteps leg boundaries)
rates_decided (Fixed rates) boundaries = under_decided boundaries fixed_rate_step_date rates.steps
rates_decided (Floating terms) boundaries =
    first_of_both (BreaksUnder boundaries multiplier_step_date terms.multiplier.steps)
    (BreaksUnder boundaries spread_step_date terms.spread.steps)
    (λ f g h k. later_steps boundaries multiplier_step_date spread_step_date terms.multiplier.steps terms.spread.steps f
    g (omega arith) h k)
    (under_decided boundaries multiplier_step_date terms.multiplier.steps)
    (under_decided boundaries spread_step_date terms.spread.steps)

-- the steps of the notional come before those of the leg
pub later_rates : (leg : Leg) (boundaries : List ℤ) (steps : List Step) (f g : Fault)
    → BreaksUnder boundaries notional_step_date steps f → BreaksRateSteps leg boundaries g → comes_before g f ≡ false
later_rates (Fixed rates) boundaries steps f g h k =
    later_steps boundaries notional_step_date fixed_rate_step_date steps rates.steps f g (omega arith) h k
later_rates (Floating terms) boundaries steps f g h (inl k) =
    later_steps boundaries notional_step_date multiplier_step_date steps terms.multiplier.steps f g (omega arith) h k
later_rates (Floating terms) boundaries steps f g h (inr k) =
    later_steps boundaries notional_step_date spread_step_date steps terms.spread.steps f g (omega arith) h k

-- a step is the first that breaks K36, or none breaks it
pub steps_decided : (s : Stream) (boundaries : List ℤ) → FirstOrNone (BreaksSteps s boundaries)
steps_decided s boundaries =
    first_of_both (BreaksUnder boundaries notional_step_date s.notional.steps) (BreaksRateSteps s.leg boundaries)
    (later_rates s.leg boundaries s.notional.steps) (under_decided boundaries notional_step_date s.notional.steps)
    (rates_decided s.leg boundaries)

-- at most one is the first
pub one_steps_rule : (s : Stream) (boundaries : List ℤ) (f g : Fault) → First comes_before (BreaksSteps s boundaries) f
    → First comes_before (BreaksSteps s boundaries) g → f ≡ g
one_steps_rule s boundaries = one_fault (BreaksSteps s boundaries)
