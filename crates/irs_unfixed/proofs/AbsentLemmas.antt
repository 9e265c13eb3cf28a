-- The first observation day without a daily rate.
use Rattle.std.proofs.Common.{◌≡◌, inl, inr, ℕ, zero, suc, List, [], ◌∷◌, take, Some, None, ℤ, sym, ap, subst, ◌∙◌}
use Rattle.std.specs.Prelude.{slice_get}
use Rattle.std.proofs.lemmas.Option.{same_Some}
use Rattle.irs_observed.specs.ObservedRates.{AreKnown, DailyRates}
use Rattle.irs_observed.specs.Observations.{ObservedPeriod, AreObservations}
use Rattle.irs_observed.specs.declared.observation.Observation.{Observation}
use Rattle.irs_observed.proofs.OutcomeLemmas.{one_observations}
use Rattle.irs_unfixed.specs.Unfixed.{FirstAbsent}
use Rattle.irs_unfixed.specs.Private.Made.{HasAbsentDay}

-- the observation day at a place, where each before it has its rate and it has none
pub absent_at : (daily : DailyRates) (os : List Observation) (i : ℕ) (o : Observation) → slice_get os i ≡ Some o
    → AreKnown daily (take i os) → daily o.observed ≡ None → FirstAbsent daily os o.observed
absent_at daily [] i o at known none = absurd (cc)
absent_at daily (x ∷ os) zero o at known none =
    let same : x ≡ o = same_Some x o at in
    inl (ap (λ (y : Observation). daily y.observed) same ∙ none, ap (λ (y : Observation). y.observed) (sym same))
absent_at daily (x ∷ os) (suc i) o at known none = inr (known.0, absent_at daily os i o at known.1 none)

-- where an observation has no daily rate, not every one of the only list has
pub not_known : (daily : DailyRates) (p : ObservedPeriod) (os : List Observation) → AreObservations p os
    → HasAbsentDay daily p → AreKnown daily os → ⊥
not_known daily p os are h known =
    h.unknown (subst (AreKnown daily) (one_observations p os h.observations are h.are_observations) known)

-- the first observation day without a daily rate has none
pub absent_none : (daily : DailyRates) (os : List Observation) (d : ℤ) → FirstAbsent daily os d → daily d ≡ None
absent_none daily [] d h = absurd h
absent_none daily (o ∷ os) d (inl h) = ap daily h.1 ∙ h.0
absent_none daily (o ∷ os) d (inr h) = absent_none daily os d h.1
