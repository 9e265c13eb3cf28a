-- The weights of observations are above 0, and add up to the days of the observation period.
use Rattle.std.proofs.Common.{◌≡◌, ℕ, ◌+◌, ◌<◌, List, [], ◌∷◌, length, ℤ, pos, ◌+ℤ◌, ◌<ℤ◌, sym, subst, arith}
use Rattle.jiff_core.proofs.SignedLemmas.{signed_arith}
use Rattle.irs_base.specs.Days.{IsDay}
use Rattle.irs_base.specs.Lists.{EachNumbered, Every, day_at}
use Rattle.irs_calendar.specs.GoodDays.{DaySet}
use Rattle.irs_observed.specs.Observations.{IsObservationPeriod, ObservedPeriod, AddsUp, AreObserved, HasWeights}
use Rattle.irs_observed.specs.Observations.{IsObservation, total_weight, member_or_end}
use Rattle.irs_observed.specs.Private.OvernightRates.{IsWalk}
use Rattle.irs_observed.specs.declared.observation.Observation.{Observation}
use Rattle.irs_terms.specs.declared.parameters.ObservationOffset.{ObservationOffset}
use Rattle.irs_observed.proofs.ListLemmas.{at_or_end, past_end}
use Rattle.irs_observed.proofs.PeriodLemmas.{one_end, one_start}

module _ (offset : ObservationOffset) (set : DaySet) (q : ℤ) (u : List ℤ) (b : ℤ) (walk : IsWalk set q u b) where
  total_to : (k : ℕ) (os : List Observation) → EachNumbered (IsObservation offset set u b) k os
      → k + length os ≡ length u → member_or_end u b k +ℤ pos (total_weight os) ≡ b
  total_to k [] each many =
      let e : k ≡ length u = omega (arith, many) in
      let at : member_or_end u b k ≡ b = subst (λ (j : ℕ). member_or_end u b j ≡ b) (sym e) (past_end u b) in
      omega (arith, signed_arith, at)
  total_to k (o ∷ os) each many =
      let low : k < length u = omega (arith, many) in
      let at = at_or_end u b k low in
      let day = each.0.day in
      let weight = each.0.weight in
      let rest = total_to (k + 1) os each.1 (omega (arith, many)) in
      omega (arith, signed_arith, at, day, weight, rest)

  each_above : (k : ℕ) (os : List Observation) → EachNumbered (IsObservation offset set u b) k os
      → k + length os ≡ length u → Every (λ o. 0 < o.weight) os
  each_above k [] each many = tt
  each_above k (o ∷ os) each many =
      let rises = walk.rises k (omega (arith, many)) in
      let day = each.0.day in
      let weight = each.0.weight in
      (omega (arith, signed_arith, rises, day, weight), each_above (k + 1) os each.1 (omega (arith, many)))

  pub adds_to : (os : List Observation) → AreObserved offset set u b os → 0 < length u
      → day_at u 0 +ℤ pos (total_weight os) ≡ b
  adds_to os are some =
      let at = at_or_end u b 0 some in
      let many = are.many in
      let total = total_to 0 os are.each (omega (arith, many)) in
      omega (arith, signed_arith, at, total)

  pub has_weights : (os : List Observation) → AreObserved offset set u b os → 0 < length u → day_at u 0 <ℤ b
      → IsDay (day_at u 0) → IsDay b → HasWeights os
  has_weights os are some order first last =
      let total = adds_to os are some in
      let many = are.many in
      let low = first.0 in
      let high = last.1 in
      record {
        each = each_above 0 os are.each (omega (arith, many));
        some = omega (arith, signed_arith, order, total);
        few = omega (arith, signed_arith, low, high, total);
      }

-- the weights are the days of any observation period of the calculation period
pub adds_up : (p : ObservedPeriod) (a b : ℤ) (os : List Observation) → IsObservationPeriod p a b
    → a +ℤ pos (total_weight os) ≡ b → AddsUp p os
adds_up p a b os period total c d other =
    let start = one_start p a b c d period other in
    let end = one_end p a b c d period other in
    omega (arith, signed_arith, total, start, end)
