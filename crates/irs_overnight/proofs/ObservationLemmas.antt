-- A period has one list of observations, and one first observation without a rate.
use Rattle.std.proofs.Common.{◌≡◌, ℕ, zero, suc, ◌+◌, ◌<◌, List, [], ◌∷◌, length, Option, Some, None, IsSome, ℤ, refl}
use Rattle.std.proofs.Common.{sym, subst, ◌∙◌, arith, All, ◌++◌, length-append}
use Rattle.std.specs.Prelude.{get_or}
use Rattle.std.proofs.lemmas.List.Elements.{All-push}
use Rattle.irs_base.specs.Lists.{EachNumbered}
use Rattle.irs_base.proofs.MemberLemmas.{numbered_push, one_numbered}
use Rattle.irs_calendar.specs.GoodDays.{DaySet}
use Rattle.irs_adjust.specs.Private.ConventionLaws.{one_prev}
use Rattle.irs_overnight.specs.Private.Bounds.{IsSmall}
use Rattle.irs_overnight.specs.Observations.{AreRateObservations, AreRatesObserved, IsRateObservation, absent_or}
use Rattle.irs_overnight.specs.Observations.{first_absent, RateLines}
use Rattle.irs_overnight.specs.declared.observations.Observation.{Observation}
use Rattle.irs_overnight.proofs.StartLemmas.{one_starts}

one_observed : (lines : RateLines) (q : ℤ) (u : List ℤ) (e : ℤ) (os ps : List Observation) → AreRatesObserved lines q u e os
    → AreRatesObserved lines q u e ps → os ≡ ps
one_observed lines q u e os ps a b =
    one_numbered (IsRateObservation lines q u e) (λ k x y p r. p ∙ sym r) 0 os ps (a.many ∙ sym b.many) a.each b.each

-- a period has one list of observations
pub one_observations : (lines : RateLines) (set : DaySet) (s e : ℤ) (os ps : List Observation)
    → AreRateObservations lines set s e os → AreRateObservations lines set s e ps → os ≡ ps
one_observations lines set s e os ps a b =
    let starts = one_starts set s e a.starts b.starts a.are_starts b.are_starts in
    let first = one_prev set s a.first b.first a.previous b.previous in
    let by_starts : AreRatesObserved lines a.first b.starts e os =
    subst (λ (u : List ℤ). AreRatesObserved lines a.first u e os) starts a.observed in
    one_observed lines b.first b.starts e os ps (subst (λ (q : ℤ). AreRatesObserved lines q b.starts e os) first by_starts)
    b.observed

-- where no rate is absent, the first is there and so are the others
pub known_or : (rate : Option ℤ) (d : ℤ) (later : Option ℤ) → absent_or rate d later ≡ None
    → IsSome rate × (later ≡ None)
known_or None d later h = absurd (cc)
known_or (Some r) d later h = (refl, h)

-- where none is absent each rate is there
pub known_at : (os : List Observation) (k : ℕ) (o : Observation) → first_absent os ≡ None → k < length os
    → get_or os k o ≡ o → IsSome o.rate
known_at [] k o none low is = absurd (omega (arith, low))
known_at (x ∷ xs) zero o none low is =
    subst (λ (y : Observation). IsSome y.rate) is (known_or x.rate x.day (first_absent xs) none).0
known_at (x ∷ xs) (suc k) o none low is =
    known_at xs k o (known_or x.rate x.day (first_absent xs) none).1 (omega (arith, low)) is

-- the observations of the first starts
pub record Observes (lines : RateLines) (q : ℤ) (u : List ℤ) (e : ℤ) (k : ℕ) (os : List Observation) : Type 0 where
  pub many : length os ≡ k
  pub each : EachNumbered (IsRateObservation lines q u e) 0 os
  pub small : All IsSmall os

-- one more observation
pub observes_more : (lines : RateLines) (q : ℤ) (u : List ℤ) (e : ℤ) (k : ℕ) (os : List Observation) (o : Observation)
    → Observes lines q u e k os → IsRateObservation lines q u e k o → IsSmall o
    → Observes lines q u e (k + 1) (os ++ o ∷ [])
observes_more lines q u e k os o h is small = record {
  many = let many = h.many in let longer : length (os ++ o ∷ []) ≡ length os + 1 = simp length-append in
      omega (arith, many, longer);
  each = let many = h.many in numbered_push (IsRateObservation lines q u e) 0 k os o h.each (omega (arith, many)) is;
  small = All-push IsSmall os o h.small small;
}
