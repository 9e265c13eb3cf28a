-- Why a calculation period has observations, or why it has none.
use Rattle.std.proofs.Common.{◌≡◌, ℕ, ◌<◌, ◌≤◌, List, length, ℤ, refl, sym, subst, arith, ap, Bool, false, IsTrue}
use Rattle.irs_base.specs.Lists.{day_at}
use Rattle.irs_base.specs.Outcomes.{IfStopped, First}
use Rattle.irs_base.specs.declared.stopped.Stopped.{Stopped}
use Rattle.irs_base.specs.declared.stopped.Stopped.TheVariants.{Broken as OfBroken, Memory as OfMemory}
use Rattle.irs_calendar.specs.GoodDays.{DaySet}
use Rattle.irs_observed.specs.Observations.{IsObservationPeriod, ObservedPeriod, HasFewMembers, LacksObservations}
use Rattle.irs_observed.specs.Observations.{LacksObservedDay, no_period, reported_before, uncovered, unobserved}
use Rattle.irs_observed.specs.Observations.{AreObserved, ObservesOn, lockout_days, place_observed, AreMembers}
use Rattle.irs_observed.specs.Observations.{IsPeriodMember, LeavesCover}
use Rattle.irs_observed.specs.declared.observation.NoObservations.{NoObservations}
use Rattle.irs_observed.specs.declared.observation.NoObservations.TheVariants.{FewMembers, NoDay}
use Rattle.irs_observed.proofs.MemberLemmas.{one_members}
use Rattle.irs_observed.proofs.PeriodLemmas.{one_end, one_start}
use Rattle.irs_base.proofs.MemberLemmas.{numbered_has}
use Rattle.irs_observed.specs.Private.OvernightRates.{IsWalk, good_at}
use Rattle.irs_observed.specs.declared.observation.Observation.{Observation}
use Rattle.irs_terms.specs.declared.parameters.ObservationOffset.{ObservationOffset}
use Rattle.irs_terms.specs.declared.parameters.ObservationOffset.TheVariants.{Absent, Shift, Lookback, Lockout}
use Rattle.irs_observed.proofs.ListLemmas.{member_place}
use Rattle.irs_observed.proofs.WalkLemmas.{own_place, prev_at}

-- too few members come first
pub few_first : (p : ObservedPeriod) → HasFewMembers p → First reported_before (LacksObservations p) FewMembers
few_first p few = (few, λ y h. by y)
  where
    by : (y : NoObservations) → reported_before y FewMembers ≡ false
    by FewMembers = refl
    by NoDay = refl

-- a day without a result comes first where there are members enough
pub no_day_first : (p : ObservedPeriod) → LacksObservedDay p → (HasFewMembers p → ⊥) → First reported_before (LacksObservations p) NoDay
no_day_first p lacks enough = (lacks, by)
  where
    by : (y : NoObservations) → LacksObservations p y → reported_before y NoDay ≡ false
    by FewMembers h = absurd (enough h)
    by NoDay h = refl

-- without an observation period
pub refused_period : (p : ObservedPeriod) → ((a b : ℤ) → IsObservationPeriod p a b → ⊥)
    → First reported_before (LacksObservations p) NoDay
refused_period p none = no_day_first p (no_period none) (λ few. none few.from few.to few.period)

module _ (p : ObservedPeriod) (a b : ℤ) (period : IsObservationPeriod p a b) where
  leaves_same : (c d : ℤ) → IsObservationPeriod p c d → LeavesCover p.days c d → LeavesCover p.days a b
  leaves_same c d other leaves =
      let start = one_start p c d a b other period in
      let end = one_end p c d a b other period in
      subst (λ (x : ℤ). LeavesCover p.days a x) end (subst (λ (x : ℤ). LeavesCover p.days x d) start leaves)

  leaves_other : (c d : ℤ) → IsObservationPeriod p c d → LeavesCover p.days a b → LeavesCover p.days c d
  leaves_other c d other leaves =
      let start = one_start p a b c d period other in
      let end = one_end p a b c d period other in
      subst (λ (x : ℤ). LeavesCover p.days c x) end (subst (λ (x : ℤ). LeavesCover p.days x b) start leaves)

  -- with a day outside the cover
  pub refused_uncovered : LeavesCover p.days a b → First reported_before (LacksObservations p) NoDay
  refused_uncovered leaves =
      no_day_first p (uncovered (record { from = a; to = b; period = period; leaves = leaves }))
      (λ few. few.covered (leaves_other few.from few.to few.period leaves))

  module _ (covered : LeavesCover p.days a b → ⊥) (u : List ℤ) (are : AreMembers p.days a b u) where
    -- with too few members
    pub refused_few : length u ≤ lockout_days p.offset → First reported_before (LacksObservations p) FewMembers
    refused_few few =
        few_first p (record {
          from = a;
          to = b;
          period = period;
          covered = covered;
          members = u;
          are_members = are;
          few = few;
        })

    same_members : (c d : ℤ) (v : List ℤ) → IsObservationPeriod p c d → AreMembers p.days c d v → v ≡ u
    same_members c d v other others =
        let start = one_start p c d a b other period in
        let end = one_end p c d a b other period in
        let moved = subst (λ (x : ℤ). AreMembers p.days a x v) end
        (subst (λ (x : ℤ). AreMembers p.days x d v) start others) in
        one_members p.days a b v u moved are

    module _ (enough : lockout_days p.offset < length u) where
      pub not_few : HasFewMembers p → ⊥
      not_few few =
          let same = same_members few.from few.to few.members few.period few.are_members in
          let fewer = few.few in
          let e : length few.members ≡ length u = ap length same in
          omega (arith, fewer, e, enough)

      -- with a member that has no observation day
      pub refused_member : (d : ℤ) → IsPeriodMember p.days a b d → ((o : ℤ) → ObservesOn p.offset p.days d o → ⊥)
          → First reported_before (LacksObservations p) NoDay
      refused_member d is none =
          no_day_first p
          (unobserved (record { from = a; to = b; period = period; member = d; is_member = is; none = none }))
          not_few

      member_same : (c d x : ℤ) → IsObservationPeriod p c d → IsPeriodMember p.days c d x → IsPeriodMember p.days a b x
      member_same c d x other is =
          let start = one_start p c d a b other period in
          let end = one_end p c d a b other period in
          subst (λ (z : ℤ). IsPeriodMember p.days a z x) end (subst (λ (z : ℤ). IsPeriodMember p.days z d x) start is)

      -- nothing is lacking where each member has an observation day
      pub none_lacks : ((k : ℕ) → k < length u → (o : ℤ) × ObservesOn p.offset p.days (day_at u k) o)
          → (y : NoObservations) → LacksObservations p y → ⊥
      none_lacks observes FewMembers few = not_few few
      none_lacks observes NoDay (no_period none) = none a b period
      none_lacks observes NoDay (uncovered h) = covered (leaves_same h.from h.to h.period h.leaves)
      none_lacks observes NoDay (unobserved h) =
          let is = member_same h.from h.to h.member h.period h.is_member in
          let at = member_place h.member u (are.complete h.member is) in
          let observed = observes at.0 at.1 in
          h.none observed.0 (subst (λ (x : ℤ). ObservesOn p.offset p.days x observed.0) (sym at.2) observed.1)

-- each member has an observation day where each takes one
pub observes : (offset : ObservationOffset) (set : DaySet) (q : ℤ) (u : List ℤ) (b : ℤ) (os : List Observation)
    → IsWalk set q u b → AreObserved offset set u b os → (k : ℕ) → k < length u
    → (o : ℤ) × ObservesOn offset set (day_at u k) o
observes Absent set q u b os walk are k h = (good_at q u k, prev_at set q u b walk k h)
observes (Shift n) set q u b os walk are k h = (good_at q u k, prev_at set q u b walk k h)
observes (Lookback n) set q u b os walk are k h =
    let many = are.many in
    let at = numbered_has _ 0 os k are.each (omega arith) (omega (arith, many, h)) in
    let place : place_observed (Lookback n) (length u) k ≡ k = own_place (length u) k h in
    (at.0.observed, subst (λ (j : ℕ). ObservesOn (Lookback n) set (day_at u j) at.0.observed) place at.1.observed)
observes (Lockout n) set q u b os walk are k h = (good_at q u k, prev_at set q u b walk k h)

-- a test that answers false does not hold
pub is_not : (b : Bool) → b ≡ false → IsTrue b → ⊥
is_not b p q = cc (p, q)

-- what holds where a call stops, holds in other words
pub stopped_as : {F : Type 0} (P Q : F → Type 0) (e : Stopped F) → ((f : F) → P f → Q f) → IfStopped e P → IfStopped e Q
stopped_as P Q (OfBroken f) law h = law f h
stopped_as P Q OfMemory law h = tt
