use Rattle.std.proofs.Common.{◌≡◌, ◌<◌, length, arith, subst, sym, List, ℤ}
use Rattle.irs_base.specs.Outcomes.{First}
use Rattle.irs_calendar.specs.GoodDays.{DaySet}
use Rattle.irs_observed.specs.Observations.{ObservedPeriod, observed_period, LacksObservations, reported_before}
use Rattle.irs_observed.specs.Observations.{AreObserved, lockout_days, LeavesCover}
use Rattle.irs_observed.specs.Private.OvernightRates.{IsUnseen, IsWalk}
use Rattle.irs_observed.specs.declared.observation.NoObservations.{NoObservations}
use Rattle.irs_observed.specs.declared.observation.NoObservations.TheVariants.{NoDay}
use Rattle.irs_observed.proofs.OutcomeLemmas.{adds_all, meets_all, refused_first, refused_unseen, walks, weights_all}
use Rattle.irs_observed.proofs.RuleLemmas.{is_not, refused_period, refused_uncovered, stopped_as}
use Rattle.irs_observed.proofs.walk.observations.Goals as goal

pub returns-in_default-clause-meets : goal.returns-in_default-clause-meets
returns-in_default-clause-meets g c =
    let set : DaySet = g.G.GoodDays.days c.args.days.now in
    let p : ObservedPeriod = observed_period c.args.offset set c.args.start c.args.end in
    refused_period p c.in_default.ensures.none

pub returns-then-leaves_cover-clause-meets : goal.returns-then-leaves_cover-clause-meets
returns-then-leaves_cover-clause-meets g c =
    let set : DaySet = g.G.GoodDays.days c.args.days.now in
    let p : ObservedPeriod = observed_period c.args.offset set c.args.start c.args.end in
    refused_uncovered p c.in-Some.period.from c.in-Some.period.to c.in-Some.ensures.some
    (c.leaves_cover.ensures.0 c.if-leaves_cover.true)

pub returns-in_default-prev_good-clause-meets : goal.returns-in_default-prev_good-clause-meets
returns-in_default-prev_good-clause-meets g c =
    let set : DaySet = g.G.GoodDays.days c.args.days.now in
    let p : ObservedPeriod = observed_period c.args.offset set c.args.start c.args.end in
    let covered : LeavesCover set c.in-Some.period.from c.in-Some.period.to → ⊥ = λ h.
    is_not c.leaves_cover.result c.if-leaves_cover.false (c.leaves_cover.ensures.1 h) in
    let len = c.len.ensures in
    let lockout = c.lockout_days.ensures in
    let test = c.if-len-lockout_days.false in
    let enough : lockout_days c.args.offset < length c.in_ok-members.members = omega (arith, len, lockout, test) in
    refused_first p c.in-Some.period.from c.in-Some.period.to c.in-Some.ensures.some covered c.in_ok-members.members
    c.in_ok-members.ensures enough c.in_default-prev_good.ensures.none

pub observed-requires-clause-walk : goal.observed-requires-clause-walk
observed-requires-clause-walk g c =
    let set : DaySet = g.G.GoodDays.days c.args.days.now in
    let p : ObservedPeriod = observed_period c.args.offset set c.args.start c.args.end in
    let covered : LeavesCover set c.in-Some.period.from c.in-Some.period.to → ⊥ = λ h.
    is_not c.leaves_cover.result c.if-leaves_cover.false (c.leaves_cover.ensures.1 h) in
    let len = c.len.ensures in
    let lockout = c.lockout_days.ensures in
    let test = c.if-len-lockout_days.false in
    let enough : lockout_days c.args.offset < length c.in_ok-members.members = omega (arith, len, lockout, test) in
    let walk = walks p c.in-Some.period.from c.in-Some.period.to c.in-Some.ensures.some covered c.in_ok-members.members
    c.in_ok-members.ensures enough c.in-Some-prev_good.first
    c.in-Some-prev_good.ensures.some in
    subst (λ (u : List ℤ). IsWalk set c.in-Some-prev_good.first u c.in-Some.period.to) (sym c.as_slice.ensures.value) walk

pub returns-clause-meets : goal.returns-clause-meets
returns-clause-meets g c =
    let set : DaySet = g.G.GoodDays.days c.args.days.now in
    let p : ObservedPeriod = observed_period c.args.offset set c.args.start c.args.end in
    let covered : LeavesCover set c.in-Some.period.from c.in-Some.period.to → ⊥ = λ h.
    is_not c.leaves_cover.result c.if-leaves_cover.false (c.leaves_cover.ensures.1 h) in
    let len = c.len.ensures in
    let lockout = c.lockout_days.ensures in
    let test = c.if-len-lockout_days.false in
    let enough : lockout_days c.args.offset < length c.in_ok-members.members = omega (arith, len, lockout, test) in
    stopped_as (λ (r : NoObservations). (r ≡ NoDay) × IsUnseen c.args.offset set c.as_slice.result.now)
    (First reported_before (LacksObservations p)) c.in-Err.stopped
    (λ r h. subst (λ (x : NoObservations). First reported_before (LacksObservations p) x) (sym h.0)
    (refused_unseen p c.in-Some.period.from c.in-Some.period.to c.in-Some.ensures.some covered c.in_ok-members.members
    c.in_ok-members.ensures enough
    (subst (λ (u : List ℤ). IsUnseen c.args.offset set u) c.as_slice.ensures.value h.1))) c.in-Err.ensures.broken

pub invariant_of-result : goal.invariant_of-result
invariant_of-result g c =
    let set : DaySet = g.G.GoodDays.days c.args.days.now in
    let p : ObservedPeriod = observed_period c.args.offset set c.args.start c.args.end in
    let covered : LeavesCover set c.in-Some.period.from c.in-Some.period.to → ⊥ = λ h.
    is_not c.leaves_cover.result c.if-leaves_cover.false (c.leaves_cover.ensures.1 h) in
    let len = c.len.ensures in
    let lockout = c.lockout_days.ensures in
    let test = c.if-len-lockout_days.false in
    let enough : lockout_days c.args.offset < length c.in_ok-members.members = omega (arith, len, lockout, test) in
    let observed = subst (λ (u : List ℤ). AreObserved c.args.offset set u c.in-Some.period.to c.in-Ok.all.items)
    c.as_slice.ensures.value c.in-Ok.ensures.ok in
    weights_all p c.in-Some.period.from c.in-Some.period.to c.in-Some.ensures.some covered c.in_ok-members.members
    c.in_ok-members.ensures enough c.in-Some-prev_good.first c.in-Some-prev_good.ensures.some
    c.in-Ok.all.items observed c.number.ensures.range c.number-2.ensures.range

pub returns-in-Ok-clause-meets : goal.returns-in-Ok-clause-meets
returns-in-Ok-clause-meets g c =
    let set : DaySet = g.G.GoodDays.days c.args.days.now in
    let p : ObservedPeriod = observed_period c.args.offset set c.args.start c.args.end in
    let covered : LeavesCover set c.in-Some.period.from c.in-Some.period.to → ⊥ = λ h.
    is_not c.leaves_cover.result c.if-leaves_cover.false (c.leaves_cover.ensures.1 h) in
    let len = c.len.ensures in
    let lockout = c.lockout_days.ensures in
    let test = c.if-len-lockout_days.false in
    let enough : lockout_days c.args.offset < length c.in_ok-members.members = omega (arith, len, lockout, test) in
    let observed = subst (λ (u : List ℤ). AreObserved c.args.offset set u c.in-Some.period.to c.in-Ok.all.items)
    c.as_slice.ensures.value c.in-Ok.ensures.ok in
    meets_all p c.in-Some.period.from c.in-Some.period.to c.in-Some.ensures.some covered c.in_ok-members.members
    c.in_ok-members.ensures enough c.in-Some-prev_good.first c.in-Some-prev_good.ensures.some
    c.in-Ok.all.items observed

pub returns-in-Ok-clause-weights : goal.returns-in-Ok-clause-weights
returns-in-Ok-clause-weights g c =
    let set : DaySet = g.G.GoodDays.days c.args.days.now in
    let p : ObservedPeriod = observed_period c.args.offset set c.args.start c.args.end in
    let covered : LeavesCover set c.in-Some.period.from c.in-Some.period.to → ⊥ = λ h.
    is_not c.leaves_cover.result c.if-leaves_cover.false (c.leaves_cover.ensures.1 h) in
    let len = c.len.ensures in
    let lockout = c.lockout_days.ensures in
    let test = c.if-len-lockout_days.false in
    let enough : lockout_days c.args.offset < length c.in_ok-members.members = omega (arith, len, lockout, test) in
    let observed = subst (λ (u : List ℤ). AreObserved c.args.offset set u c.in-Some.period.to c.in-Ok.all.items)
    c.as_slice.ensures.value c.in-Ok.ensures.ok in
    adds_all p c.in-Some.period.from c.in-Some.period.to c.in-Some.ensures.some covered c.in_ok-members.members
    c.in_ok-members.ensures enough c.in-Some-prev_good.first c.in-Some-prev_good.ensures.some
    c.in-Ok.all.items observed
