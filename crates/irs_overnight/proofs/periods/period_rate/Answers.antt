use Rattle.std.proofs.Common.{◌-ℤ◌}
use Rattle.irs_overnight.specs.Observations.{DerivedPassesLimit, DailyPeriod, IsFound, derived_period}
use Rattle.irs_overnight.specs.Observations.{AreRateObservations, daily_lines, LacksDays}
use Rattle.irs_overnight.proofs.PeriodLemmas.{none_fails, not_passed}
use Rattle.irs_overnight.proofs.periods.period_rate.Goals as goal

pub returns-in-Some-period_found-clause-ok : goal.returns-in-Some-period_found-clause-ok
returns-in-Some-period_found-clause-ok g c =
    let p : DailyPeriod =
    derived_period c.args.basis (daily_lines c.args.daily.now c.args.index.now)
    (g.G.GoodDays.days c.args.days.now) c.args.start c.args.end in
    let are : AreRateObservations p.lines p.days p.start p.end c.in-Some.observations.items =
    rw c.in-Some.is at c.in_ok-observations.ensures.some in
    let found : IsFound c.args.basis (p.end -ℤ p.start) c.in-Some.observations.items c.in-Some-period_found.found =
    rw c.deref.ensures.value at c.in-Some-period_found.ensures.some in
    record { observations = c.in-Some.observations.items; are = are; is = found }

pub returns-in-Some-period_found-clause-kept : goal.returns-in-Some-period_found-clause-kept
returns-in-Some-period_found-clause-kept g c =
    let p : DailyPeriod =
    derived_period c.args.basis (daily_lines c.args.daily.now c.args.index.now)
    (g.G.GoodDays.days c.args.days.now) c.args.start c.args.end in
    let are : AreRateObservations p.lines p.days p.start p.end c.in-Some.observations.items =
    rw c.in-Some.is at c.in_ok-observations.ensures.some in
    let lacks : LacksDays p.days p.start p.end → ⊥ = rw c.in-Some.is at c.in_ok-observations.ensures.unbroken in
    let kept : DerivedPassesLimit c.args.basis (p.end -ℤ p.start) c.in-Some.observations.items → ⊥ =
    rw c.deref.ensures.value at c.in-Some-period_found.ensures.kept in
    none_fails p lacks (not_passed p c.in-Some.observations.items are kept)

pub returns-clause-broken : goal.returns-clause-broken
returns-clause-broken g c =
    let p : DailyPeriod =
    derived_period c.args.basis (daily_lines c.args.daily.now c.args.index.now)
    (g.G.GoodDays.days c.args.days.now) c.args.start c.args.end in
    let are : AreRateObservations p.lines p.days p.start p.end c.in-Some.observations.items =
    rw c.in-Some.is at c.in_ok-observations.ensures.some in
    let lacks : LacksDays p.days p.start p.end → ⊥ = rw c.in-Some.is at c.in_ok-observations.ensures.unbroken in
    let passes : DerivedPassesLimit c.args.basis (p.end -ℤ p.start) c.in-Some.observations.items =
    rw c.deref.ensures.value at c.in-None.ensures.none in
    (lacks, record { observations = c.in-Some.observations.items; are = are; passes = passes })
