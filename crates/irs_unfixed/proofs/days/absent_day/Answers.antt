use Rattle.irs_observed.specs.ObservedRates.{DailyRates, daily_rates}
use Rattle.irs_observed.specs.Observations.{ObservedPeriod, observed_period}
use Rattle.irs_unfixed.proofs.AbsentLemmas.{not_known}
use Rattle.irs_unfixed.proofs.days.absent_day.Goals as goal

pub unreachable-requires : goal.unreachable-requires
unreachable-requires g c =
    let daily : DailyRates = daily_rates c.args.fixings.now c.args.index.now in
    let p : ObservedPeriod =
    observed_period c.args.offset (g.G.GoodDays.days c.args.days.now) c.args.start c.args.end in
    not_known daily p c.in-Ok.all c.in-Ok.ensures.meets.1 c.requires.absent
    (rw (c.of.ensures, c.as_slice.ensures.value) at c.in-None.ensures.none)

pub returns-in-Some : goal.returns-in-Some
returns-in-Some g c =
    record {
      observations = c.in-Ok.all;
      are_observations = c.in-Ok.ensures.meets.1;
      first = rw (c.of.ensures, c.as_slice.ensures.value) at c.in-Some.ensures.some;
    }
