use Rattle.irs_observed.specs.Observations.{ObservedPeriod, observed_period}
use Rattle.irs_observed.proofs.RunningLemmas.{starts_before}
use Rattle.irs_observed.proofs.running.rate_before.Goals as goal

pub rate_until-requires : goal.rate_until-requires
rate_until-requires g c =
    let p : ObservedPeriod =
    observed_period c.args.offset (g.G.GoodDays.days c.args.applicable.now) c.args.start c.args.end in
    record {
      starts = starts_before p c.in-Ok.all c.args.d c.in-Ok.ensures.meets.1 (rw (← c.all.view_is) c.all.invariant.some)
          c.requires.begun;
    }
