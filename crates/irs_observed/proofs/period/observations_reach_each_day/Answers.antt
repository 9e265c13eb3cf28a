use Rattle.irs_observed.specs.Observations.{ObservedPeriod, observed_period}
use Rattle.irs_observed.proofs.EarlierDays.{period_between}
use Rattle.irs_observed.proofs.period.observations_reach_each_day.Goals as goal

pub returns : goal.returns
returns g c = λ a b period.
    let p : ObservedPeriod =
    observed_period c.args.offset (g.G.GoodDays.days c.args.applicable.now) c.args.start c.args.end in
    period_between p c.args.d a b c.requires.after c.requires.before period
