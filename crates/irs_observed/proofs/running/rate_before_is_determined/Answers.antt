use Rattle.irs_observed.specs.ObservedRates.{daily_rates}
use Rattle.irs_observed.specs.Observations.{ObservedPeriod, observed_period}
use Rattle.irs_observed.proofs.RunningLemmas.{adds_up_until, one_before}
use Rattle.irs_observed.proofs.running.rate_before_is_determined.Goals as goal

pub returns-clause-one : goal.returns-clause-one
returns-clause-one g c = λ x y h k.
    let p : ObservedPeriod =
    observed_period c.args.offset (g.G.GoodDays.days c.args.applicable.now) c.args.start c.args.end in
    one_before c.args.method (daily_rates c.args.daily.now c.args.index.now) p c.args.d x y h k

pub returns-clause-weights : goal.returns-clause-weights
returns-clause-weights g c = λ os a b has period low high.
    let p : ObservedPeriod =
    observed_period c.args.offset (g.G.GoodDays.days c.args.applicable.now) c.args.start c.args.end in
    adds_up_until p c.args.d os a b has period low high
