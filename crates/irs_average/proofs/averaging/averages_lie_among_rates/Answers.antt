use Rattle.irs_overnight.specs.Overnight.{asked}
use Rattle.irs_average.specs.Averages.{AverageAsked, averaged}
use Rattle.irs_average.proofs.AverageLemmas.{lie_among}
use Rattle.irs_average.proofs.averaging.averages_lie_among_rates.Goals as goal

pub returns : goal.returns
returns g c =
    let a : AverageAsked =
    averaged (asked c.args.swap.now c.args.stream c.args.s.now (g.G.GoodDays.days c.args.days.now) c.args.fix.now)
    c.args.kind c.args.step in
    lie_among a c.bounds.ensures.each
