use Rattle.irs_overnight.specs.Overnight.{asked}
use Rattle.irs_average.specs.Averages.{AverageAsked, averaged}
use Rattle.irs_average.proofs.AverageLemmas.{average_there, one_average, one_average_broken}
use Rattle.irs_average.proofs.averaging.averages_are_determined.Goals as goal

pub returns-clause-exists : goal.returns-clause-exists
returns-clause-exists g c =
    let a : AverageAsked =
    averaged (asked c.args.swap.now c.args.stream c.args.s.now (g.G.GoodDays.days c.args.days.now) c.args.fix.now)
    c.args.kind c.args.step in
    average_there a c.requires c.bounds.ensures.each

pub returns-clause-one : goal.returns-clause-one
returns-clause-one g c =
    let a : AverageAsked =
    averaged (asked c.args.swap.now c.args.stream c.args.s.now (g.G.GoodDays.days c.args.days.now) c.args.fix.now)
    c.args.kind c.args.step in
    one_average a c.bounds.ensures.each

pub returns-clause-one_broken : goal.returns-clause-one_broken
returns-clause-one_broken g c =
    let a : AverageAsked =
    averaged (asked c.args.swap.now c.args.stream c.args.s.now (g.G.GoodDays.days c.args.days.now) c.args.fix.now)
    c.args.kind c.args.step in
    one_average_broken a
