use Rattle.irs_overnight.specs.Overnight.{asked}
use Rattle.irs_overnight.proofs.KeptRows.{ok_three}
use Rattle.irs_average.specs.Averages.{AverageAsked, averaged}
use Rattle.irs_average.proofs.AverageLemmas.{average_reads_back}
use Rattle.irs_average.proofs.averaging.average.Goals as goal

pub returns-clause-fixings : goal.returns-clause-fixings
returns-clause-fixings g c =
    let a : AverageAsked =
    averaged (asked c.args.swap.now c.args.stream c.args.s.now (g.G.GoodDays.days c.args.days.now) c.args.fix.now)
    c.args.kind c.args.step in
    ok_three c.numbered_means.result _ _ _ _
    (λ rows average kept range. average_reads_back a c.requires c.bounds.ensures.each rows average kept range)
    c.numbered_means.ensures.ok c.numbered_means.ensures.kept c.numbered_means.ensures.range
