use Rattle.irs_observed.proofs.FirstOvernight.{none_breaks}
use Rattle.irs_observed.specs.OvernightRates.{OvernightSource, overnight_source}
use Rattle.irs_observed.proofs.overnight_rates.overnight_rates.Goals as goal

pub returns-in-Ok-clause-meets : goal.returns-in-Ok-clause-meets
returns-in-Ok-clause-meets g c =
    let source : OvernightSource =
    overnight_source c.args.s.now c.args.span.now c.args.adjusted.now (g.G.GoodDays.days c.args.applicable.now)
    c.args.float.now c.args.parameters.now in
    (none_breaks source c.in-Ok.ensures.none, c.in-Ok.ensures.ok)
