use Rattle.irs_observed.proofs.FirstOvernight.{stops_day, stops_few}
use Rattle.irs_observed.specs.OvernightRates.{OvernightSource, overnight_source}
use Rattle.irs_observed.proofs.overnight_rates.first_broken.Goals as goal

pub returns-in-FewMembers : goal.returns-in-FewMembers
returns-in-FewMembers g c =
    let source : OvernightSource =
    overnight_source c.args.s.now c.args.span.now c.args.adjusted.now (g.G.GoodDays.days c.args.applicable.now)
    c.args.float.now c.args.parameters.now in
    rw c.observation_fault.ensures (stops_few source c.args.first c.requires.first c.in-FewMembers.is)

pub returns-in_ok-few-in-NoDay : goal.returns-in_ok-few-in-NoDay
returns-in_ok-few-in-NoDay g c =
    let source : OvernightSource =
    overnight_source c.args.s.now c.args.span.now c.args.adjusted.now (g.G.GoodDays.days c.args.applicable.now)
    c.args.float.now c.args.parameters.now in
    rw c.few_or_none.ensures
    (stops_day source c.args.first c.requires.first c.in-NoDay.is c.in_ok-few-in-NoDay.few c.in_ok-few-in-NoDay.ensures)
