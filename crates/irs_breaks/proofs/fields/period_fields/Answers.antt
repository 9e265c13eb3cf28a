use Rattle.irs_breaks.proofs.FieldTies.{period_comparable, period_ties}
use Rattle.irs_breaks.proofs.fields.period_fields.Goals as goal

pub returns-clause-ties : goal.returns-clause-ties
returns-clause-ties c = period_ties c.args.x.now c.args.y.now

pub returns-clause-comparable : goal.returns-clause-comparable
returns-clause-comparable c = period_comparable c.args.x.now c.args.y.now
