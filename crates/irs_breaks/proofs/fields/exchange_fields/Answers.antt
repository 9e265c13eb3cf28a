use Rattle.irs_breaks.proofs.FieldTies.{exchange_comparable, exchange_ties}
use Rattle.irs_breaks.proofs.fields.exchange_fields.Goals as goal

pub returns-clause-ties : goal.returns-clause-ties
returns-clause-ties c = exchange_ties c.args.x.now c.args.y.now

pub returns-clause-comparable : goal.returns-clause-comparable
returns-clause-comparable c = exchange_comparable c.args.x.now c.args.y.now
