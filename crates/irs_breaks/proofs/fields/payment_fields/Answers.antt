use Rattle.irs_breaks.proofs.FieldTies.{payment_comparable, payment_ties}
use Rattle.irs_breaks.proofs.fields.payment_fields.Goals as goal

pub returns-clause-ties : goal.returns-clause-ties
returns-clause-ties c = payment_ties c.args.currency c.args.x.now c.args.y.now

pub returns-clause-comparable : goal.returns-clause-comparable
returns-clause-comparable c = payment_comparable c.args.currency c.args.x.now c.args.y.now
