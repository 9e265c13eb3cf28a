use Rattle.irs_breaks.specs.Findings.{reset_or_nothing}
use Rattle.irs_breaks.proofs.FieldTies.{reset_comparable, reset_ties}
use Rattle.irs_breaks.proofs.fields.reset_fields.Goals as goal

pub returns-clause-ties : goal.returns-clause-ties
returns-clause-ties c = reset_ties c.args.x.now (reset_or_nothing c.args.stated)

pub returns-clause-comparable : goal.returns-clause-comparable
returns-clause-comparable c = reset_comparable c.args.x.now (reset_or_nothing c.args.stated)
