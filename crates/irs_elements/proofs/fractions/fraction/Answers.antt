use Rattle.irs_elements.proofs.DecimalsAt.{fraction_both, one_fraction}
use Rattle.irs_elements.proofs.fractions.fraction.Goals as goal

pub returns-clause-none : goal.returns-clause-none
returns-clause-none c = (fraction_both c.args.text.now c.stated.result c.stated.ensures).1

pub returns-clause-one : goal.returns-clause-one
returns-clause-one c = one_fraction c.args.text.now
