use Rattle.irs_rules.proofs.Outcomes.{terms_determined}
use Rattle.irs_rules.proofs.terms.terms_are_determined.Goals as goal

pub returns : goal.returns
returns c = terms_determined c.args.swap.now c.args.cal.now c.check_terms-outcome.result c.check_terms-outcome.ensures.meets
