use Rattle.irs_rules.proofs.First.{either}
use Rattle.irs_rules.proofs.centers.lacking_in_resets.Goals as goal

pub returns : goal.returns
returns c = either _ _ _ _ _ c.earlier.ensures c.lacking_in_fixing-fixing.ensures c.lacking-resets.ensures
