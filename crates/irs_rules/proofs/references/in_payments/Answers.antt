use Rattle.irs_rules.proofs.First.{either}
use Rattle.irs_rules.proofs.references.in_payments.Goals as goal

pub returns : goal.returns
returns c = either _ _ _ _ _ c.earlier.ensures c.target_of-periods.ensures c.list_of-centers.ensures
