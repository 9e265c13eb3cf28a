use Rattle.irs_rules.proofs.First.{either}
use Rattle.irs_rules.proofs.references.in_resets.Goals as goal

pub returns : goal.returns
returns c =
    either _ _ _ _ _ c.earlier-3.ensures c.target_of-periods.ensures
    (either _ _ _ _ _ c.earlier-2.ensures c.in_fixing-fixing.ensures
    (either _ _ _ _ _ c.earlier.ensures c.target_of-relative.ensures c.list_of-centers.ensures))
