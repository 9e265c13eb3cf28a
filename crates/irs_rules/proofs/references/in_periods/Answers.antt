use Rattle.irs_rules.proofs.First.{either}
use Rattle.irs_rules.proofs.references.in_periods.Goals as goal

pub returns : goal.returns
returns c =
    either _ _ _ _ _ c.earlier-3.ensures c.list_of-effective.ensures
    (either _ _ _ _ _ c.earlier-2.ensures c.list_of-termination.ensures
    (either _ _ _ _ _ c.earlier.ensures c.list_of-periods.ensures c.in_first_start-first.ensures))
