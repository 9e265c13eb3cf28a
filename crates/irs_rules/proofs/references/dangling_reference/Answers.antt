use Rattle.irs_rules.proofs.First.{either}
use Rattle.irs_rules.proofs.references.dangling_reference.Goals as goal

pub returns : goal.returns
returns c =
    either _ _ _ _ _ c.earlier-3.ensures c.in_periods.ensures
    (either _ _ _ _ _ c.earlier-2.ensures c.in_payments.ensures
    (either _ _ _ _ _ c.earlier.ensures c.in_given_resets.ensures c.in_stubs.ensures))
