use Rattle.irs_rules.proofs.First.{either}
use Rattle.irs_rules.proofs.centers.element_without_centers.Goals as goal

pub returns : goal.returns
returns c =
    either _ _ _ _ _ c.earlier-4.ensures c.lacking-effective.ensures
    (either _ _ _ _ _ c.earlier-3.ensures c.lacking-termination.ensures
    (either _ _ _ _ _ c.earlier-2.ensures c.lacking-periods.ensures
    (either _ _ _ _ _ c.earlier-later.ensures c.lacking_in_first_start-first.ensures
    (either _ _ _ _ _ c.earlier.ensures c.lacking_with-payments.ensures c.lacking_in_given_resets-resets.ensures))))
