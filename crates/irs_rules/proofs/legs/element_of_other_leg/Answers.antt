use Rattle.irs_rules.proofs.First.{either, says}
use Rattle.irs_rules.proofs.legs.element_of_other_leg.Goals as goal

pub returns : goal.returns
returns c =
    either _ _ _ _ _ c.earlier.ensures (says _ _ _ _ _ c.fits_resets.ensures c.fault_unless-resets.ensures)
    (says _ _ _ _ _ c.fits_stubs.ensures c.fault_unless-stubs.ensures)
