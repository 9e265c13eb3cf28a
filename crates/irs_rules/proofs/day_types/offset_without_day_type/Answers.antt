use Rattle.irs_rules.proofs.First.{either, says}
use Rattle.irs_rules.proofs.day_types.offset_without_day_type.Goals as goal

pub returns : goal.returns
returns c =
    either _ _ _ _ _ c.earlier.ensures (says _ _ _ _ _ c.is_said.ensures c.fault_unless-payment.ensures)
    (says _ _ _ _ _ c.is_said_reset.ensures c.fault_unless-fixing.ensures)
