use Rattle.irs_rules.proofs.First.{either, says}
use Rattle.irs_rules.proofs.date_order.date_out_of_order.Goals as goal

pub returns : goal.returns
returns c =
    either _ _ _ _ _ c.earlier-3.ensures (says _ _ _ _ _ c.ends_after_start.ensures c.fault_unless-termination.ensures)
    (either _ _ _ _ _ c.earlier-2.ensures (says _ _ _ _ _ c.starts_before.ensures c.fault_unless-start.ensures)
    (either _ _ _ _ _ c.earlier.ensures (says _ _ _ _ _ c.is_first_inside.ensures c.fault_unless-first.ensures)
    (says _ _ _ _ _ c.is_last_inside.ensures c.fault_unless-last.ensures)))
