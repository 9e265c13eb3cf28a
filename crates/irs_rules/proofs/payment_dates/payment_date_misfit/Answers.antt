use Rattle.irs_rules.proofs.First.{either, says}
use Rattle.irs_rules.proofs.payment_dates.payment_date_misfit.Goals as goal

pub returns : goal.returns
returns c =
    either _ _ _ _ _ c.earlier.ensures (says _ _ _ _ _ c.first_stands.ensures c.fault_unless-first.ensures)
    (says _ _ _ _ _ c.last_stands.ensures c.fault_unless-last.ensures)
