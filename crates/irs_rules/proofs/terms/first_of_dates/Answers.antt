use Rattle.irs_rules.proofs.First.{either}
use Rattle.irs_rules.proofs.terms.first_of_dates.Goals as goal

pub returns : goal.returns
returns c =
    either _ _ _ _ _ c.earlier-3.ensures c.date_out_of_order-order.ensures
    (either _ _ _ _ _ c.earlier-2.ensures c.roll_misfit-roll.ensures
    (either _ _ _ _ _ c.earlier.ensures c.payment_misfit-frequency.ensures c.payment_date_misfit-payments.ensures))
