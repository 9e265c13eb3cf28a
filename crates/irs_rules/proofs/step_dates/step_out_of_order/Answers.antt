use Rattle.irs_rules.proofs.First.{either}
use Rattle.irs_rules.proofs.step_dates.step_out_of_order.Goals as goal

pub returns : goal.returns
returns c = either _ _ _ _ _ c.earlier.ensures c.first_out-notional.ensures c.first_in_leg.ensures
