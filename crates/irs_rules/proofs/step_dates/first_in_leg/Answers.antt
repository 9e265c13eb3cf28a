use Rattle.irs_rules.proofs.First.{either}
use Rattle.irs_rules.proofs.step_dates.first_in_leg.Goals as goal

pub returns-in-Floating : goal.returns-in-Floating
returns-in-Floating c =
    rw c.in-Floating.is (either _ _ _ _ _ c.earlier.ensures c.first_out-multiplier.ensures c.first_out-spread.ensures)
