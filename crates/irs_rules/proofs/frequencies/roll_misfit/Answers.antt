use Rattle.irs_rules.proofs.First.{says}
use Rattle.irs_rules.proofs.frequencies.roll_misfit.Goals as goal

pub returns : goal.returns
returns c = says _ _ _ _ _ c.frequency_suits.ensures c.fault_unless.ensures
