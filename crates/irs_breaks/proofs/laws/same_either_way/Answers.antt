use Rattle.irs_breaks.proofs.Arrangements.{swap_paired}
use Rattle.irs_breaks.proofs.laws.same_either_way.Goals as goal

pub returns : goal.returns
returns c = swap_paired
