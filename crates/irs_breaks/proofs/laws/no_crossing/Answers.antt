use Rattle.irs_breaks.proofs.PairLaws.{pairs_dont_cross}
use Rattle.irs_breaks.proofs.laws.no_crossing.Goals as goal

pub returns : goal.returns
returns c = pairs_dont_cross
