use Rattle.irs_breaks.proofs.OnePairing.{one_pairing}
use Rattle.irs_breaks.proofs.laws.only_pairing.Goals as goal

pub returns : goal.returns
returns c = λ from ours theirs rows h other k. one_pairing from ours theirs other rows k h
