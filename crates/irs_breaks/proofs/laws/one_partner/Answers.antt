use Rattle.irs_breaks.proofs.PairLaws.{one_partner_each}
use Rattle.irs_breaks.proofs.laws.one_partner.Goals as goal

pub returns : goal.returns
returns c = one_partner_each
