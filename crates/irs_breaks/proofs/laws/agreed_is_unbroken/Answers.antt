use Rattle.irs_breaks.proofs.Agreed.{no_break}
use Rattle.irs_breaks.proofs.laws.agreed_is_unbroken.Goals as goal

pub returns : goal.returns
returns c = λ from s f l within agree h broken. broken (no_break from s f l within agree h)
