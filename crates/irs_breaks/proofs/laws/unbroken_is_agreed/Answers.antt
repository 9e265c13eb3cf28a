use Rattle.irs_breaks.proofs.Converse.{unbroken_agrees}
use Rattle.irs_breaks.proofs.laws.unbroken_is_agreed.Goals as goal

pub returns : goal.returns
returns c = unbroken_agrees
