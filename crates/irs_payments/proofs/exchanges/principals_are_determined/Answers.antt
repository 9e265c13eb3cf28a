use Rattle.irs_payments.proofs.Outcomes.{principals_determined}
use Rattle.irs_payments.proofs.exchanges.principals_are_determined.Goals as goal

pub returns : goal.returns
returns g c = search (principals_determined)
