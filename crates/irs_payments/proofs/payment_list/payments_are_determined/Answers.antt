use Rattle.irs_payments.proofs.Outcomes.{payments_determined}
use Rattle.irs_payments.proofs.payment_list.payments_are_determined.Goals as goal

pub returns : goal.returns
returns g c = search (payments_determined)
