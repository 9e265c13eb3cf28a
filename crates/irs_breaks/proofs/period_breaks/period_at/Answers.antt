use Rattle.irs_breaks.proofs.PaymentsTold.{small_there}
use Rattle.irs_breaks.proofs.period_breaks.period_at.Goals as goal

pub returns-in-Some-clause-small : goal.returns-in-Some-clause-small
returns-in-Some-clause-small c =
    small_there c.args.part.now c.in-Some.n c.period.result c.period.ensures.bounds c.period.ensures.value
