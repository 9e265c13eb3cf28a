use Rattle.irs_payments.proofs.Outcomes.{steps_determined}
use Rattle.irs_payments.proofs.steps.steps_are_determined.Goals as goal

pub returns : goal.returns
returns c = steps_determined c.args.s.now c.args.unadjusted.now
