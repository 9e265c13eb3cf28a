use Rattle.irs_terms.specs.Elements.{notional_step_date}
use Rattle.irs_payments.specs.Exchanges.{BreaksUnder, BreaksRateSteps}
use Rattle.irs_payments.proofs.FirstFaults.{next_checked}
use Rattle.irs_payments.proofs.steps.check_steps.Goals as goal

pub returns-in-Ok : goal.returns-in-Ok
returns-in-Ok c =
    let s = c.args.s.now in
    let P = BreaksUnder c.args.unadjusted.now notional_step_date s.notional.steps in
    let Q = BreaksRateSteps s.leg c.args.unadjusted.now in
    let none = rw c.as_slice-steps.ensures at (rw c.as_slice-boundaries.ensures.value at c.in-Ok.ensures) in
    let rates = rw c.as_slice-boundaries.ensures.value at c.check_rate_steps.ensures in
    record { meets = next_checked P Q c.check_rate_steps.result none rates }
