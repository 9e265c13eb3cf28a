use Rattle.irs_terms.specs.Elements.{multiplier_step_date, spread_step_date}
use Rattle.irs_payments.specs.Exchanges.{BreaksUnder}
use Rattle.irs_payments.proofs.FirstFaults.{next_checked}
use Rattle.irs_payments.proofs.steps.check_rate_steps.Goals as goal

pub returns-in_ok-check_list-in-Floating : goal.returns-in_ok-check_list-in-Floating
returns-in_ok-check_list-in-Floating c =
    let days = c.args.boundaries.now in
    let terms = c.in-Floating.terms in
    let P = BreaksUnder days multiplier_step_date terms.multiplier.steps in
    let Q = BreaksUnder days spread_step_date terms.spread.steps in
    let none = rw c.as_slice-in-Floating.ensures at (c.in_ok-check_list-in-Floating.ensures {u = tt}) in
    let next = rw c.as_slice-in-Floating-2.ensures at c.check_list-in-Floating-2.ensures in
    rw c.in-Floating.is (next_checked P Q c.check_list-in-Floating-2.result none next)
