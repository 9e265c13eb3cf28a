use Rattle.std.proofs.Common.{arith, ◌≡◌, pos, FitsSigned, w64, to_z-of_z, to_z, of_z}
use Rattle.std.proofs.Common.{ap}
use Rattle.jiff_core.proofs.SignedLemmas.{signed_arith}
use Rattle.irs_roll.specs.Private.Laws.{steps_fit, no_whole_steps}
use Rattle.irs_roll.proofs.steps.whole_steps.Goals as goal

pub overflow_mul-steps : goal.overflow_mul-steps
overflow_mul-steps c =
    let step : to_z w64 (of_z w64 c.from-step.result) ≡ pos c.args.step =
    omega (arith, signed_arith, c.from-step.ensures) in
    let apart : to_z w64 (of_z w64 c.args.apart) ≡ c.args.apart = to_z-of_z c.ranges.apart in
    let q = c.div_euclid-steps.result in
    let fits : FitsSigned w64 q = record { sfits = c.div_euclid-steps.type_inv } in
    let back : to_z w64 (of_z w64 q) ≡ q = to_z-of_z fits in
    let is = rw (apart, step) at c.div_euclid-steps.ensures in
    rw (back, step) (steps_fit c.args.apart q c.args.step c.requires.step is c.requires.near (omega arith))

pub returns-then-steps-step-clause-none : goal.returns-then-steps-step-clause-none
returns-then-steps-step-clause-none c =
    let step : to_z w64 (of_z w64 c.from-step.result) ≡ pos c.args.step =
    omega (arith, signed_arith, c.from-step.ensures) in
    let apart : to_z w64 (of_z w64 c.args.apart) ≡ c.args.apart = to_z-of_z c.ranges.apart in
    let q = c.div_euclid-steps.result in
    let fits : FitsSigned w64 q = record { sfits = c.div_euclid-steps.type_inv } in
    let back : to_z w64 (of_z w64 q) ≡ q = to_z-of_z fits in
    let is = rw (apart, step) at c.div_euclid-steps.ensures in
    let differs = rw (back, step) at c.if-steps-step.true in
    no_whole_steps c.args.apart q c.args.step c.requires.step is (λ same. differs (ap (of_z w64) same))
