use Rattle.std.proofs.Common.{rules, Some, None, FitsSigned}
use Rattle.std.specs.Int.{w128}
use Rattle.std.proofs.lemmas.Int.{to_z-of_z}
use Rattle.irs_compound.specs.Private.RateLaws.{last_value}
use Rattle.irs_compound.proofs.step_values.value_on.Goals as goal

pub returns-in-None : goal.returns-in-None
returns-in-None c =
    let f : FitsSigned w128 c.args.values.now.initial = search rules in
    simp to_z-of_z (last_value c.args.values.now c.args.d None (rw c.as_slice.ensures at c.in-None.ensures))

pub returns-in-Some : goal.returns-in-Some
returns-in-Some c =
    let f : FitsSigned w128 c.in-Some.step.value = search rules in
    simp to_z-of_z (last_value c.args.values.now c.args.d (Some c.in-Some.step)
    (rw c.as_slice.ensures at c.in-Some.ensures))
