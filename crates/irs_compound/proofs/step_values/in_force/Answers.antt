use Rattle.std.proofs.Common.{rules, ℤ, subst, sym, FitsSigned}
use Rattle.std.specs.Int.{w128}
use Rattle.std.proofs.lemmas.Int.{to_z-of_z}
use Rattle.irs_compound.specs.PeriodRates.{InForce}
use Rattle.irs_compound.specs.Private.RateLaws.{in_force_is}
use Rattle.irs_compound.proofs.step_values.in_force.Goals as goal

pub returns-clause-relation : goal.returns-clause-relation
returns-clause-relation c =
    let f : FitsSigned w128 c.value_on.result = search rules in
    simp to_z-of_z (subst (λ (v : ℤ). InForce c.args.values.now c.args.d v) (sym c.value_on.ensures)
    (in_force_is c.args.values.now c.args.d))
