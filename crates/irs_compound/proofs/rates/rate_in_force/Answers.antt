use Rattle.std.proofs.Common.{rules, FitsSigned}
use Rattle.std.specs.Int.{w128}
use Rattle.std.proofs.lemmas.Int.{to_z-of_z}
use Rattle.irs_terms.specs.Lawful.{IsRate}
use Rattle.irs_compound.specs.Private.RateLaws.{in_force_within}
use Rattle.irs_compound.proofs.rates.rate_in_force.Goals as goal

pub returns-clause-size : goal.returns-clause-size
returns-clause-size c =
    let f : FitsSigned w128 c.in_force.result = search rules in
    simp to_z-of_z (in_force_within IsRate c.args.values.now c.args.d c.in_force.result c.requires
    c.in_force.ensures.relation)
