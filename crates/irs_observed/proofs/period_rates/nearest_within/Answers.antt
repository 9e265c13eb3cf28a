use Rattle.std.proofs.Common.{rules, ◌*◌, ◌^◌, FitsSigned}
use Rattle.std.specs.Int.{w128}
use Rattle.std.proofs.lemmas.Int.{to_z-of_z}
use Rattle.irs_base.specs.Limits.{Rounded}
use Rattle.irs_base.specs.declared.rounding.Direction.TheVariants.{Nearest}
use Rattle.irs_observed.specs.ObservedRates.{most_observed}
use Rattle.irs_observed.proofs.SizeLemmas.{rounded_within}
use Rattle.irs_observed.proofs.period_rates.nearest_within.Goals as goal

pub returns-clause-size : goal.returns-clause-size
returns-clause-size c =
    let exact : FitsSigned w128 c.args.exact = c.ranges.exact in
    let denominator : FitsSigned w128 c.args.denominator = c.ranges.denominator in
    let fits : FitsSigned w128 c.round.result = search rules in
    let r : Rounded Nearest c.args.exact c.args.denominator c.round.result = simp to_z-of_z at c.round.ensures.relation in
    simp to_z-of_z (rounded_within Nearest c.args.exact c.args.denominator c.round.result (most_observed * 10 ^ 9)
    c.requires.above c.requires.size r)
