use Rattle.std.proofs.Common.{rules, FitsSigned}
use Rattle.std.specs.Int.{w128}
use Rattle.std.proofs.lemmas.Int.{to_z-of_z}
use Rattle.irs_base.proofs.RoundingLaws.{rounded_value}
use Rattle.irs_base.proofs.rounding.round.Goals as goal

pub returns-clause-value : goal.returns-clause-value
returns-clause-value c =
    let fp : FitsSigned w128 c.args.p = c.ranges.p in
    let fq : FitsSigned w128 c.args.q = c.ranges.q in
    let fr : FitsSigned w128 c.rounded_quotient.result = search rules in
    simp to_z-of_z (rounded_value c.args.dir c.args.p c.args.q c.rounded_quotient.result c.requires.divisor
    (simp to_z-of_z at c.rounded_quotient.ensures))
