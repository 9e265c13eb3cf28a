use Rattle.std.proofs.Common.{rules, arith, ◌^◌, ℤ, pos, ◌*ℤ◌, FitsSigned}
use Rattle.irs_base.proofs.RoundingLaws.{rounded_value}
use Rattle.irs_base.specs.declared.rounding.Direction.TheVariants.{Nearest}
use Rattle.std.specs.Int.{w64, w128}
use Rattle.std.proofs.lemmas.Int.{to_z-of_z, ints}
use Rattle.irs_observed.specs.ObservedRates.{IsPrintedRate}
use Rattle.irs_observed.proofs.SizeLemmas.{printed_of}
use Rattle.irs_observed.proofs.period_rates.printed_rate.Goals as goal

pub returns-clause-printed : goal.returns-clause-printed
returns-clause-printed c =
    let n : ℤ = c.parts-numerator.result.0 in
    let d : ℤ = c.parts-numerator.result.1 in
    let fn : FitsSigned w128 c.parts-numerator.result.0 = search rules in
    let fd : FitsSigned w128 c.parts-numerator.result.1 = search rules in
    let fr : FitsSigned w128 c.printed.result = search rules in
    let size = c.printed.ensures.size in
    let small : FitsSigned w64 c.printed.result = omega (arith, ints, size) in
    let is : IsPrintedRate (record { numerator = n; denominator = d }) c.printed.result =
    simp to_z-of_z at c.printed.ensures.rounded in
    let all = printed_of c.args.x n d c.printed.result c.parts-numerator.ensures.numerator
    c.parts-numerator.ensures.denominator is in
    simp to_z-of_z all

pub returns-clause-value : goal.returns-clause-value
returns-clause-value c =
    let above = c.parts-numerator.ensures.bounds.above in
    rounded_value Nearest (pos (10 ^ 9) *ℤ c.args.x.numerator) c.args.x.denominator _ above (returns-clause-printed c)
