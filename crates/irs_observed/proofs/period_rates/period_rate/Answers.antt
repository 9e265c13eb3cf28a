use Rattle.std.proofs.Common.{rules, arith, ℤ, FitsSigned}
use Rattle.std.specs.Int.{w64, w128}
use Rattle.std.proofs.lemmas.Int.{to_z-of_z, ints}
use Rattle.irs_observed.specs.ObservedRates.{IsPeriodRate}
use Rattle.irs_observed.proofs.PeriodRateLaws.{period_rate_value}
use Rattle.irs_observed.proofs.SizeLemmas.{period_rate_of}
use Rattle.irs_observed.proofs.period_rates.period_rate.Goals as goal

pub returns-clause-rate : goal.returns-clause-rate
returns-clause-rate c =
    let n : ℤ = c.parts-numerator.result.0 in
    let d : ℤ = c.parts-numerator.result.1 in
    let fm : FitsSigned w64 c.args.multiplier = c.ranges.multiplier in
    let fs : FitsSigned w64 c.args.spread = c.ranges.spread in
    let fn : FitsSigned w128 c.parts-numerator.result.0 = search rules in
    let fd : FitsSigned w128 c.parts-numerator.result.1 = search rules in
    let fr : FitsSigned w128 c.rate_by.result = search rules in
    let size = c.rate_by.ensures.size in
    let small : FitsSigned w64 c.rate_by.result = omega (arith, ints, size) in
    let is : IsPeriodRate (record { numerator = n; denominator = d }) c.args.multiplier c.args.spread c.args.rounding
    c.rate_by.result = simp to_z-of_z at c.rate_by.ensures.rate in
    let all = period_rate_of c.args.x n d c.args.multiplier c.args.spread c.rate_by.result c.args.rounding
    c.parts-numerator.ensures.numerator c.parts-numerator.ensures.denominator is in
    simp to_z-of_z all

pub returns-clause-value : goal.returns-clause-value
returns-clause-value c =
    let above = c.parts-numerator.ensures.bounds.above in
    let fm : FitsSigned w64 c.args.multiplier = c.ranges.multiplier in
    let fs : FitsSigned w64 c.args.spread = c.ranges.spread in
    let is = returns-clause-rate c in
    period_rate_value c.args.x above c.args.multiplier c.args.spread c.args.rounding _ is
