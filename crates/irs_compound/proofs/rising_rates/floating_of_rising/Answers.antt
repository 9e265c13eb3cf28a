use Rattle.std.proofs.Common.{rules, ◌≡◌, ◌^◌, pos, ◌+ℤ◌, ◌*ℤ◌, FitsSigned}
use Rattle.std.specs.Int.{w64, w128}
use Rattle.std.proofs.lemmas.Int.{to_z-of_z}
use Rattle.irs_compound.specs.PeriodRates.{rate_by_rounding}
use Rattle.irs_compound.specs.Private.RateLaws.{all_in_at, rates_value}
use Rattle.irs_compound.proofs.rising_rates.floating_of_rising.Goals as goal

pub returns : goal.returns
returns c =
    let f = c.args.f.now in
    let observed = c.args.observed in
    let multiplier = c.rate_of_rising-multiplier.result in
    let spread = c.rate_of_rising-spread.result in
    let rates = c.rates_from.result in
    let fo : FitsSigned w64 observed = c.ranges.observed in
    let fm : FitsSigned w128 multiplier = search rules in
    let fs : FitsSigned w128 spread = search rules in
    let base : rates.base ≡ rate_by_rounding f.rounding (multiplier *ℤ observed) = simp to_z-of_z at c.rates_from.ensures.base in
    let all_in : rates.all_in ≡ all_in_at f (multiplier *ℤ observed +ℤ spread *ℤ pos (10 ^ 9)) =
    simp to_z-of_z at c.rates_from.ensures.all_in in
    rates_value f c.args.start observed multiplier spread rates c.rate_of_rising-multiplier.ensures.value
    c.rate_of_rising-spread.ensures.value base all_in
