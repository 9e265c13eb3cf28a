use Rattle.std.proofs.Common.{rules, ◌≡◌, FitsSigned}
use Rattle.std.specs.Int.{w128}
use Rattle.std.proofs.lemmas.Int.{to_z-of_z}
use Rattle.irs_compound.specs.Private.RateLaws.{fixed_rates_value}
use Rattle.irs_compound.proofs.rising_rates.fixed_of_rising.Goals as goal

pub returns : goal.returns
returns c =
    let rate = c.rate_of_rising.result in
    let fits : FitsSigned w128 rate = search rules in
    let base : c.fixed_from.result.base ≡ rate = simp to_z-of_z at c.fixed_from.ensures.base in
    let all_in : c.fixed_from.result.all_in ≡ rate = simp to_z-of_z at c.fixed_from.ensures.all_in in
    fixed_rates_value c.args.values.now c.args.start rate c.fixed_from.result c.rate_of_rising.ensures.value base all_in
