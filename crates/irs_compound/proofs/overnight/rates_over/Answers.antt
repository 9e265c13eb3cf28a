use Rattle.std.proofs.Common.{rules, arith, ◌≡◌, pos, FitsSigned}
use Rattle.std.specs.Int.{w64, w128}
use Rattle.std.proofs.lemmas.Int.{to_z-of_z, ints}
use Rattle.irs_observed.specs.ObservedRates.{period_rate_at}
use Rattle.irs_compound.specs.Private.RateLaws.{rates_over_by}
use Rattle.irs_compound.specs.PeriodRates.{treated}
use Rattle.irs_compound.proofs.overnight.rates_over.Goals as goal

pub returns-clause-value : goal.returns-clause-value
returns-clause-value c =
    let f = c.args.f.now in
    let x = c.args.x.now in
    let multiplier = c.rate_of_rising-multiplier.result in
    let spread = c.rate_of_rising-spread.result in
    let rates = c.rates_over_by.result in
    let sm = c.rate_of_rising-multiplier.ensures.size in
    let ss = c.rate_of_rising-spread.ensures.size in
    let wm : FitsSigned w128 multiplier = search rules in
    let ws : FitsSigned w128 spread = search rules in
    let fm : FitsSigned w64 multiplier = omega (arith, ints, sm) in
    let fs : FitsSigned w64 spread = omega (arith, ints, ss) in
    let base : rates.base ≡ period_rate_at x multiplier (pos 0) f.rounding =
    simp to_z-of_z at c.rates_over_by.ensures.base in
    let all_in : rates.all_in ≡ treated f.treatment (period_rate_at x multiplier spread f.rounding) =
    simp to_z-of_z at c.rates_over_by.ensures.all_in in
    rates_over_by f c.args.start x multiplier spread rates c.rate_of_rising-multiplier.ensures.value
    c.rate_of_rising-spread.ensures.value base all_in
