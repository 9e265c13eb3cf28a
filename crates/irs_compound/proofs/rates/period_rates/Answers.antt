use Rattle.std.proofs.Common.{◌≡◌, sym, subst, FitsSigned}
use Rattle.std.specs.Int.{w64}
use Rattle.std.proofs.lemmas.Int.{to_z-of_z}
use Rattle.irs_compound.specs.declared.periods.Rates.{Rates}
use Rattle.irs_compound.specs.PeriodRates.{RatesOf, rates_of}
use Rattle.irs_compound.specs.Private.RateLaws.{rates_are}
use Rattle.irs_compound.proofs.rates.period_rates.Goals as goal

pub returns-clause-rates : goal.returns-clause-rates
returns-clause-rates c =
    let f : FitsSigned w64 c.args.observed = c.ranges.observed in
    let e : c.rates_on.result ≡ rates_of c.args.f.now c.args.start c.args.observed =
    simp to_z-of_z at c.rates_on.ensures.value in
    subst (λ (r : Rates). RatesOf c.args.f.now c.args.start c.args.observed r) (sym e)
    (rates_are c.args.f.now c.args.start c.args.observed)
