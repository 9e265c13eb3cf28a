use Rattle.std.proofs.Common.{◌≤◌, Option, IfSome, sym, subst, unsigned_abs}
use Rattle.irs_compound.specs.PeriodRates.{AreRates, most_rounded_rate}
use Rattle.irs_compound.specs.Private.RateLaws.{rates_by_are}
use Rattle.irs_compound.specs.declared.periods.Rates.{Rates}
use Rattle.irs_compound.proofs.RateSizes.{rate_size}
use Rattle.irs_compound.proofs.rising_rates.rates_of_rising.Goals as goal

pub returns-clause-rates : goal.returns-clause-rates
returns-clause-rates c =
    let leg = c.args.leg.now in
    subst (AreRates leg c.args.start c.args.observed) (sym c.rates_by_leg.ensures)
    (rates_by_are leg c.args.start c.args.observed)

pub returns-clause-size : goal.returns-clause-size
returns-clause-size c =
    let IsSmall : Option Rates → Type 0 = λ x. IfSome x (λ r. unsigned_abs r.all_in ≤ most_rounded_rate) in
    subst IsSmall (sym c.rates_by_leg.ensures)
    (rate_size c.args.leg.now c.args.start c.args.observed c.requires.leg c.requires.observed_fits)
