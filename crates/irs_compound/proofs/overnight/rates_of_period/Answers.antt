use Rattle.std.proofs.Common.{sym, subst}
use Rattle.irs_compound.specs.Private.RateLaws.{rates_in_are}
use Rattle.irs_compound.specs.PeriodRates.{AreRatesIn}
use Rattle.irs_compound.proofs.OvernightSizes.{above_in}
use Rattle.irs_compound.proofs.overnight.rates_of_period.Goals as goal

pub returns-clause-rates : goal.returns-clause-rates
returns-clause-rates c =
    let leg = c.args.leg.now in
    subst (AreRatesIn leg c.args.start c.args.observed c.args.overnight.now) (sym c.rates_in.ensures.value)
    (rates_in_are leg c.args.start c.args.observed c.args.overnight.now
    (above_in c.args.overnight.now c.requires.overnight_fits))
