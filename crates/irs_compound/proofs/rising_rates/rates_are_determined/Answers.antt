use Rattle.irs_compound.specs.Private.RateLaws.{one_leg_rates}
use Rattle.irs_compound.proofs.rising_rates.rates_are_determined.Goals as goal

pub returns : goal.returns
returns c = λ x y a b. one_leg_rates c.args.leg.now c.args.start c.args.observed x y c.requires a b
