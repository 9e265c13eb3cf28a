use Rattle.irs_compound.specs.Private.RateLaws.{one_rates_in}
use Rattle.irs_compound.proofs.overnight.overnight_rates_are_determined.Goals as goal

pub returns : goal.returns
returns c = λ x y a b.
    one_rates_in c.args.leg.now c.args.start c.args.observed c.args.overnight.now x y c.requires.rises c.requires.above a b
