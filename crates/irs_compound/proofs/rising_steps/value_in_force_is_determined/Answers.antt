use Rattle.irs_compound.specs.Private.RateLaws.{one_in_force}
use Rattle.irs_compound.proofs.rising_steps.value_in_force_is_determined.Goals as goal

pub returns : goal.returns
returns c = λ v w a b. one_in_force c.args.values.now c.args.d v w c.requires a b
