use Rattle.irs_periods.proofs.Outcomes.{adjusted_determined}
use Rattle.irs_periods.proofs.adjusting.adjusted_is_determined.Goals as goal

pub returns : goal.returns
returns g c = search (adjusted_determined)
