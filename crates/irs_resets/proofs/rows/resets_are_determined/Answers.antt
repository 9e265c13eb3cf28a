use Rattle.irs_resets.proofs.Outcomes.{resets_determined}
use Rattle.irs_resets.proofs.rows.resets_are_determined.Goals as goal

pub returns : goal.returns
returns g c = search (resets_determined)
