use Rattle.irs_observed.proofs.OutcomeLemmas.{observations_determined}
use Rattle.irs_observed.proofs.walk.observations_are_determined.Goals as goal

pub returns : goal.returns
returns g c = observations_determined _
