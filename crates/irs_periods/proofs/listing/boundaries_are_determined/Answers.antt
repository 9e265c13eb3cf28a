use Rattle.irs_periods.proofs.Outcomes.{boundaries_determined}
use Rattle.irs_periods.proofs.listing.boundaries_are_determined.Goals as goal

pub returns : goal.returns
returns c = search (boundaries_determined)
