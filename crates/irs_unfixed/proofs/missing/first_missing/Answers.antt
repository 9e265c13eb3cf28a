use Rattle.irs_unfixed.proofs.PlaceLemmas.{all_fixed}
use Rattle.irs_unfixed.proofs.missing.first_missing.Goals as goal

pub returns-in-None-clause-none : goal.returns-in-None-clause-none
returns-in-None-clause-none c = all_fixed c.args.schedule.now c.in-None.ensures
