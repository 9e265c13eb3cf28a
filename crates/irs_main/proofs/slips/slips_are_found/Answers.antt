use Rattle.irs_main.proofs.SlipLemmas.{found, only}
use Rattle.irs_main.proofs.slips.slips_are_found.Goals as goal

pub returns-clause-found : goal.returns-clause-found
returns-clause-found c = found

pub returns-clause-only : goal.returns-clause-only
returns-clause-only c = only
