use Rattle.irs_audit.proofs.StatedLemmas.{flows_agree}
use Rattle.irs_audit.proofs.stating.flows_of.Goals as goal

pub returns-clause-agrees : goal.returns-clause-agrees
returns-clause-agrees c = flows_agree c.args.s.now c.bounds.ensures
