use Rattle.std.proofs.Common.{inr, refl}
use Rattle.irs_answers.proofs.FlowLemmas.{not_true}
use Rattle.irs_answers.proofs.breaking.listed.Goals as goal

pub returns-else-any-clause-status : goal.returns-else-any-clause-status
returns-else-any-clause-status c = inr ((λ h. not_true c.any.result c.if-any.false (c.any.ensures.1 h)), refl)
