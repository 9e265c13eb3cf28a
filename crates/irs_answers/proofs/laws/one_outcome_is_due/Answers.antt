use Rattle.irs_answers.proofs.AlwaysDue.{always_carried, always_due}
use Rattle.irs_answers.proofs.DueLemmas.{found_passes, passes_found}
use Rattle.irs_answers.proofs.OneAnswer.{due_determined}
use Rattle.irs_answers.proofs.laws.one_outcome_is_due.Goals as goal

pub returns-clause-outcome : goal.returns-clause-outcome
returns-clause-outcome c = due_determined

pub returns-clause-always : goal.returns-clause-always
returns-clause-always c = always_due

pub returns-clause-carrier : goal.returns-clause-carrier
returns-clause-carrier c = always_carried

pub returns-clause-passes : goal.returns-clause-passes
returns-clause-passes c = λ t g f. (passes_found t g f, found_passes t g f)
