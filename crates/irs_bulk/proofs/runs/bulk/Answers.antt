use Rattle.std.proofs.Common.{◌≡◌, ℕ, List, Some, Result, Ok, Err}
use Rattle.std.specs.Prelude.{IfOk}
use Rattle.irs_answers.specs.declared.refusals.Refusal.{Refusal}
use Rattle.irs_answers.specs.declared.replies.Reply.{Reply}
use Rattle.irs_answers.specs.Due.{Ends, answer_of}
use Rattle.irs_answers.specs.Private.Outcomes.{IfRefused}
use Rattle.irs_answers.specs.Messages.{reply_status, reply_text}
use Rattle.irs_answers.proofs.DueLemmas.{ends_by}
use Rattle.irs_bulk.specs.BulkRuns.{DueBulk}
use Rattle.irs_bulk.proofs.BulkRunLemmas.{one_bulk}
use Rattle.irs_bulk.proofs.runs.bulk.Goals as goal

-- the reply of a refusal is what is due
replied : {E : Type 0} (r : Result Reply E) (e : Refusal) (P : ℕ → List ℕ → Type 0)
    → IfOk r (λ x. answer_of e ≡ Some (reply_status x, reply_text x)) → IfRefused e P
    → IfOk r (λ x. P (reply_status x) (reply_text x))
replied (Ok x) e P h k = ends_by e x P h k
replied (Err m) e P h k = tt

pub returns-in-Ok-clause-one : goal.returns-in-Ok-clause-one
returns-in-Ok-clause-one c = λ s u t v h k. one_bulk s u t v c.args.n h k

pub returns-in-Err-clause-one : goal.returns-in-Err-clause-one
returns-in-Err-clause-one c = λ s u t v h k. one_bulk s u t v c.args.n h k

pub returns-in-Err-clause-due : goal.returns-in-Err-clause-due
returns-in-Err-clause-due c =
    replied c.reply.result c.in-Err.refusal (Ends (DueBulk c.args.n)) c.reply.ensures.answer c.in-Err.ensures
