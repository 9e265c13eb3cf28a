use Rattle.irs_answers.specs.Forms.{source_by}
use Rattle.irs_answers.proofs.UnreadLemmas.{placed_by}
use Rattle.irs_answers.proofs.answers.audit_answer.Goals as goal

pub returns-in_err-verdict_on-clause-placed : goal.returns-in_err-verdict_on-clause-placed
returns-in_err-verdict_on-clause-placed c =
    let e = c.in_err-verdict_on.field-0.0 in
    let made = c.from_residual in
    let flows = source_by c.args.flows.now in
    λ document. placed_by document flows made.result e made.ensures.0 made.ensures.1
    (c.in_err-verdict_on.ensures.placed document)
