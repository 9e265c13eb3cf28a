use Rattle.std.proofs.Common.{Ok}
use Rattle.irs_answers.specs.declared.refusals.Refusal.TheVariants.{Memory}
use Rattle.irs_answers.specs.Due.{DueFor, facts_by, Ends}
use Rattle.irs_answers.specs.Private.Outcomes.{IfRefused}
use Rattle.irs_answers.specs.Forms.{source_by, given_with, IsPlacedRefusal}
use Rattle.irs_answers.proofs.CauseLemmas.{caused_by}
use Rattle.irs_answers.proofs.DueLemmas.{passed_refusal, passed_reply, refused_due}
use Rattle.irs_answers.proofs.NoteLemmas.{carried_noted, made_by_passing}
use Rattle.irs_answers.proofs.StepLemmas.{refused_by}
use Rattle.irs_answers.proofs.due.carry_out.Goals as goal

pub fixed_note-requires : goal.fixed_note-requires
fixed_note-requires c =
    made_by_passing c.args.task (given_with c.args.files.now c.args.common.now.files) (facts_by c.in_ok-found.found)
    c.in_ok-found.ensures.lawful c.in_ok-found.ensures.passes

pub returns-in_err-found-clause-refused : goal.returns-in_err-found-clause-refused
returns-in_err-found-clause-refused c =
    let made = c.from_residual in
    let e = c.in_err-found.field-0.0 in
    let t = c.args.task in
    let g = given_with c.args.files.now c.args.common.now.files in
    refused_by made.result e (λ r. IfRefused r (Ends (DueFor t g))) made.ensures.0 made.ensures.1
    (refused_due t g e c.in_err-found.ensures.refused)

pub returns-in_err-found-clause-unread : goal.returns-in_err-found-clause-unread
returns-in_err-found-clause-unread c =
    let made = c.from_residual in
    let files = c.args.files.now in
    refused_by made.result c.in_err-found.field-0.0 (IsPlacedRefusal (source_by files.document) (source_by files.flows))
    made.ensures.0 made.ensures.1 c.in_err-found.ensures.placed

pub returns-in_err-note-clause-refused : goal.returns-in_err-note-clause-refused
returns-in_err-note-clause-refused c =
    let made = c.from_residual-in_err-note in
    let g = given_with c.args.files.now c.args.common.now.files in
    refused_by made.result Memory (λ r. IfRefused r (Ends (DueFor c.args.task g))) made.ensures.0 made.ensures.1 tt

pub returns-in_err-note-clause-unread : goal.returns-in_err-note-clause-unread
returns-in_err-note-clause-unread c =
    let made = c.from_residual-in_err-note in
    let files = c.args.files.now in
    refused_by made.result Memory (IsPlacedRefusal (source_by files.document) (source_by files.flows))
    made.ensures.0 made.ensures.1 tt

pub returns-in_err-reply-clause-refused : goal.returns-in_err-reply-clause-refused
returns-in_err-reply-clause-refused c =
    let made = c.from_residual-in_err-reply in
    let e = c.in_err-reply.field-0.0 in
    let t = c.args.task in
    let g = given_with c.args.files.now c.args.common.now.files in
    refused_by made.result e (λ r. IfRefused r (Ends (DueFor t g))) made.ensures.0 made.ensures.1
    (passed_refusal t g (facts_by c.in_ok-found.found) c.in_ok-found.ensures.passes e c.in_err-reply.ensures.meets)

pub returns-in_err-reply-clause-unread : goal.returns-in_err-reply-clause-unread
returns-in_err-reply-clause-unread c =
    let made = c.from_residual-in_err-reply in
    let files = c.args.files.now in
    refused_by made.result c.in_err-reply.field-0.0 (IsPlacedRefusal (source_by files.document) (source_by files.flows))
    made.ensures.0 made.ensures.1 c.in_err-reply.ensures.placed

pub returns-clause-due : goal.returns-clause-due
returns-clause-due c =
    passed_reply c.args.task (given_with c.args.files.now c.args.common.now.files) (facts_by c.in_ok-found.found)
    c.in_ok-found.ensures.passes c.in_ok-reply.reply c.in_ok-reply.ensures.carried c.in_ok-reply.ensures.meets

pub returns-clause-cause : goal.returns-clause-cause
returns-clause-cause c = caused_by c.args.task (Ok c.in_ok-reply.reply) c.in_ok-reply.ensures.judged

pub returns-clause-noted : goal.returns-clause-noted
returns-clause-noted c =
    carried_noted c.args.task (given_with c.args.files.now c.args.common.now.files) (facts_by c.in_ok-found.found)
    c.in_ok-reply.reply c.in_ok-note.note c.in_ok-found.ensures.passes c.in_ok-reply.ensures.carried
    c.in_ok-note.ensures
