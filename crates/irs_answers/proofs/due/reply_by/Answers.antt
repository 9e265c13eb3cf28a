use Rattle.irs_answers.specs.Forms.{source_by, given_with}
use Rattle.irs_answers.proofs.NoteLemmas.{noted_caused, noted_placed, refused_noted}
use Rattle.irs_answers.proofs.due.reply_by.Goals as goal

pub returns-in-Err-clause-cause : goal.returns-in-Err-clause-cause
returns-in-Err-clause-cause c = noted_caused c.args.task c.refused_reply.result c.refused_reply.ensures.judged

pub returns-in-Err-clause-placed : goal.returns-in-Err-clause-placed
returns-in-Err-clause-placed c =
    let files = c.args.files.now in
    noted_placed (source_by files.document) (source_by files.flows) c.refused_reply.result c.in-Err.refusal
    c.refused_reply.ensures.refused c.in-Err.ensures.unread

pub returns-in-Err-clause-noted : goal.returns-in-Err-clause-noted
returns-in-Err-clause-noted c =
    refused_noted c.args.task (given_with c.args.files.now c.args.common.now.files) c.refused_reply.result
    c.in-Err.refusal c.refused_reply.ensures.refused c.refused_reply.ensures.noted
