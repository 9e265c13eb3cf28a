use Rattle.irs_answers.specs.Forms.{no_source_text, xml_text}
use Rattle.irs_answers.proofs.CarrierLemmas.{refused_carries}
use Rattle.irs_answers.proofs.UnreadLemmas.{reply_placed}
use Rattle.irs_answers.proofs.carrying.carrier.Goals as goal

pub returns-in-Err-clause-reads_back : goal.returns-in-Err-clause-reads_back
returns-in-Err-clause-reads_back c =
    refused_carries c.in-Err.refusal c.args.bytes.now c.reply.result c.in-Err.ensures.due c.reply.ensures.answer

pub returns-in-Err-clause-placed : goal.returns-in-Err-clause-placed
returns-in-Err-clause-placed c =
    reply_placed (xml_text c.args.bytes.now) no_source_text c.reply.result c.in-Err.refusal c.reply.ensures.refused
    c.in-Err.ensures.placed
