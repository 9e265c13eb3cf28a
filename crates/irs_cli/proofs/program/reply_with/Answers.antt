use Rattle.std.proofs.Common.{ℕ, List, subst}
use Rattle.irs_answers.proofs.CauseLemmas.{cause_holds}
use Rattle.irs_answers.specs.Tasks.{DueCarrier}
use Rattle.irs_answers.specs.Due.{Ends}
use Rattle.irs_answers.specs.Messages.{reply_status, reply_text}
use Rattle.irs_cli.proofs.program.reply_with.Goals as goal

pub returns-in_ok-bulk-in-Bulk-clause-cause : goal.returns-in_ok-bulk-in-Bulk-clause-cause
returns-in_ok-bulk-in-Bulk-clause-cause c = rw c.in-Bulk.is (cause_holds c.without_note.result.reply)

pub returns-in_ok-carrier-in-Carrier-clause-cause : goal.returns-in_ok-carrier-in-Carrier-clause-cause
returns-in_ok-carrier-in-Carrier-clause-cause c =
    rw c.in-Carrier.is (cause_holds c.without_note-in-Carrier.result.reply)

pub returns-in_ok-carrier-in-Carrier-clause-due : goal.returns-in_ok-carrier-in-Carrier-clause-due
returns-in_ok-carrier-in-Carrier-clause-due c =
    let r = c.in_ok-carrier-in-Carrier.field-0 in
    rw c.in-Carrier.is (rw c.without_note-in-Carrier.ensures.reply
    (subst (λ (b : List ℕ). Ends (DueCarrier b) (reply_status r) (reply_text r)) c.deref.ensures.value
    c.in_ok-carrier-in-Carrier.ensures.due))
