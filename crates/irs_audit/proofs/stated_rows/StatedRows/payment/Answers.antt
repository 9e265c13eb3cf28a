use Rattle.std.proofs.Common.{sym, ◌∙◌}
use Rattle.std.proofs.lemmas.Option.{slice_get-map}
use Rattle.irs_audit.specs.StatedFlows.{stated_payment}
use Rattle.irs_audit.proofs.stated_rows.StatedRows.payment.Goals as goal

pub returns-in-Schedule : goal.returns-in-Schedule
returns-in-Schedule c =
    let part = c.in-Schedule.part.now in
    rw c.in-Schedule.is
    (c.payment_at.ensures ∙ sym (slice_get-map (stated_payment part.currency) part.payments c.args.place))
