use Rattle.std.proofs.Common.{◌∙◌}
use Rattle.irs_audit.proofs.StatedLemmas.{reset_stated}
use Rattle.irs_audit.proofs.stated_rows.StatedRows.reset.Goals as goal

pub returns-in-Schedule : goal.returns-in-Schedule
returns-in-Schedule c =
    rw c.in-Schedule.is
    (c.reset_at.ensures ∙ reset_stated c.in-Schedule.part.now c.args.place c.periods-periods.ensures.bounds)
