use Rattle.std.proofs.Common.{sym, ◌∙◌}
use Rattle.std.proofs.lemmas.Option.{slice_get-map}
use Rattle.irs_audit.specs.StatedFlows.{stated_part}
use Rattle.irs_audit.proofs.stated_rows.StatedStreams.at.Goals as goal

pub returns-in-Schedule : goal.returns-in-Schedule
returns-in-Schedule c =
    rw c.in-Schedule.is
    (c.part_at.ensures ∙ sym (slice_get-map stated_part c.in-Schedule.parts.now c.args.place))
