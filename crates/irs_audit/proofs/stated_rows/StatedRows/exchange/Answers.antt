use Rattle.std.proofs.Common.{sym, ◌∙◌}
use Rattle.std.proofs.lemmas.Option.{slice_get-map}
use Rattle.irs_audit.specs.StatedFlows.{stated_exchange}
use Rattle.irs_audit.proofs.stated_rows.StatedRows.exchange.Goals as goal

pub returns-in-Schedule : goal.returns-in-Schedule
returns-in-Schedule c =
    rw c.in-Schedule.is (c.exchange_at.ensures
    ∙ sym (slice_get-map stated_exchange c.in-Schedule.part.now.exchanges c.args.place))
