use Rattle.std.proofs.Common.{option_copied, ap}
use Rattle.irs_schedule.specs.DaySets.{NamedCenters}
use Rattle.irs_schedule.proofs.CenterLemmas.{more}
use Rattle.irs_schedule.proofs.center_table.CenterTable.add.Goals as goal

pub returns : goal.returns
returns c =
    rw (← c.self.view_is, c.in_ok-push.ensures.items) (more c.self.inside.cal.now c.self.inside.found.items
    c.in_ok-days.days (option_copied c.args.names) (ap (λ (days : NamedCenters). days.names) c.in_ok-days.ensures))
