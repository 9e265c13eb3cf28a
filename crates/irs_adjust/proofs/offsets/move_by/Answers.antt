use Rattle.irs_adjust.proofs.OffsetLaws.{one_moved}
use Rattle.irs_adjust.proofs.offsets.move_by.Goals as goal

pub returns-else-off-eq0-clause-one : goal.returns-else-off-eq0-clause-one
returns-else-off-eq0-clause-one g c = one_moved c.args.off (g.G.GoodDays.days c.args.g.now) c.args.d
