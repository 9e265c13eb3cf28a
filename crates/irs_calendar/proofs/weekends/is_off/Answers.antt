use Rattle.std.proofs.Common.{sym}
use Rattle.irs_calendar.proofs.ClosedLemmas.{off_at}
use Rattle.irs_calendar.proofs.weekends.is_off.Goals as goal

pub returns-then-s-place : goal.returns-then-s-place
returns-then-s-place c =
    sym (off_at c.args.sections.now c.args.place c.loop-s.s-index c.s-item.result c.loop-s-test.true c.s-item.is
    c.if-s-place.true)
