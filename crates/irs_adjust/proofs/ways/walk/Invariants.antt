use Rattle.std.proofs.Common.{◌<◌}
use Rattle.irs_calendar.specs.GoodDays.{IsGood}
use Rattle.irs_adjust.proofs.WayLemmas.{Reached}
use Rattle.irs_adjust.proofs.ways.walk.Given as goal

-- i business days from the start have been counted, and the day reached is the i-th
abbrev pub invariant-loop-i : goal.invariant-loop-i
invariant-loop-i g l = record {
  reached : Reached l.way (g.G.GoodDays.days l.g) l.fn.d l._i l.day;
  good : 0 < l._i → IsGood (g.G.GoodDays.days l.g) l.day;
}
