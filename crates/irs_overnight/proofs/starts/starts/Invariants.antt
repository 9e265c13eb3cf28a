use Rattle.std.proofs.Common.{◌+ℤ◌, pos}
use Rattle.irs_overnight.specs.Observations.{AreStarts}
use Rattle.irs_overnight.proofs.starts.starts.Given as goal

abbrev pub invariant-loop-k : goal.invariant-loop-k
invariant-loop-k g l = AreStarts (g.G.GoodDays.days l.days) l.start (l.start +ℤ pos l.k) l.found
