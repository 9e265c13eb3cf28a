use Rattle.std.proofs.Common.{length, ◌-◌}
use Rattle.irs_c.proofs.EachLemmas.{SoFar}
use Rattle.irs_c.proofs.each.run_each.Given as goal

abbrev pub decreases-loop-k : goal.decreases-loop-k
decreases-loop-k l = length l.trades - l.k

-- the outcomes of the trades so far
abbrev pub invariant-loop-k : goal.invariant-loop-k
invariant-loop-k l = SoFar l.words l.common l.trades l.fn.answers l.k l.answers l.said.items
