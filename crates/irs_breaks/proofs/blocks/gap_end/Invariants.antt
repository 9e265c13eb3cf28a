use Rattle.std.proofs.Common.{◌+◌, ◌-◌, length}
use Rattle.irs_breaks.specs.Private.Blocks.{IsGapTo}
use Rattle.irs_breaks.proofs.blocks.gap_end.Given as goal

-- the rows up to these places are in the gap
abbrev pub invariant-loop-p : goal.invariant-loop-p
invariant-loop-p l = IsGapTo l.ours l.theirs l.i l.j l.p l.q

-- the rows of both lists that are left
abbrev pub decreases-loop-p : goal.decreases-loop-p
decreases-loop-p l = (length l.ours - l.p) + (length l.theirs - l.q)
