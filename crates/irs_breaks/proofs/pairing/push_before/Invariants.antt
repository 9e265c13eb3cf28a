use Rattle.std.proofs.Common.{◌-◌, length}
use Rattle.irs_breaks.specs.Private.Blocks.{IsMergedTo}
use Rattle.irs_breaks.proofs.pairing.push_before.Given as goal

-- the rows are merged up to these places
abbrev pub invariant-loop-next : goal.invariant-loop-next
invariant-loop-next l = IsMergedTo l.ours l.theirs l.p l.next l.rows.items

-- the rows of theirs that are left
abbrev pub decreases-loop-next : goal.decreases-loop-next
decreases-loop-next l = length l.theirs - l.next
