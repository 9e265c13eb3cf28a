use Rattle.irs_breaks.specs.Private.Blocks.{IsMergedTo}
use Rattle.irs_breaks.proofs.pairing.merged.Given as goal

-- the rows are merged up to these places
abbrev pub invariant-loop-p : goal.invariant-loop-p
invariant-loop-p l = IsMergedTo l.ours l.theirs l.p l.q l.rows.items
