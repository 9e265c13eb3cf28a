use Rattle.irs_breaks.specs.Private.Blocks.{ListsUndated}
use Rattle.irs_breaks.proofs.pairing.push_undated.Given as goal

-- our rows without a date before this place are listed
abbrev pub invariant-loop-place : goal.invariant-loop-place
invariant-loop-place l = ListsUndated l.ours l.initial.rows.items l.rows.items l.place
