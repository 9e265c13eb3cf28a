use Rattle.irs_breaks.specs.Private.Blocks.{ListsUndatedExtras}
use Rattle.irs_breaks.proofs.pairing.push_undated_extras.Given as goal

-- their rows without a date before this place are listed
abbrev pub invariant-loop-place : goal.invariant-loop-place
invariant-loop-place l = ListsUndatedExtras l.theirs l.initial.rows.items l.rows.items l.place
