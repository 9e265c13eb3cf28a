use Rattle.std.proofs.Common.{length}
use Rattle.irs_main.proofs.lookup.+text_at.Given as goal

-- the rest of the list is shorter
abbrev pub decreases-text_at : goal.decreases-text_at
decreases-text_at l = length l.list.now
