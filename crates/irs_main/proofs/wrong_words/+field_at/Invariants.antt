use Rattle.std.proofs.Common.{length}
use Rattle.irs_main.proofs.wrong_words.+field_at.Given as goal

-- the rest of the line is shorter
abbrev pub decreases-field_at : goal.decreases-field_at
decreases-field_at l = length l.line.now
