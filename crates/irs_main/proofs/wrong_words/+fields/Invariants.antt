use Rattle.std.proofs.Common.{length}
use Rattle.irs_main.proofs.wrong_words.+fields.Given as goal

-- the rest of the line is shorter
abbrev pub decreases-fields : goal.decreases-fields
decreases-fields l = length l.line.now
