use Rattle.std.proofs.Common.{length}
use Rattle.irs_main.proofs.wrong_words.+nearest.Given as goal

-- the rest of the lines is shorter
abbrev pub decreases-nearest : goal.decreases-nearest
decreases-nearest l = length l.lines.now
