use Rattle.std.proofs.Common.{length}
use Rattle.irs_main.proofs.usage.+line_of.Given as goal

-- the rest of the lines is shorter
abbrev pub decreases-line_of : goal.decreases-line_of
decreases-line_of l = length l.lines.now
