use Rattle.std.proofs.Common.{length}
use Rattle.irs_main.proofs.slips.+is_slip.Given as goal

-- the rest of what was typed is shorter
abbrev pub decreases-is_slip : goal.decreases-is_slip
decreases-is_slip l = length l.typed.now
