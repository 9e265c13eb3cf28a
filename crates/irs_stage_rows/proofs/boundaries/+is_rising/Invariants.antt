use Rattle.std.proofs.Common.{length}
use Rattle.irs_stage_rows.proofs.boundaries.+is_rising.Given as goal

-- the rest of a slice is shorter than the slice
abbrev pub decreases-is_rising : goal.decreases-is_rising
decreases-is_rising l = length l.days.now
