use Rattle.std.proofs.Common.{length}
use Rattle.irs_stage_rows.proofs.boundaries.+lie_within.Given as goal

-- the rest of a slice is shorter than the slice
abbrev pub decreases-lie_within : goal.decreases-lie_within
decreases-lie_within l = length l.days.now
