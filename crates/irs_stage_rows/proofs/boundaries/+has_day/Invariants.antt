use Rattle.std.proofs.Common.{length}
use Rattle.irs_stage_rows.proofs.boundaries.+has_day.Given as goal

-- the rest of a slice is shorter than the slice
abbrev pub decreases-has_day : goal.decreases-has_day
decreases-has_day l = length l.days.now
