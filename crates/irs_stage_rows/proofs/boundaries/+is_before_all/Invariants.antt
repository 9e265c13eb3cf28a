use Rattle.std.proofs.Common.{length}
use Rattle.irs_stage_rows.proofs.boundaries.+is_before_all.Given as goal

-- the rest of a slice is shorter than the slice
abbrev pub decreases-is_before_all : goal.decreases-is_before_all
decreases-is_before_all l = length l.days.now
