use Rattle.std.proofs.Common.{length}
use Rattle.irs_stage_rows.proofs.rate_rows.+steps_rise.Given as goal

-- the rest of a slice is shorter than the slice
abbrev pub decreases-steps_rise : goal.decreases-steps_rise
decreases-steps_rise l = length l.steps.now
