use Rattle.std.proofs.Common.{length}
use Rattle.irs_stage_rows.proofs.calendar_rows.+are_short.Given as goal

-- the rest of a slice is shorter than the slice
abbrev pub decreases-are_short : goal.decreases-are_short
decreases-are_short l = length l.files.now
