use Rattle.std.proofs.Common.{length}
use Rattle.irs_stage_rows.proofs.amount_rows.+are_terms.Given as goal

-- the rest of a slice is shorter than the slice
abbrev pub decreases-are_terms : goal.decreases-are_terms
decreases-are_terms l = length l.periods.now
