use Rattle.irs_audit.specs.Private.Comparisons.{rows_in}
use Rattle.irs_audit.proofs.RowLemmas.{NoneBelow}
use Rattle.irs_audit.proofs.rows.first_row.Given as goal

-- no row of the kind before this place departs
abbrev pub invariant-loop-place : goal.invariant-loop-place
invariant-loop-place l = NoneBelow l.kind l.ours (rows_in l.theirs) l.place
