use Rattle.std.proofs.Common.{◌-◌, length}
use Rattle.irs_calendar.proofs.MarkLemmas.{Scan}
use Rattle.irs_calendar.proofs.marks.next_marked.Given as goal

-- no mark lies between the start of the scan and the place it has reached
abbrev pub invariant-loop-bit : goal.invariant-loop-bit
invariant-loop-bit l = Scan l.marks l.k l.place l.bit

-- each round moves towards the end of the marks
abbrev pub decreases-loop-bit : goal.decreases-loop-bit
decreases-loop-bit l = length l.marks - l.place
