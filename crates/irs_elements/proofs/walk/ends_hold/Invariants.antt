use Rattle.irs_elements.proofs.Ends.{HoldTo}
use Rattle.irs_elements.proofs.walk.ends_hold.Given as goal

-- the stored ends are right for the rows before c
abbrev pub invariant-loop-c : goal.invariant-loop-c
invariant-loop-c l = HoldTo l.table.rows.now l.table.ends.now l.c
