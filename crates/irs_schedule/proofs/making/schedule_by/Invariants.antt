use Rattle.irs_schedule.proofs.MakingLemmas.{Made}
use Rattle.irs_schedule.proofs.making.schedule_by.Given as goal

abbrev pub invariant-loop-i : goal.invariant-loop-i
invariant-loop-i l = Made l.swap l.table.sections l.fix l.i l.parts.items
