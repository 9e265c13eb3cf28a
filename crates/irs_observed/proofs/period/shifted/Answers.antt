use Rattle.irs_observed.proofs.period.shifted.Goals as goal

pub returns-in-Shift-clause-none : goal.returns-in-Shift-clause-none
returns-in-Shift-clause-none g c = rw c.in-Shift.is c.moved_back.ensures.none
