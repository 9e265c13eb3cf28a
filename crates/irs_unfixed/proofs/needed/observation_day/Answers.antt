use Rattle.irs_schedule.proofs.PeriodLemmas.{next_day}
use Rattle.irs_unfixed.proofs.GapLemmas.{has_absent, high, observed}
use Rattle.std.proofs.Common.{arith}
use Rattle.irs_unfixed.proofs.needed.observation_day.Goals as goal

pub absent_day-requires-clause-order : goal.absent_day-requires-clause-order
absent_day-requires-clause-order c =
    let p = c.args.part.now in
    let top =
    high c.args.calendars.now c.args.fixings.now c.args.s.now p c.args.number c.requires.gap c.args.float.now
    c.requires.pays in
    let low = c.requires.gap.unrated.from_one in
    let many = c.requires.gap.made.bounds.adjusted in
    rw (c.boundary-start.ensures, c.boundary-end.ensures)
    (next_day p.adjusted c.args.number c.requires.gap.made.bounds.adjusted_rises (omega (arith, low))
    (omega (arith, top, many)))

pub absent_day-requires-clause-observed : goal.absent_day-requires-clause-observed
absent_day-requires-clause-observed c =
    rw (c.in_ok-days.ensures, c.boundary-start.ensures, c.boundary-end.ensures)
    (observed c.args.calendars.now c.args.fixings.now c.args.s.now c.args.part.now c.args.number c.requires.gap
    c.args.float.now c.requires.pays c.args.parameters.now c.requires.daily)

pub absent_day-requires-clause-absent : goal.absent_day-requires-clause-absent
absent_day-requires-clause-absent c =
    rw (c.in_ok-days.ensures, c.boundary-start.ensures, c.boundary-end.ensures)
    (has_absent c.args.calendars.now c.args.fixings.now c.args.s.now c.args.part.now c.args.number c.requires.gap
    c.args.float.now c.requires.pays c.args.parameters.now c.requires.daily)
