use Rattle.irs_rules.proofs.Kept.{terms_kept}
use Rattle.irs_schedule.specs.Schedules.{schedule_of, IsSchedule}
use Rattle.irs_schedule.proofs.OnePart.{met_ok, schedule_is}
use Rattle.irs_schedule.proofs.making.make_schedule_by.Goals as goal

pub schedule_by-requires-clause-kept : goal.schedule_by-requires-clause-kept
schedule_by-requires-clause-kept c =
    terms_kept c.args.swap.now c.args.table.now.sections c.requires.lawful c.requires.terms

pub make_schedule-requires-clause-terms : goal.make_schedule-requires-clause-terms
make_schedule-requires-clause-terms c = rw c.calendars.ensures c.requires.terms

pub returns-then-has_swap-clause-ok : goal.returns-then-has_swap-clause-ok
returns-then-has_swap-clause-ok c =
    let swap = c.args.swap.now in
    let cal = c.args.table.now.sections in
    let fix = c.args.fix.now in
    met_ok (schedule_of swap cal fix) (IsSchedule swap cal fix)
    (schedule_is swap cal fix c.requires.lawful c.requires.terms) c.schedule_by.result c.schedule_by.ensures
