use Rattle.std.proofs.Common.{inl, refl}
use Rattle.irs_answers.specs.Due.{one_schedule_of, of_stopped}
use Rattle.irs_answers.proofs.DueLemmas.{made_schedule, refuse_making}
use Rattle.irs_answers.proofs.StepLemmas.{meets_by}
use Rattle.irs_answers.proofs.due.schedule_of.Goals as goal

pub returns-in_ok-make_schedule-in-None-clause-meets : goal.returns-in_ok-make_schedule-in-None-clause-meets
returns-in_ok-make_schedule-in-None-clause-meets c =
    let swap = c.args.swap.now in
    let cal = c.args.calendars.now in
    let table = c.args.fixings.now in
    let made = c.in_ok-make_schedule-in-None in
    made_schedule swap cal table c.requires c.in-None.ensures.meets made.field-0 made.ensures.meets made.ensures.ok

pub returns-in_err-make_schedule-in-None-clause-meets : goal.returns-in_err-make_schedule-in-None-clause-meets
returns-in_err-make_schedule-in-None-clause-meets c =
    let e = c.in_err-make_schedule-in-None.field-0.0 in
    let swap = c.args.swap.now in
    let cal = c.args.calendars.now in
    let table = c.args.fixings.now in
    meets_by (one_schedule_of swap cal table) c.from_residual.result (of_stopped e) c.from_residual.ensures.0
    c.from_residual.ensures.1 (refuse_making swap cal table e c.in-None.ensures.meets
    c.in_err-make_schedule-in-None.ensures.meets)

pub returns-in-Some-clause-meets : goal.returns-in-Some-clause-meets
returns-in-Some-clause-meets c = inl (c.in-Some.broken, c.in-Some.ensures.meets, refl)
