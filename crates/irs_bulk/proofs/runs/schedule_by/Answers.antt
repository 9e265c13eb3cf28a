use Rattle.std.proofs.Common.{inl, refl}
use Rattle.irs_answers.specs.Due.{one_schedule_of, of_stopped}
use Rattle.irs_answers.proofs.DueLemmas.{made_schedule, refuse_making}
use Rattle.irs_answers.proofs.StepLemmas.{meets_by}
use Rattle.irs_bulk.proofs.runs.schedule_by.Goals as goal

pub make_schedule_by-requires-clause-terms : goal.make_schedule_by-requires-clause-terms
make_schedule_by-requires-clause-terms c = rw c.calendars.ensures at c.in-None.ensures.meets

pub returns-in_ok-make_schedule_by-in-None : goal.returns-in_ok-make_schedule_by-in-None
returns-in_ok-make_schedule_by-in-None c =
    let terms = rw c.calendars.ensures at c.in-None.ensures.meets in
    let made = c.in_ok-make_schedule_by-in-None in
    made_schedule c.args.swap.now c.args.days.now.sections c.args.fixings.now c.requires terms made.field-0
    made.ensures.meets made.ensures.ok

pub returns-in_err-make_schedule_by-in-None : goal.returns-in_err-make_schedule_by-in-None
returns-in_err-make_schedule_by-in-None c =
    let e = c.in_err-make_schedule_by-in-None.field-0.0 in
    let swap = c.args.swap.now in
    let cal = c.args.days.now.sections in
    let table = c.args.fixings.now in
    let terms = rw c.calendars.ensures at c.in-None.ensures.meets in
    meets_by (one_schedule_of swap cal table) c.from_residual.result (of_stopped e) c.from_residual.ensures.0
    c.from_residual.ensures.1
    (refuse_making swap cal table e terms c.in_err-make_schedule_by-in-None.ensures.meets)

pub returns-in-Some : goal.returns-in-Some
returns-in-Some c =
    let first = rw c.calendars.ensures at c.in-Some.ensures.meets in
    inl (c.in-Some.broken, first, refl)
