use Rattle.std.proofs.Common.{None, subst}
use Rattle.irs_answers.specs.declared.refusals.Refusal.TheVariants.{Calendars}
use Rattle.irs_answers.specs.declared.tasks.Task.TheVariants.{Schedule}
use Rattle.irs_answers.proofs.DueLemmas.{refuse_calendars}
use Rattle.irs_answers.proofs.StepLemmas.{meets_by}
use Rattle.irs_bulk.specs.BulkRuns.{files_of, schedule_at}
use Rattle.irs_bulk.specs.Private.BulkRuns.{IsTable}
use Rattle.irs_bulk.proofs.BulkRunLemmas.{refused_at, schedule_by}
use Rattle.irs_bulk.proofs.runs.schedule_at.Goals as goal

pub returns-in_err-swap : goal.returns-in_err-swap
returns-in_err-swap c =
    let e = c.in_err-swap.field-0.0 in
    let made = c.from_residual in
    meets_by (schedule_at c.args.plain c.args.k) made.result e made.ensures.0 made.ensures.1
    (refused_at c.args.plain c.args.k e c.in_err-swap.ensures.refused)

pub returns-in-Ok : goal.returns-in-Ok
returns-in-Ok c =
    schedule_by c.args.plain c.args.k c.in_ok-swap.swap c.in-Ok.days.sections c.none.result
    c.in_ok-swap.ensures.spells (subst IsTable c.in-Ok.is c.requires.calendar) c.none.ensures
    c.schedule_by-in-Ok.result c.schedule_by-in-Ok.ensures

pub returns : goal.returns
returns c =
    refused_at c.args.plain c.args.k (Calendars c.in-Err.fault)
    (refuse_calendars Schedule (files_of c.args.plain c.args.k) c.in_ok-swap.swap None c.in_ok-swap.ensures.spells
    c.in-Err.fault (subst IsTable c.in-Err.is c.requires.calendar))
