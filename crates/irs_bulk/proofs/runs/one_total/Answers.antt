use Rattle.std.proofs.Common.{inl, inr}
use Rattle.std.proofs.lemmas.Option.{IfSome_then}
use Rattle.irs_answers.specs.Due.{answer_of}
use Rattle.irs_answers.proofs.StepLemmas.{meets_by}
use Rattle.irs_bulk.specs.BulkRuns.{total_at}
use Rattle.irs_bulk.proofs.runs.one_total.Goals as goal

pub returns-in_err-schedule-clause-meets : goal.returns-in_err-schedule-clause-meets
returns-in_err-schedule-clause-meets c =
    let e = c.in_err-schedule.field-0.0 in
    let made = c.from_residual in
    meets_by (total_at c.args.k) made.result e made.ensures.0 made.ensures.1
    (IfSome_then (answer_of e) c.in_err-schedule.ensures (λ a r. inl r))

pub returns-in_err-plain-clause-meets : goal.returns-in_err-plain-clause-meets
returns-in_err-plain-clause-meets c =
    let e = c.in_err-plain.field-0.0 in
    let made = c.from_residual-in_err-plain in
    meets_by (total_at c.args.k) made.result e made.ensures.0 made.ensures.1
    (IfSome_then (answer_of e) c.in_err-plain.ensures (λ a r.
    inr (c.in_ok-schedule.schedule, c.in_ok-schedule.ensures, inl r)))

pub returns-clause-meets : goal.returns-clause-meets
returns-clause-meets c = (
  c.in_ok-schedule.schedule,
  c.in_ok-schedule.ensures,
  (c.in_ok-plain.plain, c.in_ok-plain.ensures, (c.audit_stated.result, c.audit_stated.ensures, c.totals_by.ensures.value)),
)
