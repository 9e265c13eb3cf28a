use Rattle.std.proofs.Common.{inl, inr}
use Rattle.std.proofs.lemmas.Result.{err_from_is_err_and}
use Rattle.irs_base.proofs.HandedAnswers.{handed_on}
use Rattle.irs_base.proofs.Outcomes.{stopped_meets}
use Rattle.irs_schedule.specs.Schedules.{payment_dates_of}
use Rattle.irs_schedule.specs.Private.Layouts.{sets_of}
use Rattle.irs_schedule.proofs.LayoutLemmas.{layout_runs}
use Rattle.irs_schedule.proofs.LayoutRules.{layout_kept}
use Rattle.irs_schedule.proofs.stream.payment_dates.Goals as goal

pub payments-requires-clause-boundaries : goal.payments-requires-clause-boundaries
payments-requires-clause-boundaries c =
    let sets = sets_of c.args.days.now in
    let s = c.args.s.now in
    let l = c.args.layout.now in
    layout_runs sets s c.requires.lawful c.requires.kept.1.dates l (layout_kept sets s l c.requires.layout)

pub payments-requires-clause-adjusted : goal.payments-requires-clause-adjusted
payments-requires-clause-adjusted c =
    let kept = layout_kept (sets_of c.args.days.now) c.args.s.now c.args.layout.now c.requires.layout in
    kept.adjusted.same_length

pub returns-in_err-payments : goal.returns-in_err-payments
returns-in_err-payments c =
    let spec = payment_dates_of (sets_of c.args.days.now) c.args.s.now c.args.layout.now in
    let e = c.in_err-payments.field-0.0 in
    stopped_meets spec c.from_residual.result e c.from_residual.ensures.1
    (handed_on e _ spec.Refuses (λ f first. inl first) c.in_err-payments.ensures.meets)

pub returns-in_err-check_steps : goal.returns-in_err-check_steps
returns-in_err-check_steps c =
    let p = err_from_is_err_and c.from_residual-in_err-check_steps.result
    c.from_residual-in_err-check_steps.ensures.1 in
    rw (p.1, p.2) (inr (
      c.in_ok-payments.payments,
      c.in_ok-payments.ensures.meets,
      inl c.in_err-check_steps.ensures.meets,
    ))
