use Rattle.std.proofs.Common.{inl, inr}
use Rattle.irs_base.proofs.HandedAnswers.{handed_on}
use Rattle.irs_base.proofs.Outcomes.{stopped_meets}
use Rattle.irs_schedule.specs.Schedules.{events_of}
use Rattle.irs_schedule.specs.Private.Layouts.{sets_of}
use Rattle.irs_schedule.proofs.stream.events_over.Goals as goal

pub returns-in_err-observed-clause-meets : goal.returns-in_err-observed-clause-meets
returns-in_err-observed-clause-meets c =
    let spec = events_of (sets_of c.args.days.now) c.args.fix.now c.args.s.now c.args.layout.now in
    let e = c.in_err-observed.field-0.0 in
    stopped_meets spec c.from_residual-in_err-observed.result e c.from_residual-in_err-observed.ensures.1
    (handed_on e _ spec.Refuses (λ f first. inr (
      c.in_ok-payments.payments,
      c.in_ok-payments.ensures,
      inr (c.in_ok-exchanges.exchanges, c.in_ok-exchanges.ensures.meets, inl first),
    ))
    c.in_err-observed.ensures.meets)

pub returns-in_err-payments-clause-meets : goal.returns-in_err-payments-clause-meets
returns-in_err-payments-clause-meets c =
    let spec = events_of (sets_of c.args.days.now) c.args.fix.now c.args.s.now c.args.layout.now in
    let e = c.in_err-payments.field-0.0 in
    stopped_meets spec c.from_residual.result e c.from_residual.ensures.1
    (handed_on e _ spec.Refuses (λ f first. inl first) c.in_err-payments.ensures)
