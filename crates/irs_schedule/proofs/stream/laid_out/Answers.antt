use Rattle.std.proofs.Common.{inl, inr}
use Rattle.irs_base.proofs.HandedAnswers.{handed_on}
use Rattle.irs_base.proofs.Outcomes.{stopped_meets}
use Rattle.irs_schedule.specs.Schedules.{layout_of}
use Rattle.irs_schedule.specs.Private.Layouts.{sets_of}
use Rattle.irs_schedule.proofs.stream.laid_out.Goals as goal

pub returns-in_err-adjusted : goal.returns-in_err-adjusted
returns-in_err-adjusted c =
    let spec = layout_of (sets_of c.args.days.now) c.args.s.now in
    let e = c.in_err-adjusted.field-0.0 in
    stopped_meets spec c.from_residual-in_err-adjusted.result e c.from_residual-in_err-adjusted.ensures.1
    (handed_on e _ spec.Refuses (λ f first. inr (
      c.in_ok-span.span,
      c.in_ok-span.ensures.meets,
      inr (c.in_ok-unadjusted.unadjusted, c.in_ok-unadjusted.ensures.meets, inl first),
    ))
    c.in_err-adjusted.ensures.meets)
