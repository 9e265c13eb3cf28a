use Rattle.std.proofs.Common.{◌≡◌, ◌<◌, length, Some, refl, sym, ◌∙◌}
use Rattle.irs_schedule.specs.RowsOf.{period_at}
use Rattle.irs_audit.proofs.BoundLemmas.{period_small}
use Rattle.irs_audit.proofs.StatedBounds.{period_statable}
use Rattle.irs_audit.proofs.StatedLemmas.{one_period_more, period_there}
use Rattle.irs_audit.proofs.stating.periods.Goals as goal
use Rattle.irs_audit.proofs.stating.periods.Goals.{in-Some+in_ok-push, in_default}

pub period-requires-in-Some : goal.period-requires-in-Some
period-requires-in-Some c =
    let there : period_at c.args.part.now c.loop-place.place ≡ Some c.in-Some.x =
    sym c.period.ensures.value ∙ c.in-Some.is in
    record {
      start = refl;
      fraction = period_small c.args.part.now c.loop-place.place c.in-Some.x c.period.ensures.bounds there;
      statable = period_statable c.args.part.now c.loop-place.place c.in-Some.x c.period.ensures.bounds there;
    }

pub loop-place-preserved : goal.loop-place-preserved
loop-place-preserved c = elim c.match-period.branch [
  | in-Some+in_ok-push w ↦
      let there : period_at c.args.part.now c.loop-place.place ≡ Some w.in-Some.x =
      sym c.period.ensures.value ∙ w.in-Some.is in
      rw (w.list-is, w.in_ok-push.ensures.items, w.period-in-Some.ensures, w.reset_at.ensures)
      (one_period_more c.args.part.now c.loop-place.place w.in-Some.x c.loop-place.list.items there
      ∙ c.loop-place.invariant)
  | in_default w ↦
      let low : c.loop-place.place < length c.args.part.now.periods =
      rw (← c.periods-place-end.ensures.count) c.loop-place-test.true in
      absurd (period_there c.args.part.now c.loop-place.place low (sym c.period.ensures.value ∙ w.in_default.is))
]
