use Rattle.std.proofs.Common.{◌≡◌, Some, refl, sym, ◌∙◌}
use Rattle.irs_schedule.specs.RowsOf.{period_at}
use Rattle.irs_audit.proofs.BoundLemmas.{period_small}
use Rattle.irs_audit.proofs.StatedBounds.{period_statable}
use Rattle.irs_audit.proofs.StatedLemmas.{period_stated, period_unstated}
use Rattle.irs_audit.proofs.stating.period_at.Goals as goal

pub period-requires-in-Some : goal.period-requires-in-Some
period-requires-in-Some c =
    let there : period_at c.args.part.now c.args.place ≡ Some c.in-Some.x =
    sym c.period.ensures.value ∙ c.in-Some.is in
    record {
      start = refl;
      fraction = period_small c.args.part.now c.args.place c.in-Some.x c.period.ensures.bounds there;
      statable = period_statable c.args.part.now c.args.place c.in-Some.x c.period.ensures.bounds there;
    }

pub returns-in-Some : goal.returns-in-Some
returns-in-Some c =
    let there : period_at c.args.part.now c.args.place ≡ Some c.in-Some.x =
    sym c.period.ensures.value ∙ c.in-Some.is in
    rw (c.period-in-Some.ensures, c.reset_at.ensures) (period_stated c.args.part.now c.args.place c.in-Some.x there)

pub returns-in-None : goal.returns-in-None
returns-in-None c = period_unstated c.args.part.now c.args.place (sym c.period.ensures.value ∙ c.in-None.is)
