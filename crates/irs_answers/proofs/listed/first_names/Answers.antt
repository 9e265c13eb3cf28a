use Rattle.std.proofs.Common.{ℕ, List, [], ◌∷◌, ◌++◌, sym, ap, ◌∙◌, arith}
use Rattle.irs_calendar.specs.Sections.{center_names}
use Rattle.irs_answers.proofs.ListLemmas.{kept_more}
use Rattle.irs_answers.proofs.listed.first_names.Goals as goal

pub loop-place-preserved : goal.loop-place-preserved
loop-place-preserved c =
    let names = c.loop-place.names in
    record {
      within = omega (arith, c.loop-place-test.true);
      kept =
          c.in_ok-push.ensures.ok ∙ ap (λ (x : List ℕ). names ++ x ∷ []) c.in_ok-copy.ensures
          ∙ kept_more (center_names c.args.calendars.now) c.loop-place.place c.in-Some.name.now names
          (sym c.in-Some.ensures) c.loop-place.invariant.kept;
    }
