use Rattle.std.proofs.Common.{◌≡◌, ℕ, ◌+◌, ◌<◌, ℤ, List, [], ◌∷◌, ◌++◌, length, take, get_or, Option, None, sym, ap}
use Rattle.std.proofs.Common.{◌∙◌}
use Rattle.std.proofs.lemmas.List.{take_more}
use Rattle.irs_terms.specs.declared.step_list.Step.{Step}
use Rattle.irs_compound.specs.PeriodRates.{counted_step, last_from}
use Rattle.irs_compound.specs.Private.RateLaws.{last_from-push}
use Rattle.irs_compound.proofs.step_values.last_step.Goals as goal

last_more : (steps : List Step) (i : ℕ) (s : Step) (d : ℤ) (last next : Option Step) → i < length steps
    → s ≡ get_or steps i s → last ≡ last_from d None (take i steps) → next ≡ counted_step d last s
    → next ≡ last_from d None (take (i + 1) steps)
last_more steps i s d last next inside is h e =
    let more : take (i + 1) steps ≡ take i steps ++ s ∷ [] =
    take_more steps i s inside ∙ ap (λ (t : Step). take i steps ++ t ∷ []) (sym is) in
    e ∙ ap (λ (o : Option Step). counted_step d o s) h ∙ sym (last_from-push d None (take i steps) s)
    ∙ sym (ap (λ (ts : List Step). last_from d None ts) more)

pub loop-step-preserved : goal.loop-step-preserved
loop-step-preserved c =
    last_more c.args.steps.now c.loop-step.step-index c.step-item.result c.args.d c.loop-step.last
    c.counted_step-last.result c.loop-step-test.true c.step-item.is c.loop-step.invariant c.counted_step-last.ensures
