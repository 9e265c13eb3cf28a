use Rattle.std.proofs.Common.{[], Bool, sym, subst, ◌∙◌}
use Rattle.std.specs.Prelude.{if◌then◌else◌}
use Rattle.irs_resets.specs.Rates.{RateTable}
use Rattle.irs_answers.specs.Due.{MeetsTask, one_schedule_of}
use Rattle.irs_answers.proofs.due.schedule_for.Goals as goal

pub returns-then-uses_rates-clause-meets : goal.returns-then-uses_rates-clause-meets
returns-then-uses_rates-clause-meets c =
    let swap = c.args.swap.now in
    let cal = c.args.calendars.now in
    let table = c.args.fixings.now in
    subst (λ (b : Bool). MeetsTask (one_schedule_of swap cal (if b then table else [])) c.schedule_of.result)
    (sym c.if-uses_rates.true ∙ c.uses_rates.ensures) c.schedule_of.ensures.meets

pub returns-else-uses_rates-clause-meets : goal.returns-else-uses_rates-clause-meets
returns-else-uses_rates-clause-meets c =
    let swap = c.args.swap.now in
    let cal = c.args.calendars.now in
    let table = c.args.fixings.now in
    let made = c.schedule_of-else-uses_rates-2 in
    subst (λ (b : Bool). MeetsTask (one_schedule_of swap cal (if b then table else [])) made.result)
    (sym c.if-uses_rates.false ∙ c.uses_rates.ensures)
    (subst (λ (none : RateTable). MeetsTask (one_schedule_of swap cal none) made.result) c.none.ensures made.ensures.meets)
