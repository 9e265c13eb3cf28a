use Rattle.irs_observed.proofs.OvernightLemmas.{few_is}
use Rattle.irs_observed.specs.OvernightRates.{OvernightSource, overnight_source}
use Rattle.irs_observed.specs.declared.observation.NoObservations.TheVariants.{FewMembers}
use Rattle.irs_observed.proofs.overnight_rates.has_few.Goals as goal

pub returns-in-Ok : goal.returns-in-Ok
returns-in-Ok g c = (λ h. cc (h), λ lacks. absurd (c.in-Ok.ensures.meets.0 FewMembers lacks))

pub returns-in-Err-Broken : goal.returns-in-Err-Broken
returns-in-Err-Broken g c =
    let source : OvernightSource =
    overnight_source c.args.s.now c.args.span.now c.args.adjusted.now (g.G.GoodDays.days c.args.applicable.now)
    c.args.float.now c.args.parameters.now in
    few_is source c.args.number c.in-Err-Broken.why (rw c.in-Err-Broken.field-0-is at c.in-Err-Broken.ensures.meets)
    c.is_few.result c.is_few.ensures
