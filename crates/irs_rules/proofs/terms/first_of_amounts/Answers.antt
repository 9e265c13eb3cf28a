use Rattle.irs_rules.proofs.First.{either}
use Rattle.irs_rules.proofs.terms.first_of_amounts.Goals as goal

pub returns : goal.returns
returns c =
    either _ _ _ _ _ c.earlier-4.ensures c.offset_without_day_type-offsets.ensures
    (either _ _ _ _ _ c.earlier-3.ensures c.step_out_of_order-steps.ensures
    (either _ _ _ _ _ c.earlier-2.ensures c.element_of_other_leg-leg.ensures
    (either _ _ _ _ _ c.earlier.ensures c.reset_misfit-resets.ensures c.compounding_misfit-compounding.ensures)))
