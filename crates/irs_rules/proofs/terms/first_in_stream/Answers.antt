use Rattle.irs_rules.proofs.First.{either}
use Rattle.irs_rules.proofs.terms.first_in_stream.Goals as goal

pub returns : goal.returns
returns c =
    either _ _ _ _ _ c.earlier-2.ensures c.first_of_names.ensures
    (either _ _ _ _ _ c.earlier.ensures c.first_of_dates.ensures
    (either _ _ _ _ _ c.earlier-amounts.ensures c.first_of_amounts.ensures c.parameters_misfit.ensures))
