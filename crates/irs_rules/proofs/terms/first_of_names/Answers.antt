use Rattle.irs_rules.proofs.First.{either}
use Rattle.irs_rules.proofs.terms.first_of_names.Goals as goal

pub returns : goal.returns
returns c =
    either _ _ _ _ _ c.earlier-2.ensures c.dangling_reference-references.ensures
    (either _ _ _ _ _ c.earlier.ensures c.element_without_centers-absent.ensures
    c.center_in_no_calendar-unknown.ensures)
