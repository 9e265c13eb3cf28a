use Rattle.irs_base.proofs.DecimalLemmas.{at_most_eighteen, both_parts}
use Rattle.irs_base.proofs.decimals.number_of_parts.Goals as goal
use Rattle.std.proofs.Common.{length, ◌∙◌}

pub with_parts-requires-clause-units : goal.with_parts-requires-clause-units
with_parts-requires-clause-units c =
    at_most_eighteen c.first_number-units.result (length c.args.whole.now) c.requires.short
    c.first_number-units.ensures.below

pub returns-clause-value : goal.returns-clause-value
returns-clause-value c =
    c.with_parts.ensures.value
    ∙ both_parts c.args.whole.now c.args.fraction.now c.args.places c.first_number-units.result
    c.first_number-parts.result c.first_number-units.ensures.value c.first_number-parts.ensures.value
