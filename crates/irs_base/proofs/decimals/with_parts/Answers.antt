use Rattle.irs_base.proofs.DecimalLemmas.{twelve_more}
use Rattle.irs_base.proofs.decimals.with_parts.Goals as goal
use Rattle.std.proofs.Common.{◌∙◌}

pub returns-clause-below : goal.returns-clause-below
returns-clause-below c =
    rw (c.from.ensures, c.from-2.ensures ∙ c.power_of_ten.ensures.value, c.from-3.ensures)
    (twelve_more c.args.units c.args.parts c.args.places c.requires.few c.requires.units c.requires.parts)
