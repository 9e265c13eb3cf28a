use Rattle.irs_base.proofs.DecimalLemmas.{not_cut_parts}
use Rattle.irs_base.proofs.decimals.decimal_parts.Goals as goal
use Rattle.std.proofs.Common.{rules}

pub returns-else-are_parts-clause-none : goal.returns-else-are_parts-clause-none
returns-else-are_parts-clause-none c =
    not_cut_parts c.args.text.now c.cut_at_point.result.0.now c.cut_at_point.result.1.now c.cut_at_point.ensures
    (search rules)
