use Rattle.std.proofs.Common.{rules, FitsSigned}
use Rattle.std.specs.Int.{w64, w128}
use Rattle.std.proofs.lemmas.Int.{to_z-of_z}
use Rattle.irs_audit.proofs.FieldLemmas.{period_first}
use Rattle.irs_audit.proofs.row_fields.period_field.Goals as goal

pub returns : goal.returns
returns c =
    let fd : FitsSigned w64 c.args.x.now.days = search rules in
    let fn : FitsSigned w128 c.args.x.now.notional = search rules in
    rw c.first_of.ensures
    (period_first c.args.x.now c.args.y.now _ _ _ _ _ _ _ _ c.day_is_wrong.ensures c.day_is_wrong-2.ensures
    c.day_is_not_right.ensures c.day_is_not_right-2.ensures
    (simp to_z-of_z at c.count_is_wrong.ensures) (simp to_z-of_z at c.number_is_wrong.ensures)
    c.known_rate_departs.ensures c.fraction_is_wrong.ensures)
