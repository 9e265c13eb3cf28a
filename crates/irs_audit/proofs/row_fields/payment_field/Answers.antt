use Rattle.irs_audit.proofs.FieldLemmas.{payment_first}
use Rattle.irs_audit.proofs.row_fields.payment_field.Goals as goal

pub returns : goal.returns
returns c =
    rw c.first_of.ensures
    (payment_first c.args.currency c.args.x.now c.args.y.now _ _ _ _ _ c.day_is_wrong.ensures c.day_is_not_right.ensures
    c.has_other_count.ensures c.currency_is_wrong.ensures c.known_amount_departs.ensures)
