use Rattle.irs_audit.proofs.FieldLemmas.{exchange_first}
use Rattle.irs_audit.proofs.row_fields.exchange_field.Goals as goal

pub returns : goal.returns
returns c = rw c.first_of.ensures
    (exchange_first c.args.x.now c.args.y.now _ _ _ c.day_is_wrong.ensures c.day_is_not_right.ensures
    c.amount_is_not_right.ensures)
