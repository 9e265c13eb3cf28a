use Rattle.std.proofs.Common.{arith}
use Rattle.std.proofs.lemmas.Bool.{both_ways}
use Rattle.irs_breaks.proofs.RowsTold.{field_more, field_same, fields_all, fields_none}
use Rattle.irs_breaks.proofs.row_breaks.push_fields.Goals as goal
use Rattle.irs_breaks.proofs.row_breaks.push_fields.Goals.{then-differ+in_ok-push_break, else-differ}

pub loop-field-init : goal.loop-field-init
loop-field-init c = fields_none c.args.place.now c.args.list.now

pub loop-field-preserved : goal.loop-field-preserved
loop-field-preserved c = elim c.if-differ.branch [
  | then-differ+in_ok-push_break w ↦
      rw w.list-is
      (field_more c.args.place.now c.args.fields.now c.loop-field.field-index c.field-item.result _ _ _ (omega arith)
      c.field-item.is c.loop-field.invariant (c.differ.ensures.0 w.if-differ.true) w.in_ok-push_break.ensures)
  | else-differ w ↦
      rw w.list-is
      (field_same c.args.place.now c.args.fields.now c.loop-field.field-index c.field-item.result _ _ (omega arith)
      c.field-item.is c.loop-field.invariant (λ h. both_ways _ w.if-differ.false (c.differ.ensures.1 h)))
]

pub returns : goal.returns
returns c =
    fields_all c.args.place.now c.args.fields.now c.loop-field.field-index c.args.list.now _ (omega arith)
    c.loop-field.invariant
