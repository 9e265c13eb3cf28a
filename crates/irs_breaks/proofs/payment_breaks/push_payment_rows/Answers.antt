use Rattle.std.proofs.Common.{arith}
use Rattle.irs_breaks.proofs.Joining.{adds_row}
use Rattle.irs_breaks.specs.BreakLists.{IsPaymentRow}
use Rattle.irs_breaks.proofs.payment_breaks.push_payment_rows.Goals as goal

pub loop-row-preserved : goal.loop-row-preserved
loop-row-preserved c =
    adds_row (IsPaymentRow c.args.stream c.args.part.now c.args.flow.now) c.args.rows.now c.loop-row.row-index
    c.row-item.result c.args.list.now c.loop-row.list c.push_payment.new.list (omega arith) c.row-item.is c.loop-row.invariant c.in_ok-push_payment.ensures
