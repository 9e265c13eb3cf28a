use Rattle.std.proofs.Common.{arith}
use Rattle.irs_breaks.proofs.Joining.{adds_all, adds_none, adds_row}
use Rattle.irs_breaks.specs.Findings.{RowAt}
use Rattle.irs_breaks.specs.BreakLists.{IsExchangeRow}
use Rattle.irs_breaks.proofs.exchange_breaks.push_exchange_rows.Goals as goal

pub loop-row-init : goal.loop-row-init
loop-row-init c =
    adds_none (RowAt (IsExchangeRow c.args.stream c.args.part.now c.args.flow.now) c.args.rows.now) c.args.list.now

pub loop-row-preserved : goal.loop-row-preserved
loop-row-preserved c =
    adds_row (IsExchangeRow c.args.stream c.args.part.now c.args.flow.now) c.args.rows.now c.loop-row.row-index
    c.row-item.result c.args.list.now c.loop-row.list c.push_exchange.new.list (omega arith) c.row-item.is c.loop-row.invariant c.in_ok-push_exchange.ensures

pub returns : goal.returns
returns c =
    adds_all (IsExchangeRow c.args.stream c.args.part.now c.args.flow.now) c.args.rows.now c.loop-row.row-index c.args.list.now c.loop-row.list
    (omega arith) c.loop-row.invariant
