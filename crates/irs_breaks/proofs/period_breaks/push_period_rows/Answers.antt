use Rattle.std.proofs.Common.{arith, subst}
use Rattle.irs_breaks.proofs.Joining.{adds_row}
use Rattle.irs_breaks.specs.Private.Findings.{Adds}
use Rattle.irs_breaks.specs.BreakLists.{IsPeriodRow, moved}
use Rattle.irs_breaks.specs.declared.dated.PairedRow.{PairedRow}
use Rattle.irs_breaks.proofs.period_breaks.push_period_rows.Goals as goal

pub loop-row-preserved : goal.loop-row-preserved
loop-row-preserved c =
    adds_row (λ (m : PairedRow). IsPeriodRow c.args.stream c.args.part.now c.args.flow.now (moved c.args.before.0 c.args.before.1 m))
    c.args.rows.now c.loop-row.row-index c.row-item.result c.args.list.now c.loop-row.list c.push_period.new.list (omega arith) c.row-item.is c.loop-row.invariant
    (subst (λ (z : PairedRow). Adds (IsPeriodRow c.args.stream c.args.part.now c.args.flow.now z) c.loop-row.list c.push_period.new.list) c.moved.ensures
    c.in_ok-push_period.ensures)
