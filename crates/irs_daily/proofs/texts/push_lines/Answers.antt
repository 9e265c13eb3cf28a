use Rattle.std.proofs.Common.{ap, ◌∙◌, sym}
use Rattle.std.proofs.lemmas.List.{append-nil}
use Rattle.irs_daily.specs.ObservedRows.{row_line}
use Rattle.irs_daily.proofs.RowSteps.{lines_more, lines_whole}
use Rattle.irs_daily.proofs.texts.push_lines.Goals as goal

pub loop-row-init : goal.loop-row-init
loop-row-init c = sym (append-nil _)

pub loop-row-preserved : goal.loop-row-preserved
loop-row-preserved c =
    let line = c.bytes.ensures.bytes ∙ c.row_line.ensures ∙ ap row_line c.row-item.is in
    lines_more row_line _ _ _ c.bytes.result.now c.args.rows.now c.loop-row.row-index c.row-item.result
    c.loop-row-test.true c.loop-row.invariant c.in_ok-extend_from_slice.ensures.items line

pub returns : goal.returns
returns c =
    lines_whole row_line _ _ c.args.rows.now c.loop-row.row-index c.loop-row-test.false c.loop-row.invariant
