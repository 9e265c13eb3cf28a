use Rattle.irs_elements.proofs.KnownNames.{found_at, none_left, one_more, some_row}
use Rattle.irs_elements.specs.Elements.{referenced_texts}
use Rattle.irs_locate.proofs.Rows.{IsOutAt}
use Rattle.irs_elements.specs.declared.table.Row.{Row}
use Rattle.irs_locate.proofs.members.is_out.Goals as goal
use Rattle.std.proofs.Common.{◌∙◌, get_or, sym}
use Rattle.std.proofs.lemmas.Option.{slice_get-get_or}

pub loop-c-preserved : goal.loop-c-preserved
loop-c-preserved c =
    let row : Row = get_or c.args.table.rows.now c.loop-c.c some_row in
    let at = slice_get-get_or c.args.table.rows.now c.loop-c.c some_row c.loop-c-test.true in
    one_more (IsOutAt (referenced_texts c.args.table.names.now) c.args.r c.args.name.now) c.loop-c.c c.args.table.rows.now
    row at c.loop-c.invariant (sym c.is_out_at.ensures ∙ c.if-is_out_at.false)

pub returns-then-is_out_at : goal.returns-then-is_out_at
returns-then-is_out_at c =
    let row : Row = get_or c.args.table.rows.now c.loop-c.c some_row in
    let at = slice_get-get_or c.args.table.rows.now c.loop-c.c some_row c.loop-c-test.true in
    sym (found_at (IsOutAt (referenced_texts c.args.table.names.now) c.args.r c.args.name.now) c.loop-c.c
    c.args.table.rows.now row at (sym c.is_out_at.ensures ∙ c.if-is_out_at.true))

pub returns : goal.returns
returns c =
    sym (none_left (IsOutAt (referenced_texts c.args.table.names.now) c.args.r c.args.name.now) c.loop-c.c 0
    c.args.table.rows.now c.loop-c-test.false c.loop-c.invariant)
