use Rattle.irs_audit.specs.Private.Comparisons.{rows_in}
use Rattle.irs_audit.proofs.RowLemmas.{row_found}
use Rattle.irs_audit.proofs.rows.first_row.Goals as goal

pub returns-in-Some : goal.returns-in-Some
returns-in-Some c =
    row_found c.args.kind c.args.ours.now (rows_in c.args.theirs.now) c.args.stream c.args.last c.loop-place.place
    c.in-Some.field c.loop-place-test.true c.loop-place.invariant c.in-Some.ensures
