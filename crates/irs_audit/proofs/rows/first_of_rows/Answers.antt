use Rattle.std.proofs.Common.{arith}
use Rattle.irs_audit.specs.Private.Comparisons.{rows_in}
use Rattle.irs_audit.proofs.BoundLemmas.{payments_few}
use Rattle.irs_audit.proofs.RowLemmas.{stream_first}
use Rattle.irs_audit.proofs.rows.first_of_rows.Goals as goal

pub overflow_cast-payments : goal.overflow_cast-payments
overflow_cast-payments c =
    rw c.payments.ensures.value (let few = payments_few c.args.ours.now c.payments.ensures.bounds in
    let count = (c.payments.ensures.bounds).few in omega (arith, few, count))

pub overflow_add-payments : goal.overflow_add-payments
overflow_add-payments c =
    rw c.payments.ensures.value (let few = payments_few c.args.ours.now c.payments.ensures.bounds in
    let count = (c.payments.ensures.bounds).few in omega (arith, few, count))

pub returns : goal.returns
returns c =
    rw (c.or-3.ensures, c.or-2.ensures, c.or.ensures)
    (stream_first c.args.stream c.args.ours.now (rows_in c.args.theirs.now) c.first_row.result c.first_row-2.result
    c.first_row-3.result c.first_row-4.result c.payments.ensures.bounds
    (rw c.exchanges.ensures.value at c.first_row.ensures) (rw c.payments.ensures.value at c.first_row-2.ensures)
    (rw c.periods-periods.ensures.count at c.first_row-3.ensures)
    (rw c.periods-periods.ensures.count at c.first_row-4.ensures))
