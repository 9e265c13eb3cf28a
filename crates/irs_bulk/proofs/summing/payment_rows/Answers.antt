use Rattle.std.proofs.Common.{arith}
use Rattle.irs_audit.proofs.BoundLemmas.{payments_few}
use Rattle.irs_bulk.proofs.summing.payment_rows.Goals as goal

pub overflow_cast-result : goal.overflow_cast-result
overflow_cast-result c =
    rw (c.payments.ensures.value, c.periods.ensures.count) (let few =
    payments_few c.args.part.now c.payments.ensures.bounds in let count = (c.payments.ensures.bounds).few in
    omega (arith, few, count))
