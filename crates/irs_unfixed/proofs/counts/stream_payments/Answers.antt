use Rattle.std.proofs.Common.{arith}
use Rattle.irs_audit.proofs.BoundLemmas.{payments_few}
use Rattle.irs_unfixed.proofs.counts.stream_payments.Goals as goal

pub overflow_cast-result : goal.overflow_cast-result
overflow_cast-result c =
    let many = payments_few c.args.part.now c.payments.ensures.bounds in
    let few = (c.payments.ensures.bounds).few in
    rw c.payments.ensures.value (omega (arith, many, few))
