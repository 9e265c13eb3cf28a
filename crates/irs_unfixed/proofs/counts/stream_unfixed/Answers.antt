use Rattle.std.proofs.Common.{arith}
use Rattle.irs_audit.proofs.BoundLemmas.{payments_few}
use Rattle.irs_unfixed.proofs.counts.stream_unfixed.Goals as goal

pub overflow_cast-result : goal.overflow_cast-result
overflow_cast-result c =
    let few = payments_few c.args.part.now c.payments.ensures.bounds in
    let count = (c.payments.ensures.bounds).few in
    let all = rw (c.filter.ensures.source, c.iter.ensures.rest, c.payments.ensures.value) at c.count.ensures.bound in
    omega (arith, few, count, all)
