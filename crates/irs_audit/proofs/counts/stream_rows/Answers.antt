use Rattle.std.proofs.Common.{arith}
use Rattle.irs_audit.proofs.VerdictLemmas.{rows_few}
use Rattle.irs_audit.proofs.counts.stream_rows.Goals as goal

pub overflow_cast-result : goal.overflow_cast-result
overflow_cast-result c =
    rw (
      c.exchanges.ensures.value,
      c.payments.ensures.value,
      c.periods.ensures.count,
      c.resets-resets.ensures.value,
    ) (let few = rows_few c.args.part.now c.payments.ensures.bounds in
    omega (arith, few))
