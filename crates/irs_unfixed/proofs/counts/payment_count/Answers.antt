use Rattle.irs_unfixed.proofs.CountLemmas.{payment_count_fits}
use Rattle.irs_unfixed.proofs.counts.payment_count.Goals as goal

pub all_payments-requires : goal.all_payments-requires
all_payments-requires c =
    rw c.streams.ensures.value (payment_count_fits c.args.schedule.now c.streams.ensures.bounds)
