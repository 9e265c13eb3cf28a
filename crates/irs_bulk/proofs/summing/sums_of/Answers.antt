use Rattle.irs_bulk.proofs.SumLemmas.{payment_rows_fit}
use Rattle.irs_bulk.proofs.summing.sums_of.Goals as goal

pub rows-requires : goal.rows-requires
rows-requires c = rw c.streams-parts.ensures.value (payment_rows_fit c.args.s.now c.streams-parts.ensures.bounds)
