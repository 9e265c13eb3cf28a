use Rattle.irs_resets.proofs.OrderLemmas.{none_in_order}
use Rattle.irs_resets.proofs.in_order.InOrder.new.Goals as goal

pub invariant_of-result : goal.invariant_of-result
invariant_of-result c = rw c.new.ensures.items none_in_order
