use Rattle.irs_breaks.proofs.PaymentsTold.{StartsUpTo}
use Rattle.irs_breaks.proofs.payment_breaks.first_places.Given as goal

-- the places at which the periods of the payments so far begin
abbrev pub invariant-loop-payment : goal.invariant-loop-payment
invariant-loop-payment l = StartsUpTo l.flow l.payment-index l.next l.starts.items
