use Rattle.irs_payments.specs.Private.Dating.{AreCuts}
use Rattle.irs_payments.proofs.cuts.payment_places.Given as goal

-- the places so far are those of the payment boundaries before i
abbrev pub invariant-loop-i : goal.invariant-loop-i
invariant-loop-i l = AreCuts l.s l.boundaries l.i l.places.items
