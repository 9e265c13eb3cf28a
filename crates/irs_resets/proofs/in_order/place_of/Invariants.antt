use Rattle.std.proofs.Common.{◌-◌}
use Rattle.irs_resets.proofs.OrderLemmas.{Halved}
use Rattle.irs_resets.proofs.in_order.place_of.Given as goal

-- a rate of the slot can only be between low and high
abbrev pub invariant-loop-low : goal.invariant-loop-low
invariant-loop-low l = Halved l.entries l.slot l.low l.high

-- each round narrows the interval
abbrev pub decreases-loop-low : goal.decreases-loop-low
decreases-loop-low l = l.high - l.low
