use Rattle.std.proofs.Common.{◌≡◌, take}
use Rattle.irs_observed.specs.Observations.{total_weight}
use Rattle.irs_observed.proofs.rates.total_weight.Given as goal

-- the total is that of the weights so far
abbrev pub invariant-loop-o : goal.invariant-loop-o
invariant-loop-o l = l.total ≡ total_weight (take l.o-index l.observations)
