use Rattle.std.proofs.Common.{take}
use Rattle.irs_observed.specs.ObservedRates.{AreKnown, rates_by}
use Rattle.irs_observed.proofs.daily.are_known.Given as goal

-- each observation so far has its daily rate
abbrev pub invariant-loop-o : goal.invariant-loop-o
invariant-loop-o l = AreKnown (rates_by l.daily) (take l.o-index l.observations)
