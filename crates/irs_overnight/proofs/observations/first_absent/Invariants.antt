use Rattle.std.proofs.Common.{◌≡◌, drop}
use Rattle.irs_overnight.specs.Observations.{first_absent}
use Rattle.irs_overnight.proofs.observations.first_absent.Given as goal

abbrev pub invariant-loop-o : goal.invariant-loop-o
invariant-loop-o l = first_absent (drop l.o-index l.observations) ≡ first_absent l.observations
