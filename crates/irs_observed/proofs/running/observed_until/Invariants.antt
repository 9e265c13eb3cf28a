use Rattle.std.proofs.Common.{◌≡◌, take}
use Rattle.irs_observed.specs.OvernightRates.{observed_until}
use Rattle.irs_observed.proofs.running.observed_until.Given as goal

-- the observations found are those before the day, among those so far
abbrev pub invariant-loop-o : goal.invariant-loop-o
invariant-loop-o l = l.found.items ≡ observed_until l.d (take l.o-index l.all)
