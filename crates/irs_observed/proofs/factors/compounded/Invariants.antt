use Rattle.std.proofs.Common.{◌≤◌}
use Rattle.std.specs.Prelude.{unsigned_abs}
use Rattle.irs_observed.specs.ObservedRates.{rates_by, rate_precision}
use Rattle.irs_observed.proofs.FactorLemmas.{Compounds}
use Rattle.irs_observed.proofs.factors.compounded.Given as goal

-- the factor is that of the observations so far, and within its limit
abbrev pub invariant-loop-o : goal.invariant-loop-o
invariant-loop-o l = record {
  compounds : Compounds rate_precision l.basis (rates_by l.daily) l.observations l.o-index l.factor;
  within : unsigned_abs l.factor ≤ rate_precision.most;
}
