use Rattle.std.proofs.Common.{◌≤◌}
use Rattle.std.specs.Prelude.{unsigned_abs}
use Rattle.irs_overnight.specs.Observations.{most_factor}
use Rattle.irs_overnight.proofs.FactorLemmas.{Compounds}
use Rattle.irs_overnight.proofs.factors.compounded.Given as goal

abbrev pub invariant-loop-o : goal.invariant-loop-o
invariant-loop-o l = record {
  compounds : Compounds l.basis l.observations l.o-index l.factor;
  within : unsigned_abs l.factor ≤ most_factor;
}
