use Rattle.std.proofs.Common.{◌≤◌, ◌*◌, ◌^◌, take, pos}
use Rattle.std.specs.Prelude.{unsigned_abs}
use Rattle.irs_observed.specs.ObservedRates.{Through, rates_by, AddsBy}
use Rattle.irs_observed.specs.Observations.{total_weight}
use Rattle.irs_observed.proofs.averages.summed.Given as goal

-- the sum is that of the daily rates so far, each by its weight
abbrev pub invariant-loop-o : goal.invariant-loop-o
invariant-loop-o l = record {
  sums : Through (AddsBy (rates_by l.daily)) (take l.o-index l.observations) (pos 0) l.sum;
  size : unsigned_abs l.sum ≤ 10 ^ 10 * total_weight (take l.o-index l.observations);
}
