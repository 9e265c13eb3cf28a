use Rattle.std.proofs.Common.{◌≡◌, ◌*◌, ◌^◌, ◌≤◌, drop, ◌+ℤ◌, unsigned_abs}
use Rattle.irs_base.specs.Days.{all_days}
use Rattle.irs_average.specs.Averages.{counted_rate, sum_over}
use Rattle.irs_average.proofs.means.total.Given as goal

abbrev pub invariant-loop-place : goal.invariant-loop-place
invariant-loop-place l = record {
  sums : l.sum +ℤ sum_over (counted_rate l.kind) (drop l.place l.observations) ≡ sum_over (counted_rate l.kind) l.observations;
  size : unsigned_abs l.sum ≤ l.place * (2 * 10 ^ 10 * all_days);
}
