use Rattle.std.proofs.Common.{ℕ, ◌<◌, ◌≤ℤ◌}
use Rattle.irs_base.specs.Lists.{day_at}
use Rattle.irs_accrue.proofs.running.boundaries_to.Given as goal

abbrev pub invariant-loop-i : goal.invariant-loop-i
invariant-loop-i l = (k : ℕ) → k < l.i → day_at l.boundaries k ≤ℤ l.d
