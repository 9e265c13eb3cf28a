use Rattle.std.proofs.Common.{ℕ, ◌<◌}
use Rattle.irs_periods.specs.Boundaries.{NotAfter}
use Rattle.irs_periods.proofs.adjusting.first_not_after.Given as goal

-- each adjusted day before i is after the previous one
abbrev pub invariant-loop-i : goal.invariant-loop-i
invariant-loop-i l = (j : ℕ) → j < l.i → NotAfter l.days j → ⊥
