use Rattle.std.proofs.Common.{ℕ, ◌≤◌}
use Rattle.irs_overnight.specs.Overnight.{FixingNotAfter}
use Rattle.irs_overnight.proofs.rules.first_unrising.Given as goal

abbrev pub invariant-loop-place : goal.invariant-loop-place
invariant-loop-place l = (n : ℕ) → n ≤ l.place → FixingNotAfter l.resets n → ⊥
