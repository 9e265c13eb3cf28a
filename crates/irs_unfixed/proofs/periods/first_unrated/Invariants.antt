use Rattle.std.proofs.Common.{ℕ, ◌<◌}
use Rattle.irs_unfixed.specs.Unfixed.{IsUnrated}
use Rattle.irs_unfixed.proofs.periods.first_unrated.Given as goal

-- the rate of each period so far is known
abbrev pub invariant-loop-number : goal.invariant-loop-number
invariant-loop-number l = (n : ℕ) → n < l.number → IsUnrated l.part l.payment n → ⊥
