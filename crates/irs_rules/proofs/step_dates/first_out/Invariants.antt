use Rattle.std.proofs.Common.{ℕ, ◌<◌}
use Rattle.irs_terms.specs.TermDates.{StepStands}
use Rattle.irs_rules.proofs.step_dates.first_out.Given as goal

-- each of the first i steps is in order and inside the term
abbrev pub invariant-loop-i : goal.invariant-loop-i
invariant-loop-i l = (k : ℕ) → k < l.i → StepStands l.from l.to l.steps k
