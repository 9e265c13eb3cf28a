use Rattle.std.proofs.Common.{ℕ, ◌<◌, Some}
use Rattle.irs_rules.specs.Parameters.{IsFoundAt}
use Rattle.irs_rules.proofs.known_centers.first_unknown.Given as goal

-- the calendars have each of the first i centres
abbrev pub invariant-loop-i : goal.invariant-loop-i
invariant-loop-i l = (k : ℕ) → k < l.i → IsFoundAt l.cal (Some l.names) k
