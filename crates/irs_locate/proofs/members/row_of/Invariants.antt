use Rattle.std.proofs.Common.{ℕ, ◌≤◌}
use Rattle.irs_locate.specs.Ways.{IsRowOf}
use Rattle.irs_locate.proofs.members.row_of.Given as goal

-- no row before r is that of the element
abbrev pub invariant-loop-r : goal.invariant-loop-r
invariant-loop-r l = (s : ℕ) → IsRowOf l.rows l.elem s → l.r ≤ s
