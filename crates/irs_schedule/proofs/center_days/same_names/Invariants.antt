use Rattle.std.proofs.Common.{◌≡◌, ℕ, ◌<◌, List, get_or}
use Rattle.irs_schedule.proofs.center_days.same_names.Given as goal

-- the names before this one are the same
abbrev pub invariant-loop-i : goal.invariant-loop-i
invariant-loop-i l = (k : ℕ) (name : List ℕ) → k < l.i → get_or l.a k name ≡ get_or l.b k name
