use Rattle.std.proofs.Common.{◌-ℤ◌}
use Rattle.std.specs.Prelude.{unsigned_abs}
use Rattle.irs_observed.proofs.MemberLemmas.{ListsTo}
use Rattle.irs_observed.proofs.members.members.Given as goal

-- the members before the day are listed
abbrev pub invariant-loop-end : goal.invariant-loop-end
invariant-loop-end g l = ListsTo (g.G.GoodDays.days l.days) l.fn.start l.end l.found l.day

-- each round moves the day towards the end
abbrev pub decreases-loop-end : goal.decreases-loop-end
decreases-loop-end g l = unsigned_abs (l.end -ℤ l.day)
