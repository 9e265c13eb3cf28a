use Rattle.std.proofs.Common.{ℕ, ℤ, ◌<◌, ◌≤◌}
use Rattle.irs_periods.specs.Boundaries.{AdjustsAt, boundary_days_by, last_of}
use Rattle.irs_base.specs.Lists.{day_at}
use Rattle.irs_periods.proofs.adjusting.later_without.Given as goal

-- each boundary from 1 to the one before i has an adjusted day
abbrev pub invariant-loop-i : goal.invariant-loop-i
invariant-loop-i g l =
    (j : ℕ) → 1 ≤ j → j < l.i
    → (r : ℤ) × AdjustsAt l.s (boundary_days_by g.G.GoodDays.days l.start l.end l.middle) (last_of l.days) j (day_at l.days j) r
