use Rattle.std.proofs.Common.{◌≡◌, ℕ, ◌<◌, length}
use Rattle.irs_periods.specs.Boundaries.{AdjustsAt, boundary_days_by, last_of}
use Rattle.irs_base.specs.Lists.{day_at}
use Rattle.irs_periods.proofs.adjusting.adjust_each.Given as goal

-- each boundary before i has its adjusted day in the list
abbrev pub invariant-loop-i : goal.invariant-loop-i
invariant-loop-i g l = record {
  so_far : length l.list ≡ l.i;
  each : (j : ℕ) → j < l.i
      → AdjustsAt l.s (boundary_days_by g.G.GoodDays.days l.start l.end l.middle) (last_of l.days) j (day_at l.days j)
      (day_at l.list j);
}
