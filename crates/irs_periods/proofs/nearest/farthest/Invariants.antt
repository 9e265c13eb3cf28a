use Rattle.std.proofs.Common.{◌-◌, ◌<◌, ◌≤◌}
use Rattle.irs_base.specs.Days.{all_days}
use Rattle.irs_periods.specs.Private.Spans.{steps, Within}
use Rattle.irs_periods.proofs.nearest.farthest.Given as goal

-- low steps stay within the bound, and high steps pass it
abbrev pub invariant-loop-high : goal.invariant-loop-high
invariant-loop-high g l = record {
  order : l.low < l.high;
  top : l.high ≤ all_days;
  here : Within l.way l.bound (g.G.Grid.at l.grid (steps l.way l.low));
  past : Within l.way l.bound (g.G.Grid.at l.grid (steps l.way l.high)) → ⊥;
}

-- each round narrows the interval
abbrev pub decreases-loop-high : goal.decreases-loop-high
decreases-loop-high g l = l.high - l.low
