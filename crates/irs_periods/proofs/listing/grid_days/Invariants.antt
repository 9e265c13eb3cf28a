use Rattle.std.proofs.Common.{◌≡◌, ◌++◌}
use Rattle.irs_periods.specs.Private.Spans.{days_from}
use Rattle.irs_periods.proofs.listing.grid_days.Given as goal

-- the first j grid days are appended to the list
abbrev pub invariant-loop-j : goal.invariant-loop-j
invariant-loop-j g l = l.list ≡ l.initial.list ++ days_from (g.G.Grid.at l.grid) l.start l.j
