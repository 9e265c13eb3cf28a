use Rattle.std.proofs.Common.{◌≡◌, ◌++◌, drop}
use Rattle.irs_audit.specs.StatedFlows.{stated_periods_from}
use Rattle.irs_audit.proofs.stating.periods.Given as goal

-- the stated periods so far and those still to be stated are those of the stream
abbrev pub invariant-loop-place : goal.invariant-loop-place
invariant-loop-place l =
    l.list.items ++ stated_periods_from l.part l.place (drop l.place l.part.periods)
    ≡ stated_periods_from l.part 0 l.part.periods
