use Rattle.std.proofs.Common.{◌≡◌, map, take}
use Rattle.irs_audit.specs.StatedFlows.{stated_exchange}
use Rattle.irs_audit.proofs.stating.exchanges.Given as goal

-- the list states the exchanges so far
abbrev pub invariant-loop-x : goal.invariant-loop-x
invariant-loop-x l = l.list.items ≡ map stated_exchange (take l.x-index l.x-items)
