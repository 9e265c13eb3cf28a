use Rattle.std.proofs.Common.{◌≡◌, map, take}
use Rattle.irs_audit.specs.StatedFlows.{stated_payment}
use Rattle.irs_audit.proofs.stating.payments.Given as goal

-- the list states the payments so far
abbrev pub invariant-loop-y : goal.invariant-loop-y
invariant-loop-y l = l.list.items ≡ map (stated_payment l.part.currency) (take l.y-index l.y-items)
