use Rattle.std.proofs.Common.{◌≡◌, map, take}
use Rattle.irs_audit.specs.StatedFlows.{stated_part}
use Rattle.irs_audit.proofs.stating.flows.Given as goal

-- the flows so far state the streams so far
abbrev pub invariant-loop-part : goal.invariant-loop-part
invariant-loop-part l = l.streams.items ≡ map stated_part (take l.part-index l.part-items)
