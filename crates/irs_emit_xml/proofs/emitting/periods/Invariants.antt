use Rattle.irs_emit_xml.proofs.emitting.periods.Given as goal
use Rattle.irs_emit_xml.specs.Flows.{period_nodes}
use Rattle.irs_emit_xml.specs.Private.Flows.{lines}
use Rattle.std.proofs.Common.{◌≡◌, ◌-◌, ◌++◌}

-- the lines of the periods so far
abbrev pub invariant-loop-place : goal.invariant-loop-place
invariant-loop-place l = l.out.items ≡ l.fn.out.items ++ lines 4 (period_nodes l.part l.first (l.place - l.first))
