use Rattle.irs_emit_xml.proofs.emitting.payments.Given as goal
use Rattle.irs_emit_xml.specs.Flows.{payment_node}
use Rattle.irs_emit_xml.specs.Private.Flows.{lines}
use Rattle.std.proofs.Common.{◌≡◌, ◌++◌, map, take}

-- the lines of the payments so far
abbrev pub invariant-loop-j : goal.invariant-loop-j
invariant-loop-j l = l.out.items ≡ l.fn.out.items ++ lines 3 (map (payment_node l.part) (take l.j l.paid))
