use Rattle.irs_emit_xml.proofs.emitting.exchanges.Given as goal
use Rattle.irs_emit_xml.specs.Flows.{exchange_node}
use Rattle.irs_emit_xml.specs.Private.Flows.{lines}
use Rattle.std.proofs.Common.{◌≡◌, ◌++◌, map, take}

-- the lines of the exchanges so far
abbrev pub invariant-loop-j : goal.invariant-loop-j
invariant-loop-j l = l.out.items ≡ l.fn.out.items ++ lines 3 (map exchange_node (take l.j l.rows))
