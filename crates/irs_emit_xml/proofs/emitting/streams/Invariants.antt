use Rattle.irs_emit_xml.proofs.emitting.streams.Given as goal
use Rattle.irs_emit_xml.specs.Flows.{stream_node}
use Rattle.irs_emit_xml.specs.Private.Flows.{lines}
use Rattle.std.proofs.Common.{◌≡◌, ◌++◌, map, take}

-- the lines of the streams so far
abbrev pub invariant-loop-j : goal.invariant-loop-j
invariant-loop-j l = l.out.items ≡ l.fn.out.items ++ lines 1 (map stream_node (take l.j l.parts))
