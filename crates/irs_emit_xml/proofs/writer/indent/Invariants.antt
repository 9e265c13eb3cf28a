use Rattle.irs_emit_xml.proofs.writer.indent.Given as goal
use Rattle.irs_emit_xml.specs.Trees.{indent}
use Rattle.std.proofs.Common.{◌≡◌, ◌++◌}

-- two spaces for each level so far
abbrev pub invariant-loop-k : goal.invariant-loop-k
invariant-loop-k l = l.out.items ≡ l.fn.out.items ++ indent l.k
