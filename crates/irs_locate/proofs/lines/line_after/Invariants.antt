use Rattle.std.proofs.Common.{◌≡◌, drop}
use Rattle.irs_locate.specs.Lines.{lines_from}
use Rattle.irs_locate.proofs.lines.line_after.Given as goal

-- what is left goes on from here
abbrev pub invariant-loop-byte : goal.invariant-loop-byte
invariant-loop-byte l = lines_from l.line (drop l.byte-index l.bytes) ≡ lines_from 1 l.bytes
