use Rattle.std.proofs.Common.{◌≡◌, take}
use Rattle.irs_net.specs.Nets.{parts_of}
use Rattle.irs_net.proofs.parts.parts_of.Given as goal

abbrev pub invariant-loop-i : goal.invariant-loop-i
invariant-loop-i l = l.parts.items ≡ parts_of (take l.i l.s) l.sides.forward
