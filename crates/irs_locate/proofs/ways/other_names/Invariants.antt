use Rattle.std.proofs.Common.{◌≡◌, drop}
use Rattle.irs_locate.specs.Ways.{others_in}
use Rattle.irs_locate.proofs.ways.other_names.Given as goal

-- the bytes so far belong to the first name
abbrev pub invariant-loop-i : goal.invariant-loop-i
invariant-loop-i l = others_in l.path ≡ others_in (drop l.i l.path)
