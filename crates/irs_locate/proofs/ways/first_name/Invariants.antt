use Rattle.std.proofs.Common.{◌≡◌, ◌++◌, drop, take}
use Rattle.irs_locate.specs.Ways.{first_in}
use Rattle.irs_locate.proofs.ways.first_name.Given as goal

-- the bytes so far belong to the name
abbrev pub invariant-loop-i : goal.invariant-loop-i
invariant-loop-i l = first_in l.path ≡ take l.i l.path ++ first_in (drop l.i l.path)
