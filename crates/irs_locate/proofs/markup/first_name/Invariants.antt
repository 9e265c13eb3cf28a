use Rattle.std.proofs.Common.{◌≡◌, ◌++◌, drop, take}
use Rattle.irs_locate.specs.Lines.{first_name}
use Rattle.irs_locate.proofs.markup.first_name.Given as goal

-- the bytes so far belong to the name
abbrev pub invariant-loop-i : goal.invariant-loop-i
invariant-loop-i l = first_name l.text ≡ take l.i l.text ++ first_name (drop l.i l.text)
