use Rattle.std.proofs.Common.{◌≡◌, drop}
use Rattle.irs_locate.specs.Lines.{local_in, local_name}
use Rattle.irs_locate.proofs.markup.local_name.Given as goal

-- the bytes so far have no `:`
abbrev pub invariant-loop-i : goal.invariant-loop-i
invariant-loop-i l = local_name l.name ≡ local_in l.name (drop l.i l.name)
