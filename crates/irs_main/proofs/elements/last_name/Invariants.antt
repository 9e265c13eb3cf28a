use Rattle.std.proofs.Common.{◌≡◌, length}
use Rattle.irs_main.specs.Elements.{last_name_after}
use Rattle.irs_main.proofs.elements.last_name.Given as goal

-- the last name of what is left is that of the whole path
abbrev pub invariant-loop-rest : goal.invariant-loop-rest
invariant-loop-rest l = last_name_after l.last l.rest ≡ last_name_after l.fn.last l.fn.rest

-- each round drops one byte
abbrev pub decreases-loop-rest : goal.decreases-loop-rest
decreases-loop-rest l = length l.rest
