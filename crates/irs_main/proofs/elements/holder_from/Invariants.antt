use Rattle.std.proofs.Common.{◌≡◌, length}
use Rattle.irs_main.specs.Elements.{holder_from}
use Rattle.irs_main.proofs.elements.holder_from.Given as goal

-- what is left gives the same holder as the whole path
abbrev pub invariant-loop-rest : goal.invariant-loop-rest
invariant-loop-rest l = holder_from l.holder l.last l.rest ≡ holder_from l.fn.holder l.fn.last l.fn.rest

-- each round drops one byte
abbrev pub decreases-loop-rest : goal.decreases-loop-rest
decreases-loop-rest l = length l.rest
