use Rattle.std.proofs.Common.{◌≡◌}
use Rattle.std.specs.Prelude.{slice_get}
use Rattle.irs_locate.specs.Ways.{names_on_way}
use Rattle.irs_locate.proofs.ways.name_at.Given as goal

-- the name that is sought is among those of what is left
abbrev pub invariant-loop-left : goal.invariant-loop-left
invariant-loop-left l = slice_get (names_on_way l.path) l.k ≡ slice_get (names_on_way l.rest) l.left

-- one name less is left to pass over
abbrev pub decreases-loop-left : goal.decreases-loop-left
decreases-loop-left l = l.left
