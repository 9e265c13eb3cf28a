use Rattle.irs_elements.specs.Elements.{seen}
use Rattle.irs_read.proofs.references.first_named.Given as goal
use Rattle.irs_read.specs.Readings.{has_id}
use Rattle.std.{proofs.Common.◌≡◌, proofs.Common.drop, proofs.Common.map, specs.Prelude.find}

-- no list so far has the id, so a search of the rest finds the same list
abbrev pub invariant-loop-list : goal.invariant-loop-list
invariant-loop-list l =
    find (has_id l.id) (map seen (drop l.list-index l.lists)) ≡ find (has_id l.id) (map seen l.lists)
