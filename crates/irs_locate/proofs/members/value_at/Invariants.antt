use Rattle.std.proofs.Common.{drop, length, ◌≤◌}
use Rattle.serde_json.specs.Data.{Data}
use Rattle.serde_json.specs.View.{view}
use Rattle.irs_locate.specs.Ways.{LiesAt, root_in, WayStep, way}
use Rattle.irs_locate.proofs.members.value_at.Given as goal
use Rattle.std.specs.Prelude.{ℕ, List}

-- what lies in the value here, at the end of what is left of the way, is what lies in the document at the place
pub record Follows (steps : List WayStep) (k : ℕ) (d v : Data) : Type 0 where
  pub few : k ≤ length steps
  pub lies : (e : Data) → LiesAt (drop k steps) v e → LiesAt steps d e
  pub only : (e : Data) → LiesAt steps d e → LiesAt (drop k steps) v e

abbrev pub invariant-loop-k : goal.invariant-loop-k
invariant-loop-k l =
    Follows (way (root_in (view l.document)) l.place) l.k (view l.document) (view l.v)
