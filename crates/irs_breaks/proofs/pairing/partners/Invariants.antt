use Rattle.std.proofs.Common.{ℕ, ◌+◌, ◌-◌, List, Option, length, take}
use Rattle.irs_breaks.specs.declared.dated.DatedRow.{DatedRow}
use Rattle.irs_base.specs.Lists.{Pairs}
use Rattle.irs_breaks.specs.Private.Blocks.{IsEdge, IsPartner}
use Rattle.irs_breaks.proofs.pairing.partners.Given as goal

-- the partners of our rows before the block that begins at the places i and j
pub record HavePartners (ours theirs : List DatedRow) (i j : ℕ) (partners : List (Option ℕ)) : Type 0 where
  pub edge : IsEdge ours theirs i j
  pub so_far : Pairs (IsPartner ours theirs) (take i ours) partners

-- the partners of our rows before the next block
abbrev pub invariant-loop-i : goal.invariant-loop-i
invariant-loop-i l = HavePartners l.ours l.theirs l.i l.j l.list.items

-- the rows of both lists that are left
abbrev pub decreases-loop-i : goal.decreases-loop-i
decreases-loop-i l = (length l.ours + length l.theirs) - (l.i + l.j)
