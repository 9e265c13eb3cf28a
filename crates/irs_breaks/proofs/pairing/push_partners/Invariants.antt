use Rattle.std.proofs.Common.{take}
use Rattle.irs_base.specs.Lists.{Pairs}
use Rattle.irs_breaks.specs.Private.Blocks.{IsPartner}
use Rattle.irs_breaks.proofs.pairing.push_partners.Given as goal

-- the partners of our rows before place k
abbrev pub invariant-loop-k : goal.invariant-loop-k
invariant-loop-k l = Pairs (IsPartner l.ours l.theirs) (take l.k l.ours) l.partners.items
