use Rattle.std.proofs.Common.{◌≡◌, take}
use Rattle.std.specs.BTreeMap.{IsOrdered, get}
use Rattle.irs_net.specs.Nets.{key_order}
use Rattle.irs_net.specs.Private.FoundParties.{total_at}
use Rattle.irs_net.specs.declared.totals.NetKey.{NetKey}
use Rattle.irs_net.proofs.totals.totals_of.Given as goal

abbrev pub invariant-loop-part : goal.invariant-loop-part
invariant-loop-part l = record {
  ordered : IsOrdered key_order l.totals;
  totals : (key : NetKey) → get key_order l.totals key ≡ total_at (take l.part-index l.parts) key;
}
