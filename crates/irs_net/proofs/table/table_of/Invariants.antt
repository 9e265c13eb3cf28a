use Rattle.std.proofs.Common.{◌≡◌, ◌++◌, map}
use Rattle.irs_net.specs.Private.FoundParties.{row_of}
use Rattle.irs_net.proofs.table.table_of.Given as goal

abbrev pub invariant-loop-key : goal.invariant-loop-key
invariant-loop-key l = l.table ++ map row_of l.key-iterator ≡ map row_of l.totals.entries
