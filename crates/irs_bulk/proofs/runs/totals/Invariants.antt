use Rattle.std.proofs.Common.{◌≡◌}
use Rattle.irs_bulk.specs.BulkRuns.{AreRunTotals, totals_to}
use Rattle.irs_bulk.proofs.runs.totals.Given as goal

-- the sums over the documents so far
abbrev pub invariant-loop-before : goal.invariant-loop-before
invariant-loop-before l = record {
  sums : (totals_to l.before).Answers l.totals;
  run : AreRunTotals l.totals;
  documents : l.totals.documents ≡ l.before;
}
