use Rattle.std.proofs.Common.{◌≡◌, ◌*◌, ◌≤◌, drop, pos, unsigned_abs}
use Rattle.irs_bulk.specs.BulkRuns.{total_from}
use Rattle.irs_bulk.specs.Private.BulkRuns.{most_of_stream}
use Rattle.irs_bulk.proofs.summing.total.Given as goal

-- the sum with the streams still to be added is the schedule's total, and is bounded
abbrev pub invariant-loop-part : goal.invariant-loop-part
invariant-loop-part l = record {
  rest : total_from l.total (drop l.part-index l.parts) ≡ total_from (pos 0) l.parts;
  size : unsigned_abs l.total ≤ l.part-index * most_of_stream;
}
