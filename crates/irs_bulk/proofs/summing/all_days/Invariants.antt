use Rattle.std.proofs.Common.{◌≡◌, ◌*◌, ◌≤◌, drop, pos, unsigned_abs}
use Rattle.irs_bulk.specs.BulkRuns.{all_days_from}
use Rattle.irs_bulk.specs.Private.BulkRuns.{most_of_stream}
use Rattle.irs_bulk.proofs.summing.all_days.Given as goal

-- the days with those of the streams still to be added are the schedule's, and are bounded
abbrev pub invariant-loop-part : goal.invariant-loop-part
invariant-loop-part l = record {
  rest : all_days_from l.days (drop l.part-index l.parts) ≡ all_days_from (pos 0) l.parts;
  size : unsigned_abs l.days ≤ l.part-index * most_of_stream;
}
