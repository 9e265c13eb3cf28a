use Rattle.std.proofs.Common.{◌≡◌, ◌+◌, ◌*◌, ◌≤◌, drop, unsigned_abs}
use Rattle.irs_bulk.specs.BulkRuns.{days_added_from}
use Rattle.irs_bulk.specs.Private.BulkRuns.{most_stated_amount}
use Rattle.irs_bulk.proofs.summing.stream_days.Given as goal

-- the sum with the days still to be added is the stream's total, and is bounded
abbrev pub invariant-loop-place : goal.invariant-loop-place
invariant-loop-place l = record {
  rest : days_added_from l.days (drop l.place l.part.periods) ≡ days_added_from l.fn.before l.part.periods;
  size : unsigned_abs l.days ≤ unsigned_abs l.fn.before + l.place * most_stated_amount;
}
