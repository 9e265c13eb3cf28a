use Rattle.std.proofs.Common.{◌≡◌, ◌+◌, ◌*◌, ◌≤◌, drop, unsigned_abs}
use Rattle.irs_bulk.specs.BulkRuns.{paid_from}
use Rattle.irs_bulk.specs.Private.BulkRuns.{most_stated_amount}
use Rattle.irs_bulk.proofs.summing.paid.Given as goal

-- the sum with the payments still to be added is the stream's total, and is bounded
abbrev pub invariant-loop-y : goal.invariant-loop-y
invariant-loop-y l = record {
  rest : paid_from l.total (drop l.y-index l.y-items) ≡ paid_from l.fn.before l.y-items;
  size : unsigned_abs l.total ≤ unsigned_abs l.fn.before + l.y-index * most_stated_amount;
}
