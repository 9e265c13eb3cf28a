use Rattle.std.proofs.Common.{◌≡◌, ℕ, ℤ, ◌-◌, ◌<◌, ◌≤◌, List, length}
use Rattle.irs_breaks.specs.Pairing.{At}
use Rattle.irs_breaks.specs.declared.dated.DatedRow.{DatedRow}
use Rattle.irs_breaks.proofs.blocks.date_end.Given as goal

-- the rows from `start` up to `stop` have the date d
pub record HaveDate (rows : List DatedRow) (start stop : ℕ) (d : ℤ) : Type 0 where
  pub low : start < stop
  pub high : stop ≤ length rows
  pub same : (k : ℕ) (r : DatedRow) → start ≤ k → k < stop → At rows k r → r.day ≡ d

-- the rows so far have the date
abbrev pub invariant-loop-end : goal.invariant-loop-end
invariant-loop-end l = HaveDate l.rows l.start l.end l.day

-- the rows that are left
abbrev pub decreases-loop-end : goal.decreases-loop-end
decreases-loop-end l = length l.rows - l.end
