use Rattle.irs_breaks.specs.Findings.{RowAt, UpTo}
use Rattle.irs_breaks.specs.Private.Findings.{Adds}
use Rattle.irs_breaks.specs.BreakLists.{IsPeriodRow, moved}
use Rattle.irs_breaks.proofs.period_breaks.push_period_rows.Given as goal

-- the findings of the rows so far have been added
abbrev pub invariant-loop-row : goal.invariant-loop-row
invariant-loop-row l =
    Adds (UpTo (RowAt (λ m. IsPeriodRow l.stream l.part l.flow (moved l.before.0 l.before.1 m)) l.rows) l.row-index)
    l.initial.list l.list
