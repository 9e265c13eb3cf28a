use Rattle.irs_breaks.specs.Findings.{RowAt, UpTo}
use Rattle.irs_breaks.specs.Private.Findings.{Adds}
use Rattle.irs_breaks.specs.BreakLists.{IsExchangeRow}
use Rattle.irs_breaks.proofs.exchange_breaks.push_exchange_rows.Given as goal

-- the findings of the rows so far have been added
abbrev pub invariant-loop-row : goal.invariant-loop-row
invariant-loop-row l =
    Adds (UpTo (RowAt (IsExchangeRow l.stream l.part l.flow) l.rows) l.row-index) l.initial.list l.list
