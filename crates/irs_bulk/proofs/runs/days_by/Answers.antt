use Rattle.std.proofs.Common.{List, Ok, sym, subst}
use Rattle.irs_calendar.specs.declared.sections.Section.{Section}
use Rattle.irs_bulk.specs.Private.BulkRuns.{IsCalendar}
use Rattle.irs_bulk.proofs.runs.days_by.Goals as goal

pub returns-in-Ok : goal.returns-in-Ok
returns-in-Ok c =
    subst (λ (sections : List Section). IsCalendar (Ok sections)) (sym c.table_by.ensures)
    (subst IsCalendar c.in-Ok.is c.requires.calendar)
