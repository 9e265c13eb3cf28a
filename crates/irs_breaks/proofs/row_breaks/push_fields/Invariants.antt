use Rattle.std.proofs.Common.{take}
use Rattle.irs_breaks.specs.Private.Findings.{Adds}
use Rattle.irs_breaks.specs.BreakLists.{AreFieldBreaks}
use Rattle.irs_breaks.proofs.row_breaks.push_fields.Given as goal

-- the breaks of the fields so far have been added
abbrev pub invariant-loop-field : goal.invariant-loop-field
invariant-loop-field l = Adds (AreFieldBreaks l.place (take l.field-index l.fields)) l.initial.list l.list
