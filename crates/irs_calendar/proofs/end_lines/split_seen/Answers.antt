use Rattle.std.proofs.Common.{refl}
use Rattle.irs_calendar.proofs.EndLemmas.{last_line}
use Rattle.irs_calendar.proofs.end_lines.split_seen.Goals as goal

pub returns-clause-lines : goal.returns-clause-lines
returns-clause-lines c =
    let last = last_line c.is_empty.result c.split_line.result.1.now c.is_empty.ensures in
    rw (c.split_line.ensures.lines, last, c.line_seen.ensures) refl
