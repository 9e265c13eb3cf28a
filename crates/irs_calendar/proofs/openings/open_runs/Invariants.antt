use Rattle.std.proofs.Common.{◌-◌, ◌<◌, map, Bor}
use Rattle.irs_calendar.specs.declared.sections.Section.{Section}
use Rattle.irs_calendar.specs.Sections.{all_open}
use Rattle.irs_calendar.specs.Private.Closed.{IsWeekend, is_marked, IsNext}
use Rattle.irs_calendar.proofs.GrownLemmas.{Among}
use Rattle.irs_calendar.proofs.openings.open_runs.Given as goal

-- the runs so far hold exactly the open days before k; the next holiday and the next weekend are known
abbrev pub invariant-loop-k : goal.invariant-loop-k
invariant-loop-k l = record {
  among : Among (all_open (map {A = Bor Section} {B = Section} (λ s. s.now) l.sections)) l.first l.days l.k
      l.runs.items;
  known : l.k < l.listed → IsNext (is_marked l.marks.items) l.k l.listed l.days;
  weekend : IsWeekend (map {A = Bor Section} {B = Section} (λ s. s.now) l.sections) l.first l.days l.k l.weekend;
}

-- each round moves k towards the end of the cover
abbrev pub decreases-loop-k : goal.decreases-loop-k
decreases-loop-k l = l.days - l.k
