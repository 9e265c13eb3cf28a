use Rattle.std.proofs.Common.{◌≡◌, drop}
use Rattle.irs_base.specs.Days.{first_day, last_day}
use Rattle.irs_calendar.specs.Sections.{latest_first, earliest_last}
use Rattle.irs_calendar.proofs.CoverLemmas.{sections_at}
use Rattle.irs_calendar.proofs.chosen.common_cover.Given as goal

-- the cover so far, narrowed by the remaining sections, is the common cover of all sections
abbrev pub invariant-loop-s : goal.invariant-loop-s
invariant-loop-s l = record {
  first : latest_first l.first (sections_at (drop l.s-index l.sections))
      ≡ latest_first first_day (sections_at l.sections);
  last : earliest_last l.last (sections_at (drop l.s-index l.sections))
      ≡ earliest_last last_day (sections_at l.sections);
}
