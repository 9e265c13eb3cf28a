use Rattle.std.proofs.Common.{◌≡◌, ◌+◌, drop}
use Rattle.irs_calendar.proofs.CalendarLemmas.{Picks}
use Rattle.irs_calendar.proofs.CoverLemmas.{sections_at}
use Rattle.irs_calendar.proofs.calendars.pick.Given as goal

-- the sections of the names so far are picked, and the number counts those names
abbrev pub invariant-loop-name : goal.invariant-loop-name
invariant-loop-name l =
    Picks l.sections (sections_at l.picked.items) l.number (drop l.name-index l.names) l.names
    × (l.number ≡ l.name-index + 1)
