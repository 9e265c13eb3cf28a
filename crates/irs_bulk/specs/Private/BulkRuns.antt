-- Private: no public contract rests on this file.
-- Of private functions: the sums and the business days of a run of `bulk`.
use Rattle.std.specs.Prelude.{ℕ, ◌*◌, ◌^◌, List, [], ◌∷◌, IfSome, Result, Ok, Err}
use Rattle.irs_base.specs.Limits.{most_periods}
use Rattle.irs_calendar.specs.Grammar.{spot_of, IsFirstCalendarFault, CalFiles}
use Rattle.irs_calendar.specs.declared.calendars.CalErr.{CalErr}
use Rattle.irs_calendar.specs.declared.sections.Section.{Section}
use Rattle.irs_schedule.specs.DaySets.{FoundCenters}
use Rattle.irs_bulk.specs.BulkRuns.{calendar_text}

-- ---- what is added up of a schedule: its payments and calculation periods, what it pays, and its days

-- the greatest size of an amount, in units of 10^-12
abbrev pub most_stated_amount : ℕ
most_stated_amount = 10 ^ 26

-- the greatest size of what one stream adds to a sum
abbrev pub most_of_stream : ℕ
most_of_stream = most_periods * most_stated_amount

-- ---- what `bulk N` comes to: the first of its documents that has no schedule, or the sums over the schedules of all

-- ---- the schedules of a document

-- the sections of the calendar, or its first fault
abbrev pub IsCalendar : Result (List Section) CalErr → Type 0
IsCalendar (Ok cal) = CalFiles (calendar_text ∷ []) cal
IsCalendar (Err e) = IfSome (spot_of e) (IsFirstCalendarFault (calendar_text ∷ []))

-- ---- the good business days by which the schedules of a run are made

-- a table over the sections of the calendar, or the calendar's first fault
abbrev pub IsTable : Result FoundCenters CalErr → Type 0
IsTable (Ok table) = IsCalendar (Ok table.sections)
IsTable (Err e) = IsCalendar (Err e)
