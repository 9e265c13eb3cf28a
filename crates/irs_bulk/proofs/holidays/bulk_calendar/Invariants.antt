use Rattle.std.proofs.Common.{◌≡◌, ◌-◌, ◌++◌}
use Rattle.std.specs.List.{flat_map}
use Rattle.irs_bulk.specs.BulkRuns.{calendar_text, holidays_text, years_from}
use Rattle.irs_bulk.proofs.holidays.bulk_calendar.Given as goal

-- the text so far and the holidays of the years that are left are the calendar file
abbrev pub invariant-loop-year : goal.invariant-loop-year
invariant-loop-year l = l.text.items ++ flat_map holidays_text (years_from l.year (2013 - l.year)) ≡ calendar_text
