use Rattle.std.proofs.Common.{◌≡◌, ◌≤◌, take}
use Rattle.irs_calendar.specs.Sections.{center_names}
use Rattle.irs_answers.specs.Notes.{most_listed}
use Rattle.irs_answers.proofs.listed.first_names.Given as goal

-- the names so far are kept
abbrev pub invariant-loop-place : goal.invariant-loop-place
invariant-loop-place l = record {
  within : l.place ≤ most_listed;
  kept : l.names ≡ take l.place (center_names l.calendars);
}
