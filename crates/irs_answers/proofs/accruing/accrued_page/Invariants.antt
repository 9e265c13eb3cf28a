use Rattle.std.proofs.Common.{◌≡◌, ◌++◌, ℕ, List, take}
use Rattle.irs_answers.specs.Tasks.{AreAccrued, accrued_header, accruing}
use Rattle.irs_answers.proofs.accruing.accrued_page.Given as goal

-- the text has the lines of the streams so far
abbrev pub invariant-loop-index : goal.invariant-loop-index
invariant-loop-index l = record {
  lines : (lines : List ℕ)
      × AreAccrued (accruing l.found.swap l.found.calendars.now l.found.fixings.now) l.date 1 (take l.index l.found.schedule) lines
      × (l.text.items ≡ accrued_header l.date ++ lines);
}
