use Rattle.std.proofs.Common.{◌≡◌, ℕ, ◌+◌, ◌-◌, ◌<◌, ◌≤◌, ◌%◌, map, Bor}
use Rattle.irs_calendar.specs.declared.sections.Section.{Section}
use Rattle.irs_calendar.specs.Private.Closed.{off_on}
use Rattle.irs_calendar.proofs.weekends.stretch.Given as goal

-- the first n weekdays from here are alike closed, or alike open
abbrev pub invariant-loop-n : goal.invariant-loop-n
invariant-loop-n l = record {
  few : l.n ≤ 7;
  same : (i : ℕ) → i < l.n → off_on (map {A = Bor Section} {B = Section} (λ s. s.now) l.sections) ((l.place + i) % 7)
      ≡ l.closed;
}

-- a stretch has at most seven days
abbrev pub decreases-loop-n : goal.decreases-loop-n
decreases-loop-n l = 7 - l.n
