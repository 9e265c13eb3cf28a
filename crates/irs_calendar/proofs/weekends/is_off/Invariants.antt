use Rattle.std.proofs.Common.{◌≡◌, false, take, map, Bor}
use Rattle.irs_calendar.specs.declared.sections.Section.{Section}
use Rattle.irs_calendar.specs.Private.Closed.{off_on}
use Rattle.irs_calendar.proofs.weekends.is_off.Given as goal

-- no section so far is closed on this weekday
abbrev pub invariant-loop-s : goal.invariant-loop-s
invariant-loop-s l =
    off_on (map {A = Bor Section} {B = Section} (λ s. s.now) (take l.s-index l.sections)) l.place ≡ false
