use Rattle.std.proofs.Common.{◌≡◌, ℕ, true, ◌<◌, length, map, Bor, slice_index_or}
use Rattle.irs_calendar.specs.declared.sections.Section.{Section}
use Rattle.irs_calendar.specs.Private.Closed.{off_on, IsStretch}
use Rattle.irs_calendar.proofs.weekends.shut_from.Given as goal

-- the number of closed days in a row from each weekday before p is known
abbrev pub invariant-loop-p : goal.invariant-loop-p
invariant-loop-p l = record {
  each : length l.shut ≡ 7;
  old : (q : ℕ) → q < l.p
      → IsStretch (off_on (map {A = Bor Section} {B = Section} (λ s. s.now) l.sections)) true q
      (slice_index_or l.shut q 0);
}
