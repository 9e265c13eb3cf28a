use Rattle.std.proofs.Common.{◌≡◌, ℕ, false, ◌+◌, ◌-◌, ◌≤◌, ◌%◌, ◌<◌, length, map, Bor, slice_index_or}
use Rattle.irs_calendar.specs.declared.sections.Section.{Section}
use Rattle.irs_calendar.specs.Private.Closed.{off_on, IsStretch}
use Rattle.irs_calendar.proofs.weekends.next_behind.Given as goal

-- for each weekday before p, the distance to the next closed weekday is known
abbrev pub invariant-loop-p : goal.invariant-loop-p
invariant-loop-p l = record {
  each : length l.next ≡ 7;
  old : (q : ℕ) → q < l.p → (slice_index_or l.shut q 0 ≤ slice_index_or l.next q 0)
      × IsStretch (off_on (map {A = Bor Section} {B = Section} (λ s. s.now) l.sections)) false
      ((q + slice_index_or l.shut q 0) % 7) (slice_index_or l.next q 0 - slice_index_or l.shut q 0);
}
