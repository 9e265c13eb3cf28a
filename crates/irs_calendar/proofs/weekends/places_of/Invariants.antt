use Rattle.std.proofs.Common.{◌≡◌, ℕ, ◌+◌, ◌%◌, ◌<◌, length, slice_index_or}
use Rattle.irs_calendar.proofs.weekends.places_of.Given as goal

-- for each weekday before p, the place of its next closed weekday is known
abbrev pub invariant-loop-p : goal.invariant-loop-p
invariant-loop-p l = record {
  each : length l.places ≡ 7;
  old : (q : ℕ) → q < l.p → slice_index_or l.places q 0 ≡ (q + slice_index_or l.next q 0) % 7;
}
