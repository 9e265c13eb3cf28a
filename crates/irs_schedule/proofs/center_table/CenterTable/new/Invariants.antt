use Rattle.std.proofs.Common.{◌≡◌, ℕ, ◌<◌, Some, slice_get}
use Rattle.irs_terms.specs.declared.stream.Stream.{Stream}
use Rattle.irs_schedule.specs.Private.Layouts.{HasStream}
use Rattle.irs_schedule.proofs.center_table.CenterTable.new.Given as goal

-- the table has the streams before this one
abbrev pub invariant-loop-s : goal.invariant-loop-s
invariant-loop-s l =
    record {
      sections : l.table.sections ≡ l.cal;
      streams : (i : ℕ) (s : Stream) → i < l.s-index
          → slice_get l.s-items i ≡ Some s → HasStream l.table s;
    }
