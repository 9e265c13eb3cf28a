use Rattle.std.proofs.Common.{◌≡◌, ◌+◌, ◌<◌, ◌≤◌, length, All}
use Rattle.irs_base.specs.Lists.{EachNumbered}
use Rattle.irs_overnight.specs.Private.Bounds.{IsInRange}
use Rattle.irs_average.specs.Averages.{IsMeanRow, averaging_by, mean_source, own_lines}
use Rattle.irs_average.proofs.MeanOrder.{KeptBelow}
use Rattle.irs_average.proofs.mean_rows.mean_rows.Given as goal

abbrev pub invariant-loop-number : goal.invariant-loop-number
invariant-loop-number g l =
    let source = mean_source l.part (averaging_by l.kind l.step (g.G.GoodDays.days l.days) (own_lines l.fix l.float)) in
    record {
      many : length l.rows + 1 ≡ l.number;
      within : 1 < l.number → l.number ≤ length source.adjusted;
      each : EachNumbered (IsMeanRow source) 1 l.rows;
      range : All IsInRange l.rows;
      kept : KeptBelow source l.number;
    }
