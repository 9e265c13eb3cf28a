use Rattle.std.proofs.Common.{◌≡◌, ◌+◌, ◌<◌, ◌≤◌, length, All}
use Rattle.irs_base.specs.Lists.{EachNumbered}
use Rattle.irs_overnight.specs.Private.Bounds.{IsInRange}
use Rattle.irs_overnight.specs.Overnight.{IsDerivedRow, derived_source}
use Rattle.irs_overnight.proofs.DerivedOrder.{KeptBelow}
use Rattle.irs_overnight.proofs.periods.period_rows.Given as goal

abbrev pub invariant-loop-number : goal.invariant-loop-number
invariant-loop-number g l =
    let source = derived_source l.part l.index (g.G.GoodDays.days l.days) l.daily in
    record {
      many : length l.rows + 1 ≡ l.number;
      within : 1 < l.number → l.number ≤ length source.adjusted;
      each : EachNumbered (IsDerivedRow source) 1 l.rows;
      range : All IsInRange l.rows;
      kept : KeptBelow source l.basis l.number;
    }
