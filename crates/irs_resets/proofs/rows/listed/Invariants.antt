use Rattle.std.proofs.Common.{◌≡◌, ◌+◌, ◌<◌, ◌≤◌, length, All}
use Rattle.irs_base.specs.Lists.{EachNumbered}
use Rattle.irs_resets.specs.Resets.{source_of, IsReset, HasSmallRate}
use Rattle.irs_resets.proofs.rows.listed.Given as goal

-- there is one right reset for each period before this one
abbrev pub invariant-loop-number : goal.invariant-loop-number
invariant-loop-number g l =
    let source = source_of l.s l.span l.adjusted (g.G.GoodDays.days l.reset_days) (g.G.GoodDays.days l.fixing_days) in
    record {
      many : length l.rows + 1 ≡ l.number;
      within : 1 < l.number → l.number ≤ length l.adjusted;
      each : EachNumbered (IsReset source l.float l.terms l.fixings) 1 l.rows;
      small : All HasSmallRate l.rows;
    }
