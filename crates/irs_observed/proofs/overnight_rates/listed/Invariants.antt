use Rattle.std.proofs.Common.{◌≡◌, ◌+◌, ◌<◌, ◌≤◌, length, All}
use Rattle.irs_base.specs.Lists.{EachNumbered}
use Rattle.irs_observed.specs.OvernightRates.{HasBounds, IsOvernightRate, overnight_source}
use Rattle.irs_observed.specs.Private.OvernightRates.{NoneLacksBefore}
use Rattle.irs_observed.proofs.overnight_rates.listed.Given as goal

-- each period before this one has its observed rate in the list
abbrev pub invariant-loop-number : goal.invariant-loop-number
invariant-loop-number g l =
    let source = overnight_source l.s l.span l.adjusted (g.G.GoodDays.days l.applicable) l.float l.parameters in
    record {
      many : length l.rates + 1 ≡ l.number;
      within : 1 < l.number → l.number ≤ length l.adjusted;
      each : EachNumbered (IsOvernightRate source l.daily) 1 l.rates;
      none : NoneLacksBefore source l.number;
      bounds : All HasBounds l.rates;
    }
