use Rattle.std.proofs.Common.{◌≡◌, length}
use Rattle.irs_base.specs.Lists.{EachNumbered}
use Rattle.irs_observed.specs.Observations.{IsObservation}
use Rattle.irs_observed.proofs.walk.observed.Given as goal

-- each member before this place has its observation in the list
abbrev pub invariant-loop-place : goal.invariant-loop-place
invariant-loop-place g l = record {
  many : length l.all.items ≡ l.place;
  each : EachNumbered (IsObservation l.offset (g.G.GoodDays.days l.days) l.members l.end) 0 l.all.items;
}
