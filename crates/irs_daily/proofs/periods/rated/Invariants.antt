use Rattle.std.proofs.Common.{◌≡◌, take}
use Rattle.irs_observed.specs.ObservedRates.{rates_by}
use Rattle.irs_daily.specs.Private.FactorSteps.{IsSmall}
use Rattle.irs_daily.specs.ObservedRows.{day_rows}
use Rattle.irs_daily.proofs.Growths.{IsGrown}
use Rattle.irs_daily.proofs.periods.rated.Given as goal

abbrev pub invariant-loop-o : goal.invariant-loop-o
invariant-loop-o l = record {
  days : l.days ≡ day_rows (rates_by l.daily) l.number (take l.o-index l.observations);
  growth : IsGrown l.method (rates_by l.daily) l.observations l.o-index l.growth;
  small : IsSmall l.growth;
}
