use Rattle.irs_observed.specs.OvernightRates.{overnight_source}
use Rattle.irs_daily.specs.ObservedRows.{NoneBefore}
use Rattle.irs_daily.proofs.PeriodsListed.{ListsTo}
use Rattle.irs_daily.proofs.listing.observed_rows.Given as goal

abbrev pub invariant-loop-number : goal.invariant-loop-number
invariant-loop-number g l =
    let source = overnight_source l.s l.span l.adjusted (g.G.GoodDays.days l.applicable) l.float l.parameters in
    record {
      rows : ListsTo source l.fixings l.adjusted l.number l.rows;
      none : NoneBefore source l.fixings l.number;
    }
