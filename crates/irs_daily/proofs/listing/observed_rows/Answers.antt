use Rattle.std.proofs.Common.{◌∷◌}
use Rattle.irs_observed.specs.OvernightRates.{OvernightSource, overnight_source}
use Rattle.irs_daily.proofs.PeriodsListed.{lists_all, lists_more, none_at_all, none_more}
use Rattle.irs_daily.proofs.listing.observed_rows.Goals as goal

pub loop-number-preserved : goal.loop-number-preserved
loop-number-preserved g c =
    let source : OvernightSource =
    overnight_source c.args.s.now c.args.span.now c.args.adjusted.now (g.G.GoodDays.days c.args.applicable.now)
    c.args.float.now c.args.parameters.now in
    let period = c.in-Ok.period in
    record {
      rows = lists_more source c.args.fixings.now c.args.adjusted.now c.loop-number.number c.loop-number.rows
          c.push_period.new.rows (period.head ∷ period.days) c.loop-number-test.true c.loop-number.invariant.rows
          c.in-Ok.ensures.meets.1 c.in_ok-push_period-in-Ok.ensures;
      none = none_more source c.args.fixings.now c.loop-number.number c.loop-number.invariant.none c.in-Ok.ensures.meets.0;
    }

pub returns : goal.returns
returns g c =
    let source : OvernightSource =
    overnight_source c.args.s.now c.args.span.now c.args.adjusted.now (g.G.GoodDays.days c.args.applicable.now)
    c.args.float.now c.args.parameters.now in
    record {
      meets = (
        none_at_all source c.args.fixings.now c.loop-number.number c.loop-number-test.false c.loop-number.invariant.none,
        lists_all source c.args.fixings.now c.loop-number.number c.loop-number.rows c.loop-number-test.false
            c.loop-number.invariant.rows,
      );
    }
