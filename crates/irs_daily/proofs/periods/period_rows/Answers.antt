use Rattle.irs_observed.proofs.OvernightLemmas.{next_after}
use Rattle.irs_observed.specs.OvernightRates.{OvernightSource, overnight_source}
use Rattle.irs_daily.proofs.PeriodSteps.{own_rows, period_meets}
use Rattle.irs_daily.proofs.periods.period_rows.Goals as goal

pub daily_rows-requires : goal.daily_rows-requires
daily_rows-requires g c =
    record {
      order = rw (c.boundary-start.ensures, c.boundary-end.ensures)
          (next_after c.args.adjusted.now c.args.number c.requires.rising c.requires.period.0 c.requires.period.1);
    }

pub returns-in-None : goal.returns-in-None
returns-in-None g c =
    let source : OvernightSource =
    overnight_source c.args.s.now c.args.span.now c.args.adjusted.now (g.G.GoodDays.days c.args.applicable.now)
    c.args.float.now c.args.parameters.now in
    record {
      meets = period_meets source c.args.fixings.now c.args.number c.period_kind-kind.result c.period_kind-kind.ensures
          c.in-None.ensures.none c.requires.period c.daily_rows.result
          (rw (c.boundary-start.ensures, c.boundary-end.ensures, c.method_by.ensures) at c.daily_rows.ensures.meets);
    }

pub returns-in-Some : goal.returns-in-Some
returns-in-Some g c =
    let source : OvernightSource =
    overnight_source c.args.s.now c.args.span.now c.args.adjusted.now (g.G.GoodDays.days c.args.applicable.now)
    c.args.float.now c.args.parameters.now in
    record {
      meets = own_rows source c.args.fixings.now c.args.number c.period_kind-kind.result c.period_kind-kind.ensures
          c.in-Some.field-0 c.in-Some.ensures.some c.stub_rows.result c.stub_rows.ensures.head c.stub_rows.ensures.days;
    }
