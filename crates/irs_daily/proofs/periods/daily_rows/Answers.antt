use Rattle.irs_observed.specs.ObservedRates.{DailyRates, daily_rates}
use Rattle.irs_observed.specs.Observations.{ObservedPeriod, observed_period}
use Rattle.irs_daily.proofs.PeriodSteps.{daily_meets}
use Rattle.irs_daily.proofs.periods.daily_rows.Goals as goal

pub returns-in-Ok : goal.returns-in-Ok
returns-in-Ok g c =
    let daily : DailyRates = daily_rates c.args.fixings.now c.args.index.now in
    let p : ObservedPeriod =
    observed_period c.args.offset (g.G.GoodDays.days c.args.applicable.now) c.args.start c.args.end in
    record {
      meets = daily_meets c.args.method daily p c.args.number c.in-Ok.all c.in-Ok.ensures.meets.0
          c.in-Ok.ensures.meets.1 c.rows_by.result (rw c.of.ensures at c.rows_by.ensures.meets);
    }
