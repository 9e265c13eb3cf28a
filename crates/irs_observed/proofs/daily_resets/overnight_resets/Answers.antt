use Rattle.std.proofs.Common.{arith, inl, inr}
use Rattle.irs_base.proofs.Outcomes.{stopped_meets}
use Rattle.irs_resets.proofs.RowLemmas.{few_days}
use Rattle.irs_resets.specs.Resets.{source_of}
use Rattle.irs_observed.specs.OvernightRates.{overnight_resets_of, DailySource, daily_source}
use Rattle.irs_observed.proofs.OvernightOutcomes.{printed_in, stops_dates, stops_observations}
use Rattle.irs_observed.proofs.daily_resets.overnight_resets.Goals as goal

pub overnight_rates-requires-clause-few : goal.overnight_rates-requires-clause-few
overnight_rates-requires-clause-few g c =
    let few = few_days c.args.adjusted.now c.requires.rising c.as_slice-days.ensures.days in
    rw c.as_slice-days.ensures.value (omega (arith, few))

pub returns-in_err-rows-in-Ok-clause-meets : goal.returns-in_err-rows-in-Ok-clause-meets
returns-in_err-rows-in-Ok-clause-meets g c =
    let source : DailySource =
    daily_source (source_of c.args.s.now c.args.span.now c.args.adjusted.now
    (g.G.GoodDays.days c.args.reset_days.now) (g.G.GoodDays.days c.args.fixing_days.now))
    (g.G.GoodDays.days c.args.applicable.now) c.args.float.now c.args.parameters.now in
    let rates = rw c.as_slice-days.ensures.value at c.in-Ok.ensures.meets in
    let e = c.in_err-rows-in-Ok.field-0.0 in
    stopped_meets (overnight_resets_of source c.args.fixings.now) c.from_residual.result e c.from_residual.ensures.1
    (stops_dates source c.args.fixings.now e c.in_err-rows-in-Ok.ensures.meets rates.0)

pub returns-in_ok-resets-in-Ok-clause-meets : goal.returns-in_ok-resets-in-Ok-clause-meets
returns-in_ok-resets-in-Ok-clause-meets g c =
    let source : DailySource =
    daily_source (source_of c.args.s.now c.args.span.now c.args.adjusted.now
    (g.G.GoodDays.days c.args.reset_days.now) (g.G.GoodDays.days c.args.fixing_days.now))
    (g.G.GoodDays.days c.args.applicable.now) c.args.float.now c.args.parameters.now in
    let rates = rw c.as_slice-days.ensures.value at c.in-Ok.ensures.meets in
    let rows = c.in_ok-rows-in-Ok.ensures.meets in
    let printed = rw (c.as_slice.ensures, c.as_slice-in-Ok.ensures) at c.in_ok-resets-in-Ok.ensures.printed in (
      λ f b. elim b [ inl dates ↦ rows.0 f dates | inr observations ↦ rates.0 f observations ],
      record {
        rates = rates.1;
        resets = printed_in c.args.s.now.reset c.args.s.now.leg c.args.float.now source.dates c.in-Ok.rates
            c.args.fixings.now c.in_ok-rows-in-Ok.rows c.in_ok-resets-in-Ok.resets c.requires.leg rows.1 printed;
      },
    )

pub returns-in-Err-Broken-clause-meets : goal.returns-in-Err-Broken-clause-meets
returns-in-Err-Broken-clause-meets g c =
    let source : DailySource =
    daily_source (source_of c.args.s.now c.args.span.now c.args.adjusted.now
    (g.G.GoodDays.days c.args.reset_days.now) (g.G.GoodDays.days c.args.fixing_days.now))
    (g.G.GoodDays.days c.args.applicable.now) c.args.float.now c.args.parameters.now in
    let first = rw (c.as_slice-days.ensures.value, c.in-Err-Broken.field-0-is) at c.in-Err-Broken.ensures.meets in
    rw c.with_dates.ensures
    (stops_observations source c.args.fixings.now c.resets-dated.result c.in-Err-Broken.fault c.resets-dated.ensures.meets
    first)
