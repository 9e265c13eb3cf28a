use Rattle.irs_resets.specs.Resets.{source_of}
use Rattle.irs_observed.specs.OvernightRates.{DailySource, daily_source}
use Rattle.irs_observed.proofs.OvernightOutcomes.{overnight_determined}
use Rattle.irs_observed.proofs.daily_resets.overnight_resets_are_determined.Goals as goal

pub returns : goal.returns
returns g c =
    let source : DailySource =
    daily_source (source_of c.args.s.now c.args.span.now c.args.adjusted.now
    (g.G.GoodDays.days c.args.reset_days.now) (g.G.GoodDays.days c.args.fixing_days.now))
    (g.G.GoodDays.days c.args.applicable.now) c.args.float.now c.args.parameters.now in
    overnight_determined source c.args.fixings.now c.args.float.now c.requires.leg c.requires.legs c.requires.offset
    (record {
      adjusted = c.as_slice-days.ensures.days;
      reset_set = c.cover.ensures.range;
      fixing_set = c.cover-2.ensures.range;
    })
