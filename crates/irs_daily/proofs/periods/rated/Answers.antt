use Rattle.std.proofs.Common.{sym, ◌∙◌, arith}
use Rattle.irs_observed.specs.ObservedRates.{DailyRates, rates_by}
use Rattle.irs_observed.proofs.ThroughLemmas.{weight_at}
use Rattle.irs_daily.proofs.Growths.{grown_all, grown_more, grown_none}
use Rattle.irs_daily.proofs.RowSteps.{days_more, rows_all}
use Rattle.irs_daily.proofs.periods.rated.Goals as goal

pub loop-o-init : goal.loop-o-init
loop-o-init c =
    let daily : DailyRates = rates_by c.args.daily.now in
    record {
      days = c.in_ok-days.ensures;
      growth = grown_none c.args.method daily c.args.observations.now c.first_growth-growth.result
          c.first_growth-growth.ensures.first;
      small = c.first_growth-growth.ensures.small;
    }

pub grown-growth-requires-clause-weight : goal.grown-growth-requires-clause-weight
grown-growth-requires-clause-weight c =
    let few = c.requires.weights.few in
    let at = weight_at c.args.observations.now c.loop-o.o-index c.o-item.result c.loop-o-test.true (sym c.o-item.is) in
    omega (arith, few, at)

pub loop-o-preserved : goal.loop-o-preserved
loop-o-preserved c =
    let daily : DailyRates = rates_by c.args.daily.now in
    let before = c.loop-o.invariant in
    let is = sym c.o-item.is in
    record {
      days = c.in_ok-push.ensures.ok
          ∙ days_more daily c.args.number c.args.observations.now c.loop-o.o-index c.o-item.result c.daily_rate_near-rate.result
          c.loop-o.days c.loop-o-test.true is c.daily_rate_near-rate.ensures.value before.days;
      growth = grown_more daily c.args.observations.now c.loop-o.o-index c.o-item.result c.loop-o-test.true is
          c.args.method c.requires.weights c.daily_rate_near-rate.result c.daily_rate_near-rate.ensures.value c.loop-o.growth
          c.grown-growth.result before.growth c.grown-growth.ensures.next;
      small = c.grown-growth.ensures.small;
    }

pub returns : goal.returns
returns c =
    let daily : DailyRates = rates_by c.args.daily.now in
    record {
      days = c.loop-o.invariant.days
          ∙ rows_all daily c.args.number c.args.observations.now c.loop-o.o-index c.loop-o-test.false;
      growth = grown_all c.args.method daily c.args.observations.now c.loop-o.o-index c.loop-o.growth
          c.loop-o-test.false c.loop-o.invariant.growth;
    }
