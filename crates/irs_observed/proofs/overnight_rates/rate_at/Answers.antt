use Rattle.irs_observed.proofs.OvernightLemmas.{daily_meets, next_after}
use Rattle.irs_observed.specs.OvernightRates.{OvernightSource, overnight_source}
use Rattle.irs_observed.proofs.overnight_rates.rate_at.Goals as goal

pub rate_over-requires : goal.rate_over-requires
rate_over-requires g c =
    record {
      order = rw (c.boundary-start.ensures, c.boundary-end.ensures)
          (next_after c.args.adjusted.now c.args.number c.requires.rising c.requires.period.0 c.requires.period.1);
    }

pub returns-in-None-clause-meets : goal.returns-in-None-clause-meets
returns-in-None-clause-meets g c =
    let source : OvernightSource =
    overnight_source c.args.s.now c.args.span.now c.args.adjusted.now (g.G.GoodDays.days c.args.applicable.now)
    c.args.float.now c.args.parameters.now in
    daily_meets source c.args.daily.now c.args.number c.period_kind-kind.result c.period_kind-kind.ensures
    c.in-None.ensures.none c.requires.period c.rate_over.result
    (rw (c.boundary-start.ensures, c.boundary-end.ensures, c.method_by.ensures) at c.rate_over.ensures.meets)
