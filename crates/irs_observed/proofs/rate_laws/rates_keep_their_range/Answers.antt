use Rattle.irs_observed.specs.ObservedRates.{daily_rates}
use Rattle.irs_observed.proofs.RateLemmas.{not_above, not_below, one_gives_itself, zero_gives_zero}
use Rattle.irs_observed.proofs.rate_laws.rates_keep_their_range.Goals as goal

pub returns-clause-zero : goal.returns-clause-zero
returns-clause-zero c =
    zero_gives_zero c.args.method (daily_rates c.args.daily.now c.args.index.now) c.args.observations.now

pub returns-clause-one : goal.returns-clause-one
returns-clause-one c =
    one_gives_itself c.args.method (daily_rates c.args.daily.now c.args.index.now) c.args.observations.now
    c.as_slice-observations.ensures.weights.each

pub returns-clause-not_below : goal.returns-clause-not_below
returns-clause-not_below c =
    not_below (daily_rates c.args.daily.now c.args.index.now) c.args.observations.now

pub returns-clause-not_above : goal.returns-clause-not_above
returns-clause-not_above c =
    not_above (daily_rates c.args.daily.now c.args.index.now) c.args.observations.now
