use Rattle.std.proofs.Common.{◌+◌, List, sym, subst}
use Rattle.irs_overnight.specs.Observations.{RateLines, daily_lines}
use Rattle.irs_overnight.specs.declared.observations.Observation.{Observation}
use Rattle.irs_overnight.proofs.ObservationLemmas.{Observes, observes_more}
use Rattle.irs_overnight.proofs.observations.observed.Goals as goal

pub loop-place-preserved : goal.loop-place-preserved
loop-place-preserved c =
    let lines : RateLines = daily_lines c.args.daily.now c.args.index.now in
    let more = observes_more lines c.args.first c.args.starts.now c.args.end c.loop-place.place c.loop-place.all.items
    c.observation_at.result c.loop-place.invariant c.observation_at.ensures.is c.observation_at.ensures.small in
    subst (λ (v : List Observation). Observes lines c.args.first c.args.starts.now c.args.end
    (c.loop-place.place + 1) v) (sym c.in_ok-push.ensures.items) more
