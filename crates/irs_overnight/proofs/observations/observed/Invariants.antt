use Rattle.irs_overnight.specs.Observations.{daily_lines}
use Rattle.irs_overnight.proofs.ObservationLemmas.{Observes}
use Rattle.irs_overnight.proofs.observations.observed.Given as goal

abbrev pub invariant-loop-place : goal.invariant-loop-place
invariant-loop-place l = Observes (daily_lines l.daily l.index) l.first l.starts l.end l.place l.all.items
