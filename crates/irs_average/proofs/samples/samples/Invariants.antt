use Rattle.irs_average.specs.Averages.{own_lines}
use Rattle.irs_average.proofs.SampleLemmas.{Samples}
use Rattle.irs_average.proofs.samples.samples.Given as goal

abbrev pub invariant-loop-k : goal.invariant-loop-k
invariant-loop-k g l =
    Samples (own_lines l.fix l.float) (g.G.GoodDays.days l.days) l.steps.start l.steps.end l.steps.step l.steps.count
    l.k l.all.items
