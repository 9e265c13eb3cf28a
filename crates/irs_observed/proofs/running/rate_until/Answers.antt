use Rattle.irs_observed.proofs.RunningLemmas.{weights_until}
use Rattle.irs_observed.proofs.running.rate_until.Goals as goal

pub invariant_of-part : goal.invariant_of-part
invariant_of-part c =
    rw (c.in_ok-observed_until.ensures, c.as_slice.ensures.value)
    (weights_until c.args.d c.args.all.now c.as_slice.ensures.weights c.requires.starts)
