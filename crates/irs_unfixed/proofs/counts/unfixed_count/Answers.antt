use Rattle.irs_audit.proofs.VerdictLemmas.{unfixed_count_fits}
use Rattle.irs_unfixed.proofs.CountLemmas.{none_counted}
use Rattle.irs_unfixed.proofs.counts.unfixed_count.Goals as goal

pub all_unfixed-requires : goal.all_unfixed-requires
all_unfixed-requires c =
    rw c.streams.ensures.value (unfixed_count_fits c.args.schedule.now c.streams.ensures.bounds)

pub returns-clause-none : goal.returns-clause-none
returns-clause-none c =
    rw (c.all_unfixed.ensures, c.streams.ensures.value) (none_counted c.args.schedule.now)
