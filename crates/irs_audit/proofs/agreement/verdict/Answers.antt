use Rattle.irs_audit.proofs.VerdictLemmas.{row_count_fits, unfixed_count_fits}
use Rattle.irs_audit.proofs.agreement.verdict.Goals as goal

pub row_count-requires : goal.row_count-requires
row_count-requires c = rw c.streams-parts.ensures.value (row_count_fits c.args.s.now c.streams-parts.ensures.bounds)

pub unfixed_count-requires : goal.unfixed_count-requires
unfixed_count-requires c =
    rw c.streams-parts.ensures.value (unfixed_count_fits c.args.s.now c.streams-parts.ensures.bounds)

pub returns-in-Some : goal.returns-in-Some
returns-in-Some c = rw c.streams-parts.ensures.value at c.in-Some.ensures
