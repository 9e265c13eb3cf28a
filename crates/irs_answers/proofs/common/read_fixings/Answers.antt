use Rattle.irs_answers.proofs.FirstLemmas.{read_table}
use Rattle.irs_answers.proofs.common.read_fixings.Goals as goal

pub returns-in-Some : goal.returns-in-Some
returns-in-Some c =
    rw c.in-Some.is
    (read_table c.in-Some.bytes.items c.read.result (rw c.deref.ensures.value at c.read.ensures.meets))
