use Rattle.irs_audit.proofs.VerdictLemmas.{one_verdict}
use Rattle.irs_audit.proofs.agreement.audit.Goals as goal

pub returns-clause-only : goal.returns-clause-only
returns-clause-only c = λ v h. one_verdict c.args.f.now c.args.s.now v c.verdict.result h
    (rw c.streams.ensures at c.verdict.ensures)
