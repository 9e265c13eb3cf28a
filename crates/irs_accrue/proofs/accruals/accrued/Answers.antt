use Rattle.irs_accrue.proofs.OneAccrual.{one_accrual}
use Rattle.irs_accrue.proofs.accruals.accrued.Goals as goal

pub returns-clause-one : goal.returns-clause-one
returns-clause-one c = λ a b h k. one_accrual c.args.s.now c.args.stream c.args.d a b c.streams.ensures.bounds h k
