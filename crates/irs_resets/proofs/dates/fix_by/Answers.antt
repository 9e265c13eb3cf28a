use Rattle.std.proofs.Common.{ℤ, Result, Err, ap}
use Rattle.irs_adjust.specs.declared.moved.NoDate.{NoDate}
use Rattle.irs_resets.proofs.DateLemmas.{fails_by}
use Rattle.irs_resets.proofs.dates.fix_by.Goals as goal

pub returns-in-Err-clause-fault : goal.returns-in-Err-clause-fault
returns-in-Err-clause-fault g c =
    let err : NoDate → Result ℤ NoDate = λ x. Err x in
    rw c.fault_of.ensures
    (fails_by c.args.fix.now (g.G.GoodDays.days c.args.days.now) c.args.reset c.in-Err.reason
    (λ e. c.in-Err.ensures.lacks (ap err e)) (λ e. c.in-Err.ensures.leaves (ap err e)))
