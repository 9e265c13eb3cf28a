use Rattle.irs_accrue.proofs.OneDaily.{one_accrual_of}
use Rattle.irs_accrue.proofs.Periods.{has_boundaries}
use Rattle.irs_accrue.proofs.streams.accrued_of_is_determined.Goals as goal

pub returns : goal.returns
returns g c = λ a b h k.
    one_accrual_of c.args.s.now (g.G.GoodDays.days c.args.applicable.now) c.args.fixings.now c.args.part.now c.args.d
    (has_boundaries c.args.part.now c.periods-bounds.ensures.bounds) c.requires a b h k
