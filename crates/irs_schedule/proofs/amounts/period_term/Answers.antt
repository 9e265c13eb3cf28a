use Rattle.std.proofs.Common.{◌-◌, arith, ◌<ℤ◌}
use Rattle.irs_payments.proofs.PlaceLemmas.{rises_at}
use Rattle.irs_base.specs.Lists.{day_at}
use Rattle.irs_schedule.proofs.amounts.period_term.Goals as goal

pub fraction_by-requires : goal.fraction_by-requires
fraction_by-requires c =
    let a = c.args.table.now.adjusted.now in
    let i = c.args.number in
    let rises : day_at a (i - 1) <ℤ day_at a i =
    rises_at a (i - 1) i c.requires.table.rises (omega (arith, c.requires.low))
    (omega (arith, c.requires.high, c.requires.table.same_length)) in
    rw (c.day_at.ensures, c.day_at-2.ensures) rises
