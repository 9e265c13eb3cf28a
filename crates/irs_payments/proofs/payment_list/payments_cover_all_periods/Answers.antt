use Rattle.irs_payments.proofs.PaymentsCover.{every_payments_cover}
use Rattle.irs_payments.proofs.payment_list.payments_cover_all_periods.Goals as goal

pub returns : goal.returns
returns g c =
    every_payments_cover c.args.s.now (g.G.GoodDays.days c.args.days.now) c.args.unadjusted.now c.args.adjusted.now
    c.requires.lawful c.requires.term c.requires.boundaries c.as_slice-boundaries.ensures.days
