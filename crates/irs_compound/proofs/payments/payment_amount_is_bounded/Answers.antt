use Rattle.irs_compound.proofs.AmountBounds.{amount_small}
use Rattle.irs_compound.proofs.AmountTheorems.{out_from_one, out_within}
use Rattle.irs_compound.proofs.payments.payment_amount_is_bounded.Goals as goal

pub returns-clause-size : goal.returns-clause-size
returns-clause-size c = λ m h.
    amount_small c.args.code c.args.periods.now c.args.places m c.requires.payment c.requires.places_fit h.0 h.1

pub returns-clause-position : goal.returns-clause-position
returns-clause-position c = λ n out.
    (out_from_one c.args.code c.args.periods.now n out, out_within c.args.code c.args.periods.now n out)
