use Rattle.irs_compound.specs.Private.AmountLaws.{one_list}
use Rattle.irs_compound.specs.Amounts.{denominator}
use Rattle.irs_compound.specs.Private.AmountLaws.{all_fractions}
use Rattle.irs_compound.proofs.Outcomes.{payment_determined}
use Rattle.irs_compound.proofs.payments.payment_amount_is_determined.Goals as goal

pub returns-clause-determined : goal.returns-clause-determined
returns-clause-determined c =
    let ps = c.args.periods.now in
    payment_determined c.args.code ps c.args.places (all_fractions (denominator ps) ps c.requires.2)

pub returns-clause-one_list : goal.returns-clause-one_list
returns-clause-one_list c = λ cs ds a b. one_list c.args.code c.args.periods.now cs ds c.requires a b
