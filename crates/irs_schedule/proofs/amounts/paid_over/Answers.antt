use Rattle.std.proofs.Common.{rules}
use Rattle.irs_schedule.specs.Private.Layouts.{table_dates}
use Rattle.irs_compound.proofs.AmountBounds.{amount_small}
use Rattle.irs_schedule.proofs.AmountLemmas.{amount_fits, is_payment}
use Rattle.irs_schedule.proofs.amounts.paid_over.Goals as goal

pub payment_amount-requires-clause-payment : goal.payment_amount-requires-clause-payment
payment_amount-requires-clause-payment c =
    is_payment (table_dates c.args.s.now c.args.table.now) c.requires.lawful c.requires.table c.args.payment.now
    c.args.terms.now c.requires.periods.from_one c.requires.periods.some c.requires.periods.to_end c.requires.terms

pub returns-in-Ok-clause-bound : goal.returns-in-Ok-clause-bound
returns-in-Ok-clause-bound c =
    let s = c.args.s.now in
    let ts = c.args.terms.now in
    let places = c.places-places.result in
    let payment =
    is_payment (table_dates s c.args.table.now) c.requires.lawful c.requires.table c.args.payment.now ts
    c.requires.periods.from_one c.requires.periods.some c.requires.periods.to_end c.requires.terms in
    let answers = c.in-Ok.ensures.meets in
    rw (c.paying.ensures, c.decimal.ensures)
    (amount_fits s.currency places c.in-Ok.units c.places-places.ensures
    (amount_small s.compounding ts places c.in-Ok.units payment (search rules) answers.0 answers.1))
