use Rattle.irs_emit.proofs.emitting.payments.Goals as goal
use Rattle.irs_emit.proofs.Pieces.{mapped_all, mapped_more}
use Rattle.irs_emit.specs.Emitted.{payment_value}
use Rattle.irs_emit.specs.Private.Texts.{listed_text}
use Rattle.std.proofs.Common.{◌++◌, ◌∙◌, ap, false, map}
use Rattle.irs_emit.proofs.Bounds.{paid_at}

pub loop-j-preserved : goal.loop-j-preserved
loop-j-preserved c =
    mapped_more (payment_value c.args.part.now) c.payments-paid.result.now c.loop-j.j c.index-paid-j.result
    c.loop-j.later c.args.out.now.items
    c.loop-j.out.items c.comma.new.out.items c.payment.new.out.items c.loop-j-test.true c.index-paid-j.is
    c.loop-j.invariant.0
    c.loop-j.invariant.1 c.in_ok-comma.ensures c.in_ok-payment.ensures

pub returns : goal.returns
returns c =
    mapped_all (payment_value c.args.part.now) c.payments-paid.result.now c.loop-j.j c.args.out.now.items
    c.loop-j.out.items c.loop-j-test.false
    c.loop-j.invariant.0
    ∙ ap (λ xs. c.args.out.now.items ++ listed_text false (map (payment_value c.args.part.now) xs))
    c.payments-paid.ensures.value

pub payment-requires-clause-paid : goal.payment-requires-clause-paid
payment-requires-clause-paid c =
    paid_at c.args.part.now c.payments-paid.result.now c.loop-j.j c.index-paid-j.result c.payments-paid.ensures.bounds
    c.payments-paid.ensures.value c.loop-j-test.true c.index-paid-j.is

pub payment-requires-clause-currency : goal.payment-requires-clause-currency
payment-requires-clause-currency c = c.payments-paid.ensures.bounds.currency
