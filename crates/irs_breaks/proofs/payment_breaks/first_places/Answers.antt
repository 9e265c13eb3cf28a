use Rattle.std.proofs.Common.{◌+◌, min, length, List, subst, sym, ap, ◌∙◌, arith}
use Rattle.std.proofs.Common.{get_or}
use Rattle.irs_flows.specs.declared.flows.FlowPayment.{FlowPayment}
use Rattle.irs_flows.specs.declared.flows.FlowPeriod.{FlowPeriod}
use Rattle.irs_breaks.proofs.PaymentsTold.{StartsUpTo, starts_all, starts_more}
use Rattle.irs_breaks.proofs.payment_breaks.first_places.Goals as goal

pub loop-payment-preserved : goal.loop-payment-preserved
loop-payment-preserved c =
    let same = ap (λ (z : List FlowPayment). length z) c.payments-payment-items.ensures in
    subst (λ z. StartsUpTo c.args.flow.now (c.loop-payment.payment-index + 1) c.next_place-next.result z)
    (sym c.in_ok-push.ensures.items)
    (starts_more c.args.flow.now c.loop-payment.payment-index c.loop-payment.next c.next_place-next.result
    c.loop-payment.starts.items c.payment-item.result c.loop-payment.invariant (let low = c.loop-payment-test.true in omega (arith, same, low))
    (c.payment-item.is ∙ ap (λ (z : List FlowPayment). get_or z c.loop-payment.payment-index c.payment-item.result)
    c.payments-payment-items.ensures)
    (c.next_place-next.ensures ∙ ap (λ (z : List FlowPeriod). min (length z) (c.loop-payment.next + c.payment-item.result.periods))
    c.periods-count.ensures))

pub returns : goal.returns
returns c =
    let same = ap (λ (z : List FlowPayment). length z) c.payments-payment-items.ensures in
    let all = c.loop-payment-test.false in
    starts_all c.args.flow.now c.loop-payment.payment-index c.loop-payment.next c.loop-payment.starts.items
    c.loop-payment.invariant (omega (arith, same, all))
