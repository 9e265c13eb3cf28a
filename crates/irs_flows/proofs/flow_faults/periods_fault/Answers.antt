use Rattle.irs_flows.proofs.FlowSteps.{few_first, looked_more, many_first, payment_left}
use Rattle.irs_flows.proofs.flow_faults.periods_fault.Goals as goal
use Rattle.std.proofs.Common.{arith}
use Rattle.std.proofs.lemmas.List.{drop_all}

pub returns-then-number-eq-MOST_ROWS : goal.returns-then-number-eq-MOST_ROWS
returns-then-number-eq-MOST_ROWS c =
    rw c.at.ensures (many_first c.args.stream _ c.values_at-v-items.result.now c.loop-v.v-index c.v-item.result _
    c.loop-v-test.true c.v-item.is c.loop-v.number c.loop-v.first c.loop-v.invariant c.if-number-eq-MOST_ROWS.true)

pub loop-v-init : goal.loop-v-init
loop-v-init c =
    rw (payment_left c.args.payments.now c.loop-payment.payment-index c.payment-item.result
    c.values_at-v-items.result.now c.loop-payment-test.true c.payment-item.is c.values_at-v-items.ensures)
    at c.loop-payment.invariant

pub loop-v-preserved : goal.loop-v-preserved
loop-v-preserved c =
    looked_more c.args.stream _ c.values_at-v-items.result.now c.loop-v.v-index c.v-item.result _ c.loop-v-test.true
    c.v-item.is c.loop-v.number c.loop-v.first _ _ c.loop-v.invariant
    (omega (arith, c.loop-v.invariant.2, c.if-number-eq-MOST_ROWS.false)) c.earlier-first.ensures c.period_fault.ensures

pub loop-payment-preserved : goal.loop-payment-preserved
loop-payment-preserved c =
    rw (drop_all c.loop-v.v-index c.values_at-v-items.result.now c.loop-v-test.false) at c.loop-v.invariant

pub returns : goal.returns
returns c =
    few_first c.args.stream _ c.loop-payment.number _
    (rw (drop_all c.loop-payment.payment-index c.args.payments.now c.loop-payment-test.false) at c.loop-payment.invariant)
