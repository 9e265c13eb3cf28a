use Rattle.irs_emit_xml.proofs.emitting.payments.Goals as goal
use Rattle.irs_emit_xml.specs.Flows.{payment_node}
use Rattle.irs_emit_xml.specs.Private.Flows.{lines}
use Rattle.irs_emit_xml.proofs.Walks.{mapped_all, mapped_more}
use Rattle.std.proofs.Common.{◌∙◌, ◌++◌, ap, map}
use Rattle.irs_emit.proofs.Bounds.{paid_at}

pub loop-j-preserved : goal.loop-j-preserved
loop-j-preserved c =
    mapped_more 3 (payment_node c.args.part.now) c.payments-paid.result.now c.loop-j.j c.index-paid-j.result
    c.args.out.now.items c.loop-j.out.items
    c.payment.new.out.items c.loop-j-test.true c.index-paid-j.is c.loop-j.invariant c.in_ok-payment.ensures

pub returns : goal.returns
returns c =
    let done = mapped_all 3 (payment_node c.args.part.now) c.payments-paid.result.now c.loop-j.j c.args.out.now.items
    c.loop-j.out.items c.loop-j-test.false
    c.loop-j.invariant in
    done ∙ ap (λ xs. c.args.out.now.items ++ lines 3 (map (payment_node c.args.part.now) xs))
    c.payments-paid.ensures.value

pub payment-requires : goal.payment-requires
payment-requires c =
    paid_at c.args.part.now c.payments-paid.result.now c.loop-j.j c.index-paid-j.result c.payments-paid.ensures.bounds
    c.payments-paid.ensures.value c.loop-j-test.true c.index-paid-j.is
