use Rattle.std.proofs.Common.{◌≡◌, length, Some, refl, ap, ◌∙◌}
use Rattle.std.proofs.lemmas.List.{length-map}
use Rattle.irs_schedule.specs.declared.entries.PaymentEntry.{PaymentEntry}
use Rattle.irs_flows.specs.declared.flows.FlowPayment.{FlowPayment}
use Rattle.irs_breaks.specs.BreakLists.{payment_row_dates, stated_payment_dates, IsPaymentRow}
use Rattle.irs_breaks.proofs.TablesTold.{same_placed, told_of}
use Rattle.irs_breaks.proofs.payment_breaks.push_payments.Goals as goal

pub push_payment_rows-requires : goal.push_payment_rows-requires
push_payment_rows-requires c =
    let ours : c.deref.result.now ≡ payment_row_dates c.args.part.now.payments =
    c.deref.ensures.value ∙ (c.in_ok-ours.ensures ∙ ap payment_row_dates c.payments.ensures.value) in
    let theirs : c.deref-2.result.now ≡ stated_payment_dates c.args.flow.now.payments =
    c.deref-2.ensures.value ∙ (c.in_ok-theirs.ensures ∙ ap stated_payment_dates c.payments-2.ensures) in
    same_placed (length c.deref.result.now) (length c.deref-2.result.now) (length c.args.part.now.payments)
    (length c.args.flow.now.payments) c.in_ok-rows.rows.items c.deref-3.result.now
    (ap length ours ∙ length-map c.args.part.now.payments (λ (x : PaymentEntry). Some x.adjusted))
    (ap length theirs ∙ length-map c.args.flow.now.payments (λ (y : FlowPayment). y.adjusted)) c.deref-3.ensures.value
    c.in_ok-rows.ensures.placed

pub returns : goal.returns
returns c =
    let ours : c.deref.result.now ≡ payment_row_dates c.args.part.now.payments =
    c.deref.ensures.value ∙ (c.in_ok-ours.ensures ∙ ap payment_row_dates c.payments.ensures.value) in
    let theirs : c.deref-2.result.now ≡ stated_payment_dates c.args.flow.now.payments =
    c.deref-2.ensures.value ∙ (c.in_ok-theirs.ensures ∙ ap stated_payment_dates c.payments-2.ensures) in
    told_of c.args.from c.args.from c.deref.result.now c.deref-2.result.now (payment_row_dates c.args.part.now.payments)
    (stated_payment_dates c.args.flow.now.payments) (IsPaymentRow c.args.stream c.args.part.now c.args.flow.now)
    c.in_ok-rows.rows.items c.deref-3.result.now c.args.list.now c.push_payment_rows.new.list refl ours theirs
    c.deref-3.ensures.value c.in_ok-rows.ensures.pairing c.in_ok-push_payment_rows.ensures
