use Rattle.std.proofs.Common.{◌≡◌, ap, ◌∙◌}
use Rattle.std.specs.Prelude.{◌==◌}
use Rattle.irs_terms.specs.declared.currency.Currency.{Currency}
use Rattle.irs_breaks.specs.Findings.{payment_fields}
use Rattle.irs_breaks.specs.Private.Findings.{Adds}
use Rattle.irs_breaks.specs.BreakLists.{FindsPayment, ArePeriodsOf}
use Rattle.std.proofs.lemmas.Result.{on_ok_weaker}
use Rattle.irs_breaks.proofs.PaymentsTold.{bare_told, is_bare, not_bare, payments_told, periods_told}
use Rattle.irs_breaks.proofs.payment_breaks.push_payment_pair.Goals as goal

pub returns-then-bare : goal.returns-then-bare
returns-then-bare c =
    let fields : c.payment_fields-fields.result ≡ payment_fields c.args.part.now.currency c.args.x.now c.args.y.now =
    c.payment_fields-fields.ensures.fields
    ∙ ap (λ (k : Currency). payment_fields k c.args.x.now c.args.y.now) c.currency.ensures in
    payments_told c.args.place.now c.args.part.now c.args.flow.now c.args.start c.args.x.now c.args.y.now
    c.payment_fields-fields.result c.payment_counts.result c.args.list.now c.push_pair.new.self c.push_fields.new.list c.push_fields.new.list fields
    c.payment_counts.ensures c.in_ok-push_pair.ensures c.in_ok-push_fields.ensures
    (bare_told (c.args.y.now.periods == 0)
    (ArePeriodsOf c.args.place.now.stream c.args.part.now c.args.flow.now c.args.x.now c.args.start c.args.y.now) c.push_fields.new.list
    (is_bare c.args.y.now.periods c.if-bare.true))

pub returns-else-bare : goal.returns-else-bare
returns-else-bare c =
    let fields : c.payment_fields-fields.result ≡ payment_fields c.args.part.now.currency c.args.x.now c.args.y.now =
    c.payment_fields-fields.ensures.fields
    ∙ ap (λ (k : Currency). payment_fields k c.args.x.now c.args.y.now) c.currency.ensures in
    on_ok_weaker {P = Adds (ArePeriodsOf c.args.place.now.stream c.args.part.now c.args.flow.now c.args.x.now c.args.start
    c.args.y.now) c.push_fields.new.list c.push_periods.new.list}
    {Q = Adds (FindsPayment c.args.place.now c.args.part.now c.args.flow.now c.args.start c.args.x.now c.args.y.now)
    c.args.list.now c.push_periods.new.list} c.push_periods.result
    (λ h. payments_told c.args.place.now c.args.part.now c.args.flow.now c.args.start c.args.x.now
    c.args.y.now c.payment_fields-fields.result c.payment_counts.result c.args.list.now c.push_pair.new.self
    c.push_fields.new.list c.push_periods.new.list fields c.payment_counts.ensures c.in_ok-push_pair.ensures c.in_ok-push_fields.ensures
    (periods_told (c.args.y.now.periods == 0)
    (ArePeriodsOf c.args.place.now.stream c.args.part.now c.args.flow.now c.args.x.now c.args.start c.args.y.now) c.push_fields.new.list c.push_periods.new.list
    (not_bare c.args.y.now.periods c.if-bare.false) h))
    c.push_periods.ensures
