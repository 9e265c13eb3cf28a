use Rattle.std.proofs.Common.{◌≡◌, ◌<◌, ℕ, ℤ, length, arith, pos, subst, ap, ◌∙◌, Result, Err}
use Rattle.std.proofs.lemmas.List.{get_or_default}
use Rattle.irs_adjust.specs.declared.moved.NoDate.{NoDate}
use Rattle.irs_payments.specs.Private.Dating.{cut_at, date_place}
use Rattle.irs_payments.specs.Payments.{PaymentLacksResult, PaymentLeavesRange}
use Rattle.irs_payments.proofs.DateLemmas.{outcome_err}
use Rattle.irs_payments.proofs.PaymentLemmas.{place_low}
use Rattle.irs_base.specs.Lists.{day_at}
use Rattle.irs_payments.proofs.payment_list.payment.Goals as goal

pub returns-in-Err : goal.returns-in-Err
returns-in-Err g c =
    let s = c.args.s.now in
    let set = g.G.GoodDays.days c.args.days.now in
    let a = c.args.adjusted.now in
    let cuts = c.args.places.now in
    let j = c.args.j in
    let k = c.pay_place.result in
    let low : k < length cuts = omega (arith, c.pay_place.ensures, place_low s.pay.relative j, c.requires.within) in
    let inside : cut_at cuts k < length a = omega (arith, c.requires.places.within k low, c.requires.adjusted) in
    let start : c.index-adjusted-place.result ≡ day_at a (date_place s cuts j) =
    c.index-adjusted-place.is ∙ get_or_default a (cut_at cuts k) c.index-adjusted-place.result (pos 0) inside
    ∙ ap (λ (m : ℕ). day_at a (cut_at cuts m)) c.pay_place.ensures in
    let err : NoDate → Result ℤ NoDate = λ x. Err x in
    outcome_err s set c.args.unadjusted.now a cuts j c.in-Err.reason
    (λ e. subst (λ (z : ℤ). PaymentLacksResult s.pay set z) start (c.in-Err.ensures.lacks (ap err e)))
    (λ e. subst (λ (z : ℤ). PaymentLeavesRange s.pay set z) start (c.in-Err.ensures.leaves (ap err e)))
