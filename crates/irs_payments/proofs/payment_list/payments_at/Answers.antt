use Rattle.std.proofs.Common.{◌≡◌, ℕ, arith, length, subst, Option}
use Rattle.std.proofs.lemmas.Result.{err_from_is_err_and}
use Rattle.irs_base.proofs.HandedAnswers.{handed_on}
use Rattle.irs_payments.specs.Private.Dating.{Dated, ArePaid, IsDateFault, NoneLacks}
use Rattle.irs_payments.proofs.DateLemmas.{dated_more, lacks_more, none_dated, lacking_breaks}
use Rattle.irs_payments.proofs.payment_list.payments_at.Goals as goal

pub loop-j-init : goal.loop-j-init
loop-j-init g c = record {
  dated = rw (c.in_ok-list.ensures {u = tt})
      (none_dated c.args.s.now (g.G.GoodDays.days c.args.days.now) c.args.unadjusted.now c.args.adjusted.now
      c.args.places.now c.requires.places);
  none = λ j low high _. omega (arith, low, high);
}

pub loop-j-preserved : goal.loop-j-preserved
loop-j-preserved g c =
    let s = c.args.s.now in
    let set = g.G.GoodDays.days c.args.days.now in
    let b = c.args.unadjusted.now in
    let a = c.args.adjusted.now in
    let cuts = c.args.places.now in
    let settles = (c.in_ok-beyond.ensures {u = tt}).settles in
    record {
      dated = dated_more s set b a cuts c.loop-j.j c.requires.places c.loop-j.auto.j c.loop-j-test.true
          c.payment-payment.result _ _ _ _ c.payment-payment.ensures c.loop-j.invariant.dated settles;
      none = lacks_more s set b a cuts c.loop-j.j c.requires.places c.loop-j.auto.j c.loop-j-test.true
          c.payment-payment.result _ _ _ _ c.payment-payment.ensures c.loop-j.invariant.none settles;
    }

pub returns-in-None : goal.returns-in-None
returns-in-None g c =
    let s = c.args.s.now in
    let set = g.G.GoodDays.days c.args.days.now in
    let b = c.args.unadjusted.now in
    let a = c.args.adjusted.now in
    let cuts = c.args.places.now in
    let whole : c.loop-j.j ≡ length cuts = omega (arith, c.loop-j.auto.j-end c.requires.some, c.loop-j-test.false) in
    let dated : ArePaid s set b a cuts c.loop-j.j c.loop-j.list =
    subst (λ (o : Option ℕ). Dated s set b a cuts c.loop-j.j o c.loop-j.list) c.in-None.is
    c.loop-j.invariant.dated in (
      subst (λ (k : ℕ). ArePaid s set b a cuts k c.loop-j.list) whole dated,
      subst (λ (k : ℕ). NoneLacks s set a cuts k) whole c.loop-j.invariant.none,
    )

pub returns-in_err-beyond : goal.returns-in_err-beyond
returns-in_err-beyond g c =
    let s = c.args.s.now in
    let set = g.G.GoodDays.days c.args.days.now in
    let b = c.args.unadjusted.now in
    let a = c.args.adjusted.now in
    let cuts = c.args.places.now in
    let p = err_from_is_err_and c.from_residual-in_err-beyond.result c.from_residual-in_err-beyond.ensures.1 in
    rw (p.1, p.2)
    (handed_on c.in_err-beyond.field-0.0 _ (λ f. (n : ℕ) × IsDateFault s set a cuts n f)
    (lacking_breaks s set b a cuts c.loop-j.j c.payment-payment.result c.loop-j.auto.j c.loop-j-test.true
    c.payment-payment.ensures c.loop-j.invariant.none) c.in_err-beyond.ensures.lacks)
