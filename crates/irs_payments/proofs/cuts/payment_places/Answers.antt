use Rattle.std.proofs.Common.{◌≡◌, ℕ, ◌+◌, ◌++◌, [], ◌∷◌, length, arith, sym, subst, ap, ◌∙◌, ℤ, pos, true, false}
use Rattle.std.proofs.lemmas.List.{get_or_default}
use Rattle.irs_payments.specs.Payments.{pay_anchor, EndsPayment}
use Rattle.irs_payments.specs.Private.Dating.{AreCuts, EndsAt}
use Rattle.irs_payments.proofs.CutLemmas.{no_cuts, pass_cut, take_cut}
use Rattle.irs_payments.proofs.cuts.payment_places.Goals as goal
use Rattle.irs_payments.proofs.cuts.payment_places.Goals.{then-ends_payment+in_ok-push-2, else-ends_payment}
use Rattle.irs_base.specs.Lists.{day_at}

pub loop-i-init : goal.loop-i-init
loop-i-init c =
    let s = c.args.s.now in
    let b = c.args.boundaries.now in
    let items : c.push.new.self.items ≡ 0 ∷ [] =
    (c.in_ok-push.ensures {u = tt}).items ∙ ap (λ xs. xs ++ 0 ∷ []) (c.in_ok-places.ensures {u = tt}).items in
    subst (AreCuts s b 1) (sym items) (no_cuts s b)

pub loop-i-preserved : goal.loop-i-preserved
loop-i-preserved c =
    let s = c.args.s.now in
    let b = c.args.boundaries.now in
    let i = c.loop-i.i in
    let d = c.index-boundaries-i.result in
    let anchor = c.payment_anchor-anchor.ensures in
    let here : d ≡ day_at b i = c.index-boundaries-i.is ∙ get_or_default b i d (pos 0) c.loop-i-test.true in
    elim c.if-ends_payment.branch [
      | then-ends_payment+in_ok-push-2 w ↦
          let ends : EndsPayment s c.payment_anchor-anchor.result d = c.ends_payment.ensures.0 w.if-ends_payment.true in
          let on : EndsAt s b i =
          subst (λ (z : ℤ). EndsPayment s (pay_anchor s b) z) here
          (subst (λ (z : ℤ). EndsPayment s z d) anchor ends) in
          let items : c.if-ends_payment.places.items ≡ c.loop-i.places.items ++ i ∷ [] =
          ap (λ v. v.items) w.places-is ∙ (w.in_ok-push-2.ensures {u = tt}).items in
          subst (AreCuts s b (i + 1)) (sym items)
          (take_cut s b i c.loop-i.places.items c.requires.rising c.loop-i.auto.i c.loop-i-test.true
          c.loop-i.invariant on)
      | else-ends_payment w ↦
          let off : EndsAt s b i → ⊥ = λ (on : EndsAt s b i).
          let ends : EndsPayment s c.payment_anchor-anchor.result d =
          subst (λ (z : ℤ). EndsPayment s z d) (sym anchor)
          (subst (λ (z : ℤ). EndsPayment s (pay_anchor s b) z) (sym here) on) in
          let both : true ≡ false = sym (c.ends_payment.ensures.1 ends) ∙ w.if-ends_payment.false in
          absurd (cc) in
          subst (AreCuts s b (i + 1)) (sym (ap (λ v. v.items) w.places-is))
          (pass_cut s b i c.loop-i.places.items c.loop-i.invariant off)
    ]

pub returns : goal.returns
returns c =
    let s = c.args.s.now in
    let b = c.args.boundaries.now in
    let whole : c.loop-i.i ≡ length b = omega (arith, c.loop-i.auto.i-end (omega arith), c.loop-i-test.false) in
    subst (λ (k : ℕ). AreCuts s b k c.loop-i.places.items) whole c.loop-i.invariant
