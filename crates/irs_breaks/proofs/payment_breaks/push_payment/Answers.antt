use Rattle.std.proofs.Common.{◌≡◌, ℕ, Some, None, refl, subst, arith, ap, ap₂, ◌∙◌}
use Rattle.std.specs.Prelude.{unwrap_or}
use Rattle.std.proofs.lemmas.Result.{on_ok_weaker}
use Rattle.irs_terms.specs.Lawful.{decimals_of}
use Rattle.irs_terms.specs.declared.currency.Currency.{Currency}
use Rattle.irs_audit.specs.declared.departures.RowKind.TheVariants as row
use Rattle.irs_breaks.specs.Findings.{joined_findings}
use Rattle.irs_breaks.specs.Private.Findings.{Adds}
use Rattle.irs_breaks.specs.BreakLists.{FindsPayment, IsPaymentRow, member_at, ours_alone, periods_before, break_place}
use Rattle.irs_breaks.specs.BreakLists.{theirs_alone}
use Rattle.irs_breaks.specs.declared.findings.BreakPlace.{BreakPlace}
use Rattle.irs_breaks.proofs.PaymentsTold.{payment_few, payment_periods, start_there}
use Rattle.irs_breaks.proofs.RowsTold.{adds_both, adds_neither, adds_ours, adds_theirs}
use Rattle.irs_breaks.proofs.payment_breaks.push_payment.Goals as goal

pub push_payment_pair-requires-clause-first : goal.push_payment_pair-requires-clause-first
push_payment_pair-requires-clause-first c =
    let there : Some c.in-Some-Some.x.now ≡ member_at c.args.part.now.payments c.args.row.now.ours =
    rw (← c.payments-xs.ensures.value, ← c.member_at-ours.ensures, c.in-Some-Some.is-0) refl in
    let inside = payment_periods c.args.part.now c.args.row.now.ours c.in-Some-Some.x.now c.payments-xs.ensures.bounds there in
    let first = inside.first in
    omega (arith, first)

pub push_payment_pair-requires-clause-order : goal.push_payment_pair-requires-clause-order
push_payment_pair-requires-clause-order c =
    let there : Some c.in-Some-Some.x.now ≡ member_at c.args.part.now.payments c.args.row.now.ours =
    rw (← c.payments-xs.ensures.value, ← c.member_at-ours.ensures, c.in-Some-Some.is-0) refl in
    let inside = payment_periods c.args.part.now c.args.row.now.ours c.in-Some-Some.x.now c.payments-xs.ensures.bounds there in
    inside.order

pub push_payment_pair-requires-clause-last : goal.push_payment_pair-requires-clause-last
push_payment_pair-requires-clause-last c =
    let there : Some c.in-Some-Some.x.now ≡ member_at c.args.part.now.payments c.args.row.now.ours =
    rw (← c.payments-xs.ensures.value, ← c.member_at-ours.ensures, c.in-Some-Some.is-0) refl in
    let inside = payment_periods c.args.part.now c.args.row.now.ours c.in-Some-Some.x.now c.payments-xs.ensures.bounds there in
    inside.within

pub push_payment_pair-requires-clause-amount : goal.push_payment_pair-requires-clause-amount
push_payment_pair-requires-clause-amount c =
    let there : Some c.in-Some-Some.x.now ≡ member_at c.args.part.now.payments c.args.row.now.ours =
    rw (← c.payments-xs.ensures.value, ← c.member_at-ours.ensures, c.in-Some-Some.is-0) refl in
    payment_few c.args.part.now c.args.row.now.ours c.in-Some-Some.x.now c.payments-xs.ensures.bounds there

pub push_ours-requires : goal.push_ours-requires
push_ours-requires c =
    let there : Some c.in-Some-None.x.now ≡ member_at c.args.part.now.payments c.args.row.now.ours =
    rw (← c.payments-xs.ensures.value, ← c.member_at-ours.ensures, c.in-Some-None.is-0) refl in
    payment_few c.args.part.now c.args.row.now.ours c.in-Some-None.x.now c.payments-xs.ensures.bounds there

pub returns-in-Some-Some : goal.returns-in-Some-Some
returns-in-Some-Some c =
    let ours : Some c.in-Some-Some.x.now ≡ member_at c.args.part.now.payments c.args.row.now.ours =
    rw (← c.payments-xs.ensures.value, ← c.member_at-ours.ensures, c.in-Some-Some.is-0) refl in
    let theirs : Some c.in-Some-Some.y.now ≡ member_at c.args.flow.now.payments c.args.row.now.theirs =
    rw (← c.payments-ys.ensures, ← c.member_at-theirs.ensures, c.in-Some-Some.is-1) refl in
    let place = break_place c.args.stream row.Payment c.args.row.now in
    let before = periods_before c.args.flow.now (unwrap_or c.args.row.now.theirs 0) in
    let start : c.start_at.result ≡ before =
    c.start_at.ensures ∙ start_there c.args.flow.now c.args.starts.now c.args.row.now.theirs c.in-Some-Some.y.now
    c.requires.starts theirs in
    on_ok_weaker {P = Adds (FindsPayment c.place_of-place.result c.args.part.now c.args.flow.now c.start_at.result c.in-Some-Some.x.now c.in-Some-Some.y.now) c.args.list.now c.push_payment_pair.new.list}
    {Q = Adds (IsPaymentRow c.args.stream c.args.part.now c.args.flow.now c.args.row.now) c.args.list.now c.push_payment_pair.new.list} c.push_payment_pair.result
    (λ h. adds_both (FindsPayment place c.args.part.now c.args.flow.now before)
    (λ x. ours_alone place x.amount)
    (λ y. theirs_alone place (decimals_of c.args.part.now.currency.letters) y.amount) _ _ c.in-Some-Some.x.now
    c.in-Some-Some.y.now c.args.list.now c.push_payment_pair.new.list ours theirs
    (subst (λ (n : ℕ). Adds (FindsPayment place c.args.part.now c.args.flow.now n c.in-Some-Some.x.now c.in-Some-Some.y.now) c.args.list.now c.push_payment_pair.new.list)
    start
    (subst (λ (z : BreakPlace). Adds (FindsPayment z c.args.part.now c.args.flow.now c.start_at.result c.in-Some-Some.x.now
    c.in-Some-Some.y.now) c.args.list.now c.push_payment_pair.new.list) c.place_of-place.ensures h)))
    c.push_payment_pair.ensures

pub returns-in-Some-None : goal.returns-in-Some-None
returns-in-Some-None c =
    let ours : Some c.in-Some-None.x.now ≡ member_at c.args.part.now.payments c.args.row.now.ours =
    rw (← c.payments-xs.ensures.value, ← c.member_at-ours.ensures, c.in-Some-None.is-0) refl in
    let theirs : None ≡ member_at c.args.flow.now.payments c.args.row.now.theirs =
    rw (← c.payments-ys.ensures, ← c.member_at-theirs.ensures, c.in-Some-None.is-1) refl in
    let place = break_place c.args.stream row.Payment c.args.row.now in
    let before = periods_before c.args.flow.now (unwrap_or c.args.row.now.theirs 0) in
    on_ok_weaker {P = c.push_ours.new.list ≡ joined_findings c.args.list.now (ours_alone c.place_of-place.result c.in-Some-None.x.now.amount)}
    {Q = Adds (IsPaymentRow c.args.stream c.args.part.now c.args.flow.now c.args.row.now) c.args.list.now c.push_ours.new.list} c.push_ours.result
    (λ h. adds_ours (FindsPayment place c.args.part.now c.args.flow.now before)
    (λ x. ours_alone place x.amount)
    (λ y. theirs_alone place (decimals_of c.args.part.now.currency.letters) y.amount) _ _ c.in-Some-None.x.now c.args.list.now c.push_ours.new.list ours theirs
    (h ∙ ap (λ (z : BreakPlace). joined_findings c.args.list.now (ours_alone z c.in-Some-None.x.now.amount)) c.place_of-place.ensures))
    c.push_ours.ensures

pub returns-in-None-Some : goal.returns-in-None-Some
returns-in-None-Some c =
    let ours : None ≡ member_at c.args.part.now.payments c.args.row.now.ours =
    rw (← c.payments-xs.ensures.value, ← c.member_at-ours.ensures, c.in-None-Some.is-0) refl in
    let theirs : Some c.in-None-Some.y.now ≡ member_at c.args.flow.now.payments c.args.row.now.theirs =
    rw (← c.payments-ys.ensures, ← c.member_at-theirs.ensures, c.in-None-Some.is-1) refl in
    let place = break_place c.args.stream row.Payment c.args.row.now in
    let before = periods_before c.args.flow.now (unwrap_or c.args.row.now.theirs 0) in
    let places : c.places.result ≡ decimals_of c.args.part.now.currency.letters =
    c.places.ensures ∙ ap (λ (k : Currency). decimals_of k.letters) c.currency.ensures in
    on_ok_weaker {P = c.push_theirs.new.list ≡ joined_findings c.args.list.now (theirs_alone c.place_of-place.result c.places.result c.in-None-Some.y.now.amount)}
    {Q = Adds (IsPaymentRow c.args.stream c.args.part.now c.args.flow.now c.args.row.now) c.args.list.now c.push_theirs.new.list} c.push_theirs.result
    (λ h. adds_theirs (FindsPayment place c.args.part.now c.args.flow.now before)
    (λ x. ours_alone place x.amount)
    (λ y. theirs_alone place (decimals_of c.args.part.now.currency.letters) y.amount) _ _ c.in-None-Some.y.now c.args.list.now c.push_theirs.new.list ours theirs
    (h ∙ ap₂ (λ (z : BreakPlace) (n : ℕ). joined_findings c.args.list.now (theirs_alone z n c.in-None-Some.y.now.amount))
    c.place_of-place.ensures places))
    c.push_theirs.ensures

pub returns-in-None-None : goal.returns-in-None-None
returns-in-None-None c =
    let ours : None ≡ member_at c.args.part.now.payments c.args.row.now.ours =
    rw (← c.payments-xs.ensures.value, ← c.member_at-ours.ensures, c.in-None-None.is-0) refl in
    let theirs : None ≡ member_at c.args.flow.now.payments c.args.row.now.theirs =
    rw (← c.payments-ys.ensures, ← c.member_at-theirs.ensures, c.in-None-None.is-1) refl in
    let place = break_place c.args.stream row.Payment c.args.row.now in
    let before = periods_before c.args.flow.now (unwrap_or c.args.row.now.theirs 0) in
    adds_neither (FindsPayment place c.args.part.now c.args.flow.now before) (λ x. ours_alone place x.amount)
    (λ y. theirs_alone place (decimals_of c.args.part.now.currency.letters) y.amount) _ _ c.args.list.now ours theirs
