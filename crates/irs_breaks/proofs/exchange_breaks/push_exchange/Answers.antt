use Rattle.std.proofs.Common.{◌≡◌, ℕ, Some, None, refl, subst, arith, ap, ap₂, ◌∙◌}
use Rattle.std.proofs.lemmas.Result.{on_ok_weaker}
use Rattle.irs_schedule.proofs.PlaceLemmas.{decimals_few}
use Rattle.irs_terms.specs.Lawful.{decimals_of}
use Rattle.irs_terms.specs.declared.currency.Currency.{Currency}
use Rattle.irs_audit.specs.declared.departures.RowKind.TheVariants as row
use Rattle.irs_breaks.specs.Findings.{joined_findings}
use Rattle.irs_breaks.specs.Private.Findings.{Adds}
use Rattle.irs_breaks.specs.BreakLists.{FindsExchange, IsExchangeRow, member_at, ours_alone, break_place, theirs_alone}
use Rattle.irs_breaks.specs.declared.findings.BreakPlace.{BreakPlace}
use Rattle.irs_breaks.proofs.RowsTold.{adds_both, adds_neither, adds_ours, adds_theirs, exchange_few}
use Rattle.irs_breaks.proofs.exchange_breaks.push_exchange.Goals as goal

pub push_exchange_pair-requires : goal.push_exchange_pair-requires
push_exchange_pair-requires c =
    let there : Some c.in-Some-Some.x.now ≡ member_at c.args.part.now.exchanges c.args.row.now.ours =
    rw (← c.exchanges-xs.ensures.value, ← c.member_at-ours.ensures, c.in-Some-Some.is-0) refl in
    exchange_few c.args.part.now c.args.row.now.ours c.in-Some-Some.x.now c.exchanges-xs.ensures.bounds there

pub push_ours-requires : goal.push_ours-requires
push_ours-requires c =
    let there : Some c.in-Some-None.x.now ≡ member_at c.args.part.now.exchanges c.args.row.now.ours =
    rw (← c.exchanges-xs.ensures.value, ← c.member_at-ours.ensures, c.in-Some-None.is-0) refl in
    exchange_few c.args.part.now c.args.row.now.ours c.in-Some-None.x.now c.exchanges-xs.ensures.bounds there

pub push_theirs-requires : goal.push_theirs-requires
push_theirs-requires c =
    let few = decimals_few c.currency.result.letters in
    let is = c.places.ensures in
    omega (arith, few, is)

pub returns-in-Some-Some : goal.returns-in-Some-Some
returns-in-Some-Some c =
    let ours : Some c.in-Some-Some.x.now ≡ member_at c.args.part.now.exchanges c.args.row.now.ours =
    rw (← c.exchanges-xs.ensures.value, ← c.member_at-ours.ensures, c.in-Some-Some.is-0) refl in
    let theirs : Some c.in-Some-Some.y.now ≡ member_at c.args.flow.now.exchanges c.args.row.now.theirs =
    rw (← c.exchanges-ys.ensures, ← c.member_at-theirs.ensures, c.in-Some-Some.is-1) refl in
    let place = break_place c.args.stream row.Exchange c.args.row.now in
    on_ok_weaker {P = Adds (FindsExchange c.place_of-place.result c.in-Some-Some.x.now c.in-Some-Some.y.now) c.args.list.now c.push_exchange_pair.new.list}
    {Q = Adds (IsExchangeRow c.args.stream c.args.part.now c.args.flow.now c.args.row.now) c.args.list.now c.push_exchange_pair.new.list} c.push_exchange_pair.result
    (λ h. adds_both (FindsExchange place) (λ x. ours_alone place (Some x.amount))
    (λ y. theirs_alone place (decimals_of c.args.part.now.currency.letters) y.amount) _ _ c.in-Some-Some.x.now
    c.in-Some-Some.y.now c.args.list.now c.push_exchange_pair.new.list ours theirs
    (subst (λ (z : BreakPlace). Adds (FindsExchange z c.in-Some-Some.x.now c.in-Some-Some.y.now) c.args.list.now c.push_exchange_pair.new.list) c.place_of-place.ensures h))
    c.push_exchange_pair.ensures

pub returns-in-Some-None : goal.returns-in-Some-None
returns-in-Some-None c =
    let ours : Some c.in-Some-None.x.now ≡ member_at c.args.part.now.exchanges c.args.row.now.ours =
    rw (← c.exchanges-xs.ensures.value, ← c.member_at-ours.ensures, c.in-Some-None.is-0) refl in
    let theirs : None ≡ member_at c.args.flow.now.exchanges c.args.row.now.theirs =
    rw (← c.exchanges-ys.ensures, ← c.member_at-theirs.ensures, c.in-Some-None.is-1) refl in
    let place = break_place c.args.stream row.Exchange c.args.row.now in
    on_ok_weaker {P = c.push_ours.new.list ≡ joined_findings c.args.list.now (ours_alone c.place_of-place.result (Some c.in-Some-None.x.now.amount))}
    {Q = Adds (IsExchangeRow c.args.stream c.args.part.now c.args.flow.now c.args.row.now) c.args.list.now c.push_ours.new.list} c.push_ours.result
    (λ h. adds_ours (FindsExchange place) (λ x. ours_alone place (Some x.amount))
    (λ y. theirs_alone place (decimals_of c.args.part.now.currency.letters) y.amount) _ _ c.in-Some-None.x.now c.args.list.now c.push_ours.new.list ours theirs
    (h ∙ ap (λ (z : BreakPlace). joined_findings c.args.list.now (ours_alone z (Some c.in-Some-None.x.now.amount)))
    c.place_of-place.ensures))
    c.push_ours.ensures

pub returns-in-None-Some : goal.returns-in-None-Some
returns-in-None-Some c =
    let ours : None ≡ member_at c.args.part.now.exchanges c.args.row.now.ours =
    rw (← c.exchanges-xs.ensures.value, ← c.member_at-ours.ensures, c.in-None-Some.is-0) refl in
    let theirs : Some c.in-None-Some.y.now ≡ member_at c.args.flow.now.exchanges c.args.row.now.theirs =
    rw (← c.exchanges-ys.ensures, ← c.member_at-theirs.ensures, c.in-None-Some.is-1) refl in
    let place = break_place c.args.stream row.Exchange c.args.row.now in
    let places : c.places.result ≡ decimals_of c.args.part.now.currency.letters =
    c.places.ensures ∙ ap (λ (k : Currency). decimals_of k.letters) c.currency.ensures in
    on_ok_weaker {P = c.push_theirs.new.list ≡ joined_findings c.args.list.now (theirs_alone c.place_of-place.result c.places.result c.in-None-Some.y.now.amount)}
    {Q = Adds (IsExchangeRow c.args.stream c.args.part.now c.args.flow.now c.args.row.now) c.args.list.now c.push_theirs.new.list} c.push_theirs.result
    (λ h. adds_theirs (FindsExchange place) (λ x. ours_alone place (Some x.amount))
    (λ y. theirs_alone place (decimals_of c.args.part.now.currency.letters) y.amount) _ _ c.in-None-Some.y.now c.args.list.now c.push_theirs.new.list ours theirs
    (h ∙ ap₂ (λ (z : BreakPlace) (n : ℕ). joined_findings c.args.list.now (theirs_alone z n c.in-None-Some.y.now.amount))
    c.place_of-place.ensures places))
    c.push_theirs.ensures

pub returns-in-None-None : goal.returns-in-None-None
returns-in-None-None c =
    let ours : None ≡ member_at c.args.part.now.exchanges c.args.row.now.ours =
    rw (← c.exchanges-xs.ensures.value, ← c.member_at-ours.ensures, c.in-None-None.is-0) refl in
    let theirs : None ≡ member_at c.args.flow.now.exchanges c.args.row.now.theirs =
    rw (← c.exchanges-ys.ensures, ← c.member_at-theirs.ensures, c.in-None-None.is-1) refl in
    let place = break_place c.args.stream row.Exchange c.args.row.now in
    adds_neither (FindsExchange place) (λ x. ours_alone place (Some x.amount))
    (λ y. theirs_alone place (decimals_of c.args.part.now.currency.letters) y.amount) _ _ c.args.list.now ours theirs
