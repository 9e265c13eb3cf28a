use Rattle.std.proofs.Common.{◌≡◌, List, Option, Some, None, refl, subst, ap, ◌∙◌}
use Rattle.std.specs.Prelude.{option_and_then, option_copied}
use Rattle.std.proofs.lemmas.Result.{on_ok_weaker}
use Rattle.irs_base.specs.declared.line.Dec.{Dec}
use Rattle.irs_terms.specs.declared.results.Reset.{Reset}
use Rattle.irs_schedule.specs.RowsOf.{period_at}
use Rattle.irs_audit.specs.declared.departures.RowKind.TheVariants as row
use Rattle.irs_breaks.specs.Findings.{notional_of, joined_findings}
use Rattle.irs_breaks.specs.Private.Findings.{Adds}
use Rattle.irs_breaks.specs.BreakLists.{ArePeriods, IsPeriodRow, member_at, ours_alone, break_place, theirs_alone}
use Rattle.irs_breaks.specs.declared.findings.BreakPlace.{BreakPlace}
use Rattle.irs_breaks.proofs.RowsTold.{adds_both, adds_neither, adds_ours, adds_theirs}
use Rattle.irs_breaks.proofs.period_breaks.push_period.Goals as goal

pub returns-in-Some-Some : goal.returns-in-Some-Some
returns-in-Some-Some c =
    let ours : Some c.in-Some-Some.x ≡ option_and_then (period_at c.args.part.now) c.args.row.now.ours =
    rw (← c.period_at-ours.ensures.value, c.in-Some-Some.is-0) refl in
    let theirs : Some c.in-Some-Some.y.now ≡ member_at c.args.flow.now.periods c.args.row.now.theirs =
    rw (← c.periods-ys.ensures, ← c.member_at-theirs.ensures, c.in-Some-Some.is-1) refl in
    let place = break_place c.args.stream row.Period c.args.row.now in
    let reset : option_copied c.member_at-reset.result ≡ member_at c.args.part.now.resets c.args.row.now.ours =
    c.member_at-reset.ensures ∙ ap (λ (z : List Reset). member_at z c.args.row.now.ours) c.resets.ensures.value in
    on_ok_weaker {P = Adds (ArePeriods c.place_of-place.result (option_copied c.member_at-reset.result) c.in-Some-Some.x c.in-Some-Some.y.now) c.args.list.now c.push_period_pair.new.list}
    {Q = Adds (IsPeriodRow c.args.stream c.args.part.now c.args.flow.now c.args.row.now) c.args.list.now c.push_period_pair.new.list} c.push_period_pair.result
    (λ h. adds_both (ArePeriods place (member_at c.args.part.now.resets c.args.row.now.ours))
    (λ x. ours_alone place (Some (notional_of x.notional))) (λ y. theirs_alone place 4 y.notional) _ _ c.in-Some-Some.x
    c.in-Some-Some.y.now c.args.list.now c.push_period_pair.new.list ours theirs
    (subst (λ (o : Option Reset). Adds (ArePeriods place o c.in-Some-Some.x c.in-Some-Some.y.now) c.args.list.now c.push_period_pair.new.list) reset
    (subst (λ (z : BreakPlace). Adds (ArePeriods z (option_copied c.member_at-reset.result) c.in-Some-Some.x c.in-Some-Some.y.now) c.args.list.now c.push_period_pair.new.list) c.place_of-place.ensures h)))
    c.push_period_pair.ensures

pub returns-in-Some-None : goal.returns-in-Some-None
returns-in-Some-None c =
    let ours : Some c.in-Some-None.x ≡ option_and_then (period_at c.args.part.now) c.args.row.now.ours =
    rw (← c.period_at-ours.ensures.value, c.in-Some-None.is-0) refl in
    let theirs : None ≡ member_at c.args.flow.now.periods c.args.row.now.theirs =
    rw (← c.periods-ys.ensures, ← c.member_at-theirs.ensures, c.in-Some-None.is-1) refl in
    let place = break_place c.args.stream row.Period c.args.row.now in
    on_ok_weaker {P = c.push_ours.new.list ≡ joined_findings c.args.list.now (ours_alone c.place_of-place.result (Some c.notional_of.result))}
    {Q = Adds (IsPeriodRow c.args.stream c.args.part.now c.args.flow.now c.args.row.now) c.args.list.now c.push_ours.new.list} c.push_ours.result
    (λ h. adds_ours (ArePeriods place (member_at c.args.part.now.resets c.args.row.now.ours))
    (λ x. ours_alone place (Some (notional_of x.notional))) (λ y. theirs_alone place 4 y.notional) _ _ c.in-Some-None.x c.args.list.now c.push_ours.new.list
    ours theirs
    (h ∙ (ap (λ (z : BreakPlace). joined_findings c.args.list.now (ours_alone z (Some c.notional_of.result))) c.place_of-place.ensures
    ∙ ap (λ (v : Dec). joined_findings c.args.list.now (ours_alone place (Some v))) c.notional_of.ensures)))
    c.push_ours.ensures

pub returns-in-None-Some : goal.returns-in-None-Some
returns-in-None-Some c =
    let ours : None ≡ option_and_then (period_at c.args.part.now) c.args.row.now.ours =
    rw (← c.period_at-ours.ensures.value, c.in-None-Some.is-0) refl in
    let theirs : Some c.in-None-Some.y.now ≡ member_at c.args.flow.now.periods c.args.row.now.theirs =
    rw (← c.periods-ys.ensures, ← c.member_at-theirs.ensures, c.in-None-Some.is-1) refl in
    let place = break_place c.args.stream row.Period c.args.row.now in
    on_ok_weaker {P = c.push_theirs.new.list ≡ joined_findings c.args.list.now (theirs_alone c.place_of-place.result 4 c.in-None-Some.y.now.notional)}
    {Q = Adds (IsPeriodRow c.args.stream c.args.part.now c.args.flow.now c.args.row.now) c.args.list.now c.push_theirs.new.list} c.push_theirs.result
    (λ h. adds_theirs (ArePeriods place (member_at c.args.part.now.resets c.args.row.now.ours))
    (λ x. ours_alone place (Some (notional_of x.notional))) (λ y. theirs_alone place 4 y.notional) _ _ c.in-None-Some.y.now c.args.list.now c.push_theirs.new.list
    ours theirs
    (h ∙ ap (λ (z : BreakPlace). joined_findings c.args.list.now (theirs_alone z 4 c.in-None-Some.y.now.notional))
    c.place_of-place.ensures))
    c.push_theirs.ensures

pub returns-in-None-None : goal.returns-in-None-None
returns-in-None-None c =
    let ours : None ≡ option_and_then (period_at c.args.part.now) c.args.row.now.ours =
    rw (← c.period_at-ours.ensures.value, c.in-None-None.is-0) refl in
    let theirs : None ≡ member_at c.args.flow.now.periods c.args.row.now.theirs =
    rw (← c.periods-ys.ensures, ← c.member_at-theirs.ensures, c.in-None-None.is-1) refl in
    let place = break_place c.args.stream row.Period c.args.row.now in
    adds_neither (ArePeriods place (member_at c.args.part.now.resets c.args.row.now.ours))
    (λ x. ours_alone place (Some (notional_of x.notional))) (λ y. theirs_alone place 4 y.notional) _ _ c.args.list.now ours theirs
