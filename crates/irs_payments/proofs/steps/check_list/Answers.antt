use Rattle.std.proofs.Common.{◌≡◌, true, false, Some, sym, ap, subst, ◌∙◌}
use Rattle.std.specs.List.{slice_get}
use Rattle.std.proofs.lemmas.Option.{slice_get-get_or}
use Rattle.irs_base.specs.Lists.{Member}
use Rattle.irs_base.specs.Outcomes.{First}
use Rattle.irs_terms.specs.Faults.{comes_before}
use Rattle.irs_terms.specs.declared.places.Rule.TheVariants.{K36}
use Rattle.irs_base.proofs.MemberLemmas.{none_of_more}
use Rattle.irs_payments.specs.Exchanges.{IsOff, BreaksUnder}
use Rattle.irs_payments.proofs.NumberLemmas.{none_in, first_in}
use Rattle.irs_payments.proofs.steps.check_list.Goals as goal

pub returns-then-not-has_day : goal.returns-then-not-has_day
returns-then-not-has_day c =
    let b = c.args.boundaries.now in
    let steps = c.args.steps.now in
    let i = c.loop-i.i in
    let step = c.index-steps-i.result in
    let at : slice_get steps i ≡ Some step =
    slice_get-get_or steps i step c.loop-i-test.true ∙ ap Some (sym c.index-steps-i.is) in
    let off : IsOff b step = λ (on : Member step.day b).
    let both : true ≡ false = sym (c.has_day.ensures.1 on) ∙ c.if-not-has_day.true in
    absurd (cc) in
    subst (First comes_before (BreaksUnder b c.args.elem steps)) (sym c.fault.ensures)
    (first_in K36 c.args.elem (IsOff b) steps i step at off c.loop-i.invariant)

pub loop-i-preserved : goal.loop-i-preserved
loop-i-preserved c =
    let steps = c.args.steps.now in
    let i = c.loop-i.i in
    let step = c.index-steps-i.result in
    let at : slice_get steps i ≡ Some step =
    slice_get-get_or steps i step c.loop-i-test.true ∙ ap Some (sym c.index-steps-i.is) in
    none_of_more (IsOff c.args.boundaries.now) steps i step at
    (λ off. off (c.has_day.ensures.0 c.if-not-has_day.false)) c.loop-i.invariant

pub returns : goal.returns
returns c =
    none_in K36 c.args.elem (IsOff c.args.boundaries.now) c.args.steps.now c.loop-i.i c.loop-i-test.false
    c.loop-i.invariant
