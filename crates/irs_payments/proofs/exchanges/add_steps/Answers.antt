use Rattle.std.proofs.Common.{◌≡◌, ◌+◌, ◌<◌, ◌++◌, List, length, drop, get_or, to_z, sym, subst, ap, ◌∙◌}
use Rattle.std.specs.Int.{w128}
use Rattle.std.proofs.lemmas.Result.{err_from_is_err_and}
use Rattle.irs_terms.specs.Lawful.{IsNotional}
use Rattle.irs_terms.specs.declared.step_list.Step.{Step}
use Rattle.irs_payments.specs.Exchanges.{changes, final_of}
use Rattle.irs_payments.proofs.ExchangeLemmas.{fits_notional}
use Rattle.irs_payments.proofs.ListedExchanges.{few_listed, step_left}
use Rattle.irs_payments.proofs.exchanges.add_steps.Goals as goal

pub add-requires-clause-few : goal.add-requires-clause-few
add-requires-clause-few g c =
    few_listed c.args.s.now (g.G.GoodDays.days c.args.days.now) c.requires.lawful _ c.loop-step.listing
    c.loop-step.invariant.lists

pub returns-in_err-listing : goal.returns-in_err-listing
returns-in_err-listing g c =
    let s = c.args.s.now in
    let set = g.G.GoodDays.days c.args.days.now in
    let steps = c.as_slice-steps.result.now in
    let i = c.loop-step.step-index in
    let step = c.step-item.result in
    let next = step_left s set (to_z w128 c.loop-step.before-bits) steps i step c.loop-step.listing
    c.loop-step-test.true c.step-item.is c.loop-step.invariant.lists in
    let p = err_from_is_err_and c.from_residual.result c.from_residual.ensures.1 in
    rw (p.1, p.2)
    (c.in_err-listing.ensures (changes step.value (drop (i + 1) steps) ++ final_of s) (rw c.change.ensures next))

pub loop-step-preserved : goal.loop-step-preserved
loop-step-preserved g c =
    let s = c.args.s.now in
    let set = g.G.GoodDays.days c.args.days.now in
    let steps = c.as_slice-steps.result.now in
    let i = c.loop-step.step-index in
    let step = c.step-item.result in
    let l : i < length steps = c.loop-step-test.true in
    let k : i < length s.notional.steps = subst (λ (xs : List Step). i < length xs) c.as_slice-steps.ensures l in
    let at : get_or s.notional.steps i step ≡ step =
    ap (λ (xs : List Step). get_or xs i step) (sym c.as_slice-steps.ensures) ∙ sym c.step-item.is in
    let value : IsNotional step.value =
    subst (λ (x : Step). IsNotional x.value) at (c.requires.lawful.notional.2 i step k).1 in
    let next = step_left s set (to_z w128 c.loop-step.before-bits) steps i step c.loop-step.listing l c.step-item.is
    c.loop-step.invariant.lists in
    rw (fits_notional step.value value.0 value.1) record {
      before = value;
      lists = (c.in_ok-listing.ensures {u = tt}) (changes step.value (drop (i + 1) steps) ++ final_of s)
          (rw c.change.ensures next);
    }
