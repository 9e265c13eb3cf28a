use Rattle.std.proofs.Common.{◌≡◌, ℕ, ◌+◌, ◌<◌, List, Some, None, drop, length, sym, ap, subst, arith, ◌∙◌}
use Rattle.std.proofs.lemmas.Option.{same_Some, slice_get_within}
use Rattle.std.specs.Prelude.{slice_get}
use Rattle.std.specs.Str.{IsUtf8}
use Rattle.serde_json.specs.Data.{Data}
use Rattle.serde_json.specs.View.{view}
use Rattle.irs_locate.specs.Private.Seen.{step_seen}
use Rattle.irs_locate.specs.Ways.{LiesAt, root_in, WayStep, way}
use Rattle.irs_locate.proofs.Lies.{a_step_on, at_end, none_is_value, only_below, only_end}
use Rattle.irs_locate.proofs.ShortWays.{few_steps, text_in}
use Rattle.irs_locate.proofs.members.value_at.Goals as goal

pub returns-in-None-clause-some : goal.returns-in-None-clause-some
returns-in-None-clause-some c =
    let steps : List WayStep = way (root_in (view c.args.document.now)) c.args.place.now in
    let v : Data = view c.loop-k.v.now in
    let none : slice_get steps c.loop-k.k ≡ None =
    subst (λ (r : List ℕ). slice_get (way r c.args.place.now) c.loop-k.k ≡ None)
    (c.as_bytes-root.ensures.value ∙ c.root_of.ensures) (sym c.in-None.ensures.is) in
    c.loop-k.invariant.lies v (at_end steps c.loop-k.k v none)

pub returns-in-None-clause-only : goal.returns-in-None-clause-only
returns-in-None-clause-only c = λ e lies.
    let steps : List WayStep = way (root_in (view c.args.document.now)) c.args.place.now in
    let v : Data = view c.loop-k.v.now in
    let none : slice_get steps c.loop-k.k ≡ None =
    subst (λ (r : List ℕ). slice_get (way r c.args.place.now) c.loop-k.k ≡ None)
    (c.as_bytes-root.ensures.value ∙ c.root_of.ensures) (sym c.in-None.ensures.is) in
    ap (λ (x : Data). Some x) (only_end steps c.loop-k.k v e none (c.loop-k.invariant.only e lies))

pub returns-in-None-value_below-clause-only : goal.returns-in-None-value_below-clause-only
returns-in-None-value_below-clause-only c = λ e lies.
    let d : Data = view c.args.document.now in
    let steps : List WayStep = way (root_in d) c.args.place.now in
    let step : WayStep = step_seen c.in-Some.step in
    let some : slice_get steps c.loop-k.k ≡ Some step =
    subst (λ (r : List ℕ). slice_get (way r c.args.place.now) c.loop-k.k ≡ Some step)
    (c.as_bytes-root.ensures.value ∙ c.root_of.ensures) (sym c.in-Some.ensures.is) in
    let on = only_below steps c.loop-k.k step (view c.loop-k.v.now) e some (c.loop-k.invariant.only e lies) in
    let text : IsUtf8 step.name = text_in d c.args.place.now c.loop-k.k step some in
    absurd (none_is_value on.0 (sym (c.in-None-value_below.ensures.none text) ∙ on.1.0))

pub loop-k-preserved : goal.loop-k-preserved
loop-k-preserved c =
    let steps : List WayStep = way (root_in (view c.args.document.now)) c.args.place.now in
    let step : WayStep = step_seen c.in-Some.step in
    let v : Data = view c.loop-k.v.now in
    let x : Data = view c.in-Some-value_below.x.now in
    let some : slice_get steps c.loop-k.k ≡ Some step =
    subst (λ (r : List ℕ). slice_get (way r c.args.place.now) c.loop-k.k ≡ Some step)
    (c.as_bytes-root.ensures.value ∙ c.root_of.ensures) (sym c.in-Some.ensures.is) in
    let within : c.loop-k.k < length steps = slice_get_within steps c.loop-k.k step some in
    record {
      few = omega (arith, within);
      lies = λ e on.
          c.loop-k.invariant.lies e (a_step_on steps c.loop-k.k step v x e some c.in-Some-value_below.ensures.some on);
      only = λ e lies.
          let on = only_below steps c.loop-k.k step v e some (c.loop-k.invariant.only e lies) in
          subst (λ (y : Data). LiesAt (drop (c.loop-k.k + 1) steps) y e)
          (same_Some on.0 x (sym on.1.0 ∙ c.in-Some-value_below.ensures.some)) on.1.1;
    }

pub returns-clause-only : goal.returns-clause-only
returns-clause-only c = λ e lies.
    let few = few_steps (root_in (view c.args.document.now)) c.args.place.now in
    absurd (omega (arith, few, c.loop-k.invariant.few, c.loop-k-test.false))
