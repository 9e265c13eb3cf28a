use Rattle.std.proofs.Common.{◌≡◌, inl, inr, ℕ, ◌+◌, ◌<◌, [], ◌∷◌, length, length-append, sym, subst, arith}
use Rattle.std.proofs.lemmas.Bool.{cases_lt}
use Rattle.std.proofs.lemmas.List.Elements.{All-push}
use Rattle.irs_base.specs.Outcomes.{First}
use Rattle.irs_base.proofs.MemberLemmas.{numbered_push}
use Rattle.irs_overnight.specs.Overnight.{derived_before}
use Rattle.irs_overnight.specs.Private.Bounds.{IsInRange}
use Rattle.irs_average.specs.Averages.{IsMeanRow, BreaksSamples, LacksSampleDay, MeanSource, averaging_by}
use Rattle.irs_average.specs.Averages.{mean_period_at, mean_source, own_lines}
use Rattle.irs_average.proofs.MeanOrder.{first_lacking}
use Rattle.irs_average.proofs.mean_rows.mean_rows.Goals as goal

pub returns-in_default-clause-broken : goal.returns-in_default-clause-broken
returns-in_default-clause-broken g c =
    let source : MeanSource =
    mean_source c.args.part.now
    (averaging_by c.args.kind c.args.step (g.G.GoodDays.days c.args.days.now)
    (own_lines c.args.fix.now c.args.float.now)) in
    let number = c.loop-number.number in
    let within : number < length source.adjusted = rw c.adjusted-number-end.ensures.value at c.loop-number-test.true in
    let lacks : LacksSampleDay (mean_period_at source number) = rw c.in_default.is at c.in_ok-found.ensures.none in
    subst (First derived_before (BreaksSamples source)) (sym c.lacking.ensures)
    (first_lacking source number (c.loop-number.auto.number, within) lacks c.loop-number.invariant.kept)

pub loop-number-preserved : goal.loop-number-preserved
loop-number-preserved g c =
    let source : MeanSource =
    mean_source c.args.part.now
    (averaging_by c.args.kind c.args.step (g.G.GoodDays.days c.args.days.now)
    (own_lines c.args.fix.now c.args.float.now)) in
    let number = c.loop-number.number in
    let row = c.in-Some.row in
    let within : number < length source.adjusted = rw c.adjusted-number-end.ensures.value at c.loop-number-test.true in
    let is : IsMeanRow source number row = rw c.in-Some.is at c.in_ok-found.ensures.some in
    let range : IsInRange row = rw c.in-Some.is at c.in_ok-found.ensures.range in
    let unbroken : LacksSampleDay (mean_period_at source number) → ⊥ = rw c.in-Some.is at c.in_ok-found.ensures.unbroken in
    let next : 1 + length c.loop-number.rows ≡ number = omega (arith, c.loop-number.invariant.many) in
    rw c.in_ok-push.ensures.ok (record {
      many = omega (arith, length-append c.loop-number.rows (row ∷ []), c.loop-number.invariant.many);
      within = λ _. omega (arith, within);
      each = numbered_push (IsMeanRow source) 1 number c.loop-number.rows row c.loop-number.invariant.each next is;
      range = All-push IsInRange c.loop-number.rows row c.loop-number.invariant.range range;
      kept = λ j p low. elim (cases_lt j number) [
        | inl less ↦ c.loop-number.invariant.kept j p less
        | inr more ↦
            let here : j ≡ number = omega (arith, low, more) in
            subst (λ (n : ℕ). LacksSampleDay (mean_period_at source n) → ⊥) (sym here) unbroken
      ];
    })
