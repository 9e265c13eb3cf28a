use Rattle.std.proofs.Common.{◌≡◌, inl, inr, ℕ, ◌+◌, ◌<◌, [], ◌∷◌, length, length-append, sym, subst, arith}
use Rattle.std.proofs.lemmas.Bool.{cases_lt}
use Rattle.std.proofs.lemmas.List.Elements.{All-push}
use Rattle.irs_overnight.specs.Private.Bounds.{IsInRange, FirstWay, NoneFails}
use Rattle.std.proofs.lemmas.Result.{err_from_is_err_and}
use Rattle.irs_base.specs.Outcomes.{First}
use Rattle.irs_terms.specs.declared.places.Fault.{Fault}
use Rattle.irs_base.proofs.HandedAnswers.{handed_on}
use Rattle.irs_base.proofs.MemberLemmas.{numbered_push}
use Rattle.irs_overnight.specs.Overnight.{DerivedSource, derived_source, derived_period_at, IsDerivedRow, BreaksPeriod}
use Rattle.irs_overnight.specs.Overnight.{derived_before, period_fault}
use Rattle.irs_overnight.specs.declared.periods.PeriodFault.{PeriodFault}
use Rattle.irs_overnight.proofs.DerivedOrder.{first_period}
use Rattle.irs_overnight.proofs.periods.period_rows.Goals as goal

pub returns-in_err-row-clause-broken : goal.returns-in_err-row-clause-broken
returns-in_err-row-clause-broken g c =
    let source : DerivedSource =
    derived_source c.args.part.now c.args.index.now (g.G.GoodDays.days c.args.days.now) c.args.daily.now in
    let number = c.loop-number.number in
    let within : number < length source.adjusted = rw c.adjusted-number-end.ensures.value at c.loop-number-test.true in
    let p = err_from_is_err_and c.from_residual.result c.from_residual.ensures.1 in
    let P : Fault → Type 0 =
    λ f. (why : PeriodFault) × FirstWay (derived_period_at source c.args.basis number) why
    × (f ≡ period_fault why number) in
    let Q : Fault → Type 0 = First derived_before (BreaksPeriod source) in
    rw (p.1, p.2) (handed_on c.in_err-row.field-0.0 P Q
    (λ f h. subst Q (sym h.2) (first_period source c.args.basis c.requires.basis number h.0 (
      c.loop-number.auto.number,
      within,
    ) h.1 c.loop-number.invariant.kept))
    c.in_err-row.ensures.broken)

pub loop-number-preserved : goal.loop-number-preserved
loop-number-preserved g c =
    let source : DerivedSource =
    derived_source c.args.part.now c.args.index.now (g.G.GoodDays.days c.args.days.now) c.args.daily.now in
    let number = c.loop-number.number in
    let row = c.in_ok-row.row in
    let within : number < length source.adjusted = rw c.adjusted-number-end.ensures.value at c.loop-number-test.true in
    let next : 1 + length c.loop-number.rows ≡ number = omega (arith, c.loop-number.invariant.many) in
    rw c.in_ok-push.ensures.ok (record {
      many = omega (arith, length-append c.loop-number.rows (row ∷ []), c.loop-number.invariant.many);
      within = λ _. omega (arith, within);
      each = numbered_push (IsDerivedRow source) 1 number c.loop-number.rows row c.loop-number.invariant.each next
          c.in_ok-row.ensures.ok;
      range = All-push IsInRange c.loop-number.rows row c.loop-number.invariant.range c.in_ok-row.ensures.range;
      kept = λ j p low. elim (cases_lt j number) [
        | inl less ↦ c.loop-number.invariant.kept j p less
        | inr more ↦
            let here : j ≡ number = omega (arith, low, more) in
            subst (λ (n : ℕ). NoneFails (derived_period_at source c.args.basis n)) (sym here) c.in_ok-row.ensures.kept
      ];
    })
