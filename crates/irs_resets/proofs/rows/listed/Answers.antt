use Rattle.std.proofs.Common.{arith, ◌≡◌, ◌+◌, ℕ, length-append, length, [], ◌∷◌}
use Rattle.irs_terms.specs.declared.results.Reset.{Reset}
use Rattle.irs_base.proofs.MemberLemmas.{numbered_push}
use Rattle.std.proofs.lemmas.List.Elements.{All-push}
use Rattle.irs_resets.specs.declared.observed.PeriodKind.{PeriodKind}
use Rattle.irs_resets.specs.Rates.{IsObserved}
use Rattle.irs_resets.specs.Private.Resets.{observed_rate}
use Rattle.irs_resets.specs.Resets.{ResetSource, source_of, IsReset, HasSmallRate}
use Rattle.irs_resets.proofs.ObservedLaws.{is_observed}
use Rattle.irs_resets.proofs.RowLemmas.{many_rows}
use Rattle.irs_resets.proofs.rows.listed.Goals as goal

pub loop-number-preserved : goal.loop-number-preserved
loop-number-preserved g c =
    let source : ResetSource =
    source_of c.args.s.now c.args.span.now c.args.adjusted.now (g.G.GoodDays.days c.args.reset_days.now)
    (g.G.GoodDays.days c.args.fixing_days.now) in
    let R : ℕ → Reset → Type 0 = IsReset source c.args.float.now c.args.terms.now c.args.fixings.now in
    let row : Reset =
    record {
      reset = c.in-Ok.dates.reset;
      fixing = c.in-Ok.dates.fixing;
      observed =
          c.observed-rate.result;
    } in
    let next : 1 + length c.loop-number.rows ≡ c.loop-number.number = omega (arith, c.loop-number.invariant.many) in
    let kind : PeriodKind = c.period_kind-kind.result in
    let same : c.observed-rate.result
    ≡ observed_rate kind c.args.float.now c.args.s.now.stubs c.args.fixings.now c.in-Ok.dates.fixing =
    c.observed-rate.ensures.value in
    let observed : IsObserved kind c.args.float.now c.args.s.now.stubs c.args.fixings.now c.in-Ok.dates.fixing
    c.observed-rate.result =
    rw same (is_observed c.args.float.now kind c.args.s.now.stubs c.args.fixings.now c.in-Ok.dates.fixing) in
    let is : R c.loop-number.number row =
    record {
      dates = c.in-Ok.ensures.ok;
      kind = kind;
      is_kind = c.period_kind-kind.ensures;
      observed =
          observed;
    } in
    rw c.in-Ok-push.ensures.ok (record {
      many = omega (arith, length-append c.loop-number.rows (row ∷ []), c.loop-number.invariant.many);
      within = λ _. omega (arith, c.loop-number-test.true);
      each = numbered_push R 1 c.loop-number.number c.loop-number.rows row c.loop-number.invariant.each next is;
      small = All-push HasSmallRate c.loop-number.rows row c.loop-number.invariant.small c.observed-rate.ensures.small;
    })

pub returns-clause-some : goal.returns-clause-some
returns-clause-some g c =
    record {
      many =
          many_rows (length c.loop-number.rows) c.loop-number.number
          (length c.args.adjusted.now) c.loop-number.invariant.many c.loop-number.invariant.within
          c.loop-number-test.false;
      each = c.loop-number.invariant.each;
    }
