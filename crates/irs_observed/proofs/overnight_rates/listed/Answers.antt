use Rattle.std.proofs.Common.{arith, inl, inr, ◌≡◌, ◌+◌, ℕ, length, length-append, subst, [], ◌∷◌}
use Rattle.std.proofs.lemmas.List.Elements.{All-push}
use Rattle.irs_base.proofs.MemberLemmas.{numbered_push}
use Rattle.irs_resets.proofs.FileLemmas.{below}
use Rattle.irs_resets.proofs.RowLemmas.{many_rows}
use Rattle.irs_observed.specs.OvernightRates.{HasBounds, IsOvernightRate, LacksAt, OvernightSource, overnight_source}
use Rattle.irs_observed.proofs.FirstOvernight.{stops_at}
use Rattle.irs_observed.proofs.overnight_rates.listed.Goals as goal

pub loop-number-preserved : goal.loop-number-preserved
loop-number-preserved g c =
    let source : OvernightSource =
    overnight_source c.args.s.now c.args.span.now c.args.adjusted.now (g.G.GoodDays.days c.args.applicable.now)
    c.args.float.now c.args.parameters.now in
    let next : 1 + length c.loop-number.rates ≡ c.loop-number.number = omega (arith, c.loop-number.invariant.many) in
    let rate = c.in-Ok.rate in
    rw c.in_ok-push-in-Ok.ensures.ok (record {
      many = omega (arith, length-append c.loop-number.rates (rate ∷ []), c.loop-number.invariant.many);
      within = λ _. omega (arith, c.loop-number-test.true);
      each = numbered_push (IsOvernightRate source c.args.daily.now) 1 c.loop-number.number c.loop-number.rates rate
          c.loop-number.invariant.each next c.in-Ok.ensures.meets.1;
      none = λ i why low lacks. elim (below i c.loop-number.number low) [
        | inl old ↦ c.loop-number.invariant.none i why old lacks
        | inr now ↦ c.in-Ok.ensures.meets.0 why (subst (λ (k : ℕ). LacksAt source k why) now lacks)
      ];
      bounds = All-push HasBounds c.loop-number.rates rate c.loop-number.invariant.bounds c.in-Ok.ensures.bounds;
    })

pub returns-clause-ok : goal.returns-clause-ok
returns-clause-ok g c = record {
  many = many_rows (length c.loop-number.rates) c.loop-number.number (length c.args.adjusted.now)
      c.loop-number.invariant.many c.loop-number.invariant.within c.loop-number-test.false;
  each = c.loop-number.invariant.each;
}

pub returns-clause-none : goal.returns-clause-none
returns-clause-none g c = λ i why lacks.
    let high = lacks.period.1 in
    c.loop-number.invariant.none i why (omega (arith, high, c.loop-number-test.false)) lacks

pub returns-in-Err-Broken-clause-broken : goal.returns-in-Err-Broken-clause-broken
returns-in-Err-Broken-clause-broken g c =
    let source : OvernightSource =
    overnight_source c.args.s.now c.args.span.now c.args.adjusted.now (g.G.GoodDays.days c.args.applicable.now)
    c.args.float.now c.args.parameters.now in
    rw c.in-Err-Broken.why-is
    (stops_at source c.loop-number.number c.in-Err-Broken.why c.loop-number.invariant.none
    (rw c.in-Err-Broken.field-0-is at c.in-Err-Broken.ensures.meets))
