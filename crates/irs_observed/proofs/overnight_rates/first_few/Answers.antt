use Rattle.std.proofs.Common.{arith, inl, inr, ℕ, subst}
use Rattle.irs_base.proofs.Firsts.{lt_false}
use Rattle.irs_resets.proofs.FileLemmas.{below}
use Rattle.irs_observed.specs.OvernightRates.{OvernightSource, overnight_source}
use Rattle.irs_observed.specs.Private.OvernightRates.{HasFewAfter}
use Rattle.irs_observed.proofs.overnight_rates.first_few.Goals as goal

pub loop-number-preserved : goal.loop-number-preserved
loop-number-preserved g c =
    let source : OvernightSource =
    overnight_source c.args.s.now c.args.span.now c.args.adjusted.now (g.G.GoodDays.days c.args.applicable.now)
    c.args.float.now c.args.parameters.now in
    record {
      low = omega (arith, c.loop-number.invariant.low);
      none = λ i low h. elim (below i c.loop-number.number low) [
        | inl old ↦ c.loop-number.invariant.none i old h
        | inr now ↦
            let here = subst (λ (k : ℕ). HasFewAfter source c.args.after k) now h in
            let is = c.in_ok-has_few.ensures.1 here.1 in
            let isnt = c.if-branch.false in
            cc (is, isnt)
      ];
    }

pub returns-then-branch : goal.returns-then-branch
returns-then-branch g c = (
  (omega (arith, c.loop-number.invariant.low), c.in_ok-has_few.ensures.0 c.if-branch.true),
  λ i h. lt_false i c.loop-number.number (λ less. c.loop-number.invariant.none i less h),
)

pub returns : goal.returns
returns g c = λ i h.
    let high = h.1.period.1 in
    c.loop-number.invariant.none i (omega (arith, high, c.loop-number-test.false)) h
