use Rattle.std.proofs.Common.{inl, inr, subst, ℕ}
use Rattle.irs_resets.specs.Resets.{ResetDays, reset_days_by, DatesFail}
use Rattle.irs_resets.proofs.FileLemmas.{below}
use Rattle.irs_resets.proofs.dates.first_with.Goals as goal

pub loop-number-preserved : goal.loop-number-preserved
loop-number-preserved g c =
    let days : ResetDays =
    reset_days_by c.args.adjusted.now (g.G.GoodDays.days c.args.reset_days.now)
    (g.G.GoodDays.days c.args.fixing_days.now) in λ i some low f. elim (below i c.loop-number.number low) [
      | inl old ↦ c.loop-number.invariant i some old f
      | inr now ↦
          let here = subst (λ (k : ℕ). DatesFail c.args.fault c.args.terms.now days k) now f in
          let is = c.has_fault.ensures.1 here in
          let isnt = c.if-has_fault.false in
          cc (is, isnt)
    ]
