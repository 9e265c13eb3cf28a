use Rattle.std.proofs.Common.{◌≡◌, ◌∷◌, [], ◌++◌, ℤ, pos, ◌+ℤ◌, sym, subst}
use Rattle.irs_calendar.specs.GoodDays.{DaySet, IsGood}
use Rattle.irs_overnight.proofs.StartLemmas.{is_not, starts_bad, starts_good}
use Rattle.irs_overnight.proofs.starts.starts.Goals as goal
use Rattle.irs_overnight.proofs.starts.starts.Goals.{then-is_good+in_ok-push-2, else-is_good}

pub loop-k-preserved : goal.loop-k-preserved
loop-k-preserved g c =
    let set : DaySet = g.G.GoodDays.days c.args.days.now in
    let day = c.ahead-day.ensures in
    elim c.if-is_good.branch [
      | then-is_good+in_ok-push-2 w ↦
          let pushed = w.in_ok-push-2.ensures.ok in
          let is = w.found-is in
          let e : c.if-is_good.found ≡ c.loop-k.found ++ (c.args.start +ℤ pos c.loop-k.k) ∷ [] = cc (pushed, is, day) in
          let good : IsGood set (c.args.start +ℤ pos c.loop-k.k) =
          subst (λ (x : ℤ). IsGood set x) day (c.is_good.ensures.0 w.if-is_good.true) in
          rw e (starts_good set c.args.start c.loop-k.k c.loop-k.found c.loop-k.auto.k c.loop-k.invariant good)
      | else-is_good w ↦
          let e : c.if-is_good.found ≡ c.loop-k.found = w.found-is in
          rw e (starts_bad set c.args.start c.loop-k.k c.loop-k.found c.loop-k.auto.k c.loop-k.invariant
          (λ good. is_not c.is_good.result w.if-is_good.false
          (c.is_good.ensures.1 (subst (λ (x : ℤ). IsGood set x) (sym day) good))))
    ]
