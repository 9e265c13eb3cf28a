use Rattle.std.proofs.Common.{ℕ, ℤ, IfNone, length, subst, sym}
use Rattle.irs_base.specs.Lists.{day_at}
use Rattle.irs_observed.specs.Private.OvernightRates.{LooksBack}
use Rattle.irs_observed.proofs.WalkLemmas.{own_place}
use Rattle.irs_observed.proofs.walk.observed_on.Goals as goal

pub returns-in-Lookback-clause-none : goal.returns-in-Lookback-clause-none
returns-in-Lookback-clause-none g c =
    let place = own_place (length c.args.members.now) c.args.place c.requires.place in
    rw c.in-Lookback.is
    (subst (λ (k : ℕ). IfNone c.looked_back.result ((o : ℤ) → LooksBack c.in-Lookback.n
    (g.G.GoodDays.days c.args.days.now) (day_at c.args.members.now k) o → ⊥)) (sym place) c.looked_back.ensures.none)
