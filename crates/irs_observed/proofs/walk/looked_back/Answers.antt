use Rattle.std.proofs.Common.{◌≡◌, ◌≤◌, ◌-◌, ap, ◌∙◌, arith, subst, sym, ℤ, ℕ}
use Rattle.irs_base.specs.Lists.{day_at}
use Rattle.irs_calendar.specs.GoodDays.{DaySet}
use Rattle.irs_observed.specs.Private.OvernightRates.{LooksBack, good_at}
use Rattle.irs_observed.proofs.WalkLemmas.{looks_back, looks_from, looks_none}
use Rattle.irs_observed.proofs.walk.looked_back.Goals as goal

pub returns-then-places-place-clause-some : goal.returns-then-places-place-clause-some
returns-then-places-place-clause-some g c =
    let set : DaySet = g.G.GoodDays.days c.args.days.now in
    let n : c.from-places.result ≡ c.args.n = c.from-places.ensures in
    let test = c.if-places-place.true in
    let low : c.args.n ≤ c.args.place = omega (arith, n, test) in
    let at : c.good_at.result ≡ good_at c.args.first c.args.members.now (c.args.place - c.args.n) =
    c.good_at.ensures ∙ ap (λ (k : ℕ). good_at c.args.first c.args.members.now (c.args.place - k)) n in
    subst (λ (x : ℤ). LooksBack c.args.n set (day_at c.args.members.now c.args.place) x) (sym at)
    (looks_back set c.args.first c.args.members.now c.args.end c.requires.walk c.args.n c.args.place low
    c.requires.place)

pub returns-else-places-place-clause-some : goal.returns-else-places-place-clause-some
returns-else-places-place-clause-some g c =
    looks_from (g.G.GoodDays.days c.args.days.now) c.args.first c.args.members.now c.args.end c.requires.walk c.args.n
    c.args.place c.requires.place c.good_at-else-places-place.result c.good_at-else-places-place.ensures
    c.moved_back.result c.moved_back.ensures.some

pub returns-else-places-place-clause-none : goal.returns-else-places-place-clause-none
returns-else-places-place-clause-none g c =
    looks_none (g.G.GoodDays.days c.args.days.now) c.args.first c.args.members.now c.args.end c.requires.walk c.args.n
    c.args.place c.requires.place c.good_at-else-places-place.result c.good_at-else-places-place.ensures
    c.moved_back.result c.moved_back.ensures.none
