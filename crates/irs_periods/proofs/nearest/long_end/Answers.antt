use Rattle.std.proofs.Common.{arith, ◌≡◌, ◌<◌, ℤ, sym, ◌∙◌, ap, subst, false, int_eq}
use Rattle.jiff_core.proofs.SignedLemmas.{signed_arith}
use Rattle.irs_periods.specs.Private.Spans.{steps, ShortEnd, LongEnd}
use Rattle.irs_periods.proofs.WayLemmas.{short_end, long_whole, long_nearer, within_nearer, steps_none}
use Rattle.irs_periods.proofs.nearest.long_end.Goals as goal

differ : (a b : ℤ) → false ≡ int_eq a b → a ≡ b → ⊥
differ a b h e = grind (arith, signed_arith)

pub day_within-requires-else-n-eq0-clause-within : goal.day_within-requires-else-n-eq0-clause-within
day_within-requires-else-n-eq0-clause-within g c =
    let grid = c.args.grid.now in
    within_nearer (g.G.Grid.at grid) (g.met.G.Grid.rises grid) c.args.way c.farthest-n.result c.args.bound
    c.farthest-n.ensures.within

pub returns-then-n-eq0 : goal.returns-then-n-eq0
returns-then-n-eq0 g c =
    let grid = c.args.grid.now in
    let laws = g.met.G.Grid in
    let f : ℤ → ℤ = g.G.Grid.at grid in
    let on = g.G.Grid.on grid in
    let way = c.args.way in
    let n = c.farthest-n.result in
    let none : n ≡ 0 = c.if-n-eq0.true in
    let at_anchor : f (steps way n) ≡ c.args.anchor =
    ap (λ (m : _). f (steps way m)) none ∙ ap f (steps_none way) ∙ c.requires.anchored in
    let is = short_end f (laws.rises grid) on (laws.nth_is_on grid)
    (laws.misses_none grid) way n c.args.bound c.farthest-n.ensures.within c.farthest-n.ensures.last in
    let apart = differ c.day_within.result c.args.bound c.if-eq.ensures in
    long_whole f (laws.rises grid) on (laws.nth_is_on grid) (laws.misses_none grid) way c.args.anchor c.args.bound
    (subst (λ (z : ℤ). ShortEnd way on c.args.bound z) at_anchor is)
    (λ e. apart (c.day_within.ensures ∙ at_anchor ∙ e))

pub returns-else-n-eq0 : goal.returns-else-n-eq0
returns-else-n-eq0 g c =
    let grid = c.args.grid.now in
    let laws = g.met.G.Grid in
    let f : ℤ → ℤ = g.G.Grid.at grid in
    let on = g.G.Grid.on grid in
    let way = c.args.way in
    let n = c.farthest-n.result in
    let some : 0 < n = omega (arith, c.if-n-eq0.false) in
    let is = short_end f (laws.rises grid) on (laws.nth_is_on grid)
    (laws.misses_none grid) way n c.args.bound c.farthest-n.ensures.within c.farthest-n.ensures.last in
    let apart = differ c.day_within.result c.args.bound c.if-eq.ensures in
    subst (λ (z : ℤ). LongEnd way on c.args.anchor c.args.bound z) (sym c.day_within-else-n-eq0.ensures)
    (long_nearer f (laws.rises grid) on (laws.nth_is_on grid)
    (laws.misses_none grid) way n c.args.anchor c.args.bound c.requires.anchored some is
    (λ e. apart (c.day_within.ensures ∙ e)))
