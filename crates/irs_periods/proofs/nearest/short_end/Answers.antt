use Rattle.std.proofs.Common.{ℤ, sym, subst}
use Rattle.irs_periods.specs.Private.Spans.{ShortEnd}
use Rattle.irs_periods.proofs.WayLemmas.{short_end}
use Rattle.irs_periods.proofs.nearest.short_end.Goals as goal

pub returns : goal.returns
returns g c =
    let grid = c.args.grid.now in
    let laws = g.met.G.Grid in
    let on = g.G.Grid.on grid in
    subst (λ (z : ℤ). ShortEnd c.args.way on c.args.bound z) (sym c.day_within.ensures)
    (short_end (g.G.Grid.at grid) (laws.rises grid) on (laws.nth_is_on grid)
    (laws.misses_none grid) c.args.way c.farthest.result c.args.bound c.farthest.ensures.within
    c.farthest.ensures.last)
