use Rattle.irs_periods.proofs.WayLemmas.{within_is_day}
use Rattle.irs_periods.proofs.nearest.day_within.Goals as goal

pub unreachable-requires : goal.unreachable-requires
unreachable-requires g c =
    let grid = c.args.grid.now in
    c.in-None.ensures {u =
    tt} (within_is_day (g.G.Grid.at grid) (g.met.G.Grid.rises grid) c.args.way c.args.n c.args.bound
    c.requires.anchor c.requires.bound c.requires.within)
