use Rattle.irs_periods.proofs.WayLemmas.{within_is_day}
use Rattle.irs_periods.proofs.nearest.is_within.Goals as goal

pub returns-in_default : goal.returns-in_default
returns-in_default g c =
    let grid = c.args.grid.now in (
      λ t. cc,
      λ h. absurd (c.in_default.ensures
          (within_is_day (g.G.Grid.at grid) (g.met.G.Grid.rises grid) c.args.way c.args.n c.args.bound c.requires.anchor
          c.requires.bound h)),
    )
