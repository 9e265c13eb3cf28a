use Rattle.std.proofs.Common.{arith, ℤ, sym, subst}
use Rattle.irs_base.specs.Days.{all_days}
use Rattle.irs_periods.specs.Private.Spans.{Within}
use Rattle.irs_periods.proofs.WayLemmas.{steps_none, too_many_steps}
use Rattle.irs_periods.proofs.nearest.farthest.Goals as goal

pub loop-high-init : goal.loop-high-init
loop-high-init g c =
    let grid = c.args.grid.now in
    let f : ℤ → ℤ = g.G.Grid.at grid in
    record {
      order = omega arith;
      top = omega arith;
      here = subst (λ (z : ℤ). Within c.args.way c.args.bound (f z)) (sym (steps_none c.args.way)) c.requires.begins;
      past = λ h. too_many_steps f (g.met.G.Grid.rises grid) c.args.way all_days c.args.bound
          (omega arith) c.requires.anchor c.requires.bound h;
    }
