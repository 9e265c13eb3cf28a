use Rattle.std.proofs.Common.{arith, ℤ, subst}
use Rattle.jiff_core.proofs.SignedLemmas.{signed_arith}
use Rattle.irs_base.specs.Days.{InMonth}
use Rattle.irs_roll.proofs.anchor.Anchor.months_to.Goals as goal

pub returns-clause-months : goal.returns-clause-months
returns-clause-months c =
    let inside = c.self.inside in record {
      start = inside.month;
      of_anchor = subst (λ (z : ℤ). InMonth z inside.month) c.self.view_is c.self.invariant.0;
      is = omega (arith, signed_arith, c.from.ensures, c.from-2.ensures, c.self.invariant.1, c.requires);
    }
