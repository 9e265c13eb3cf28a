use Rattle.std.proofs.Common.{arith, subst, ℤ, ◌≤◌}
use Rattle.std.specs.Prelude.{unsigned_abs}
use Rattle.std.proofs.lemmas.Int.{ints}
use Rattle.jiff_core.proofs.SignedLemmas.{signed_arith}
use Rattle.irs_base.specs.Limits.{most_rate}
use Rattle.irs_base.proofs.DecimalLemmas.{one_decimal}
use Rattle.irs_resets.proofs.fixing_line.rate.Goals as goal
use Rattle.irs_resets.proofs.fixing_line.rate.Goals.{then-units-most-via-then-units-most}
use Rattle.irs_resets.proofs.fixing_line.rate.Goals.{then-units-most-via-else-units-most+then-units-most-2}

pub returns-then-units-most-clause-none : goal.returns-then-units-most-clause-none
returns-then-units-most-clause-none c = λ v r.
    let same = one_decimal c.args.text.now 9 v c.in_ok-units.units r.decimal c.in_ok-units.ensures.some in
    let small = subst (λ (z : ℤ). unsigned_abs z ≤ most_rate) same r.small in
    elim c.then-units-most.branch [
      | then-units-most-via-then-units-most w ↦
          omega (arith, ints, signed_arith, small, c.from-most.ensures, w.if-units-most.true)
      | then-units-most-via-else-units-most+then-units-most-2 w ↦
          omega (arith, ints, signed_arith, small, c.from-most.ensures, w.if-units-most-2.true)
    ]
