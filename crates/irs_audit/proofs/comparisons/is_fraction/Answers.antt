use Rattle.std.proofs.Common.{rules, arith, ◌≡◌, ◌^◌, ◌*ℤ◌, pos, FitsSigned}
use Rattle.std.specs.Int.{w64, w128}
use Rattle.std.proofs.lemmas.Int.{to_z-of_z}
use Rattle.irs_audit.proofs.ValueLemmas.{exact_fraction, near_fraction, same_bits}
use Rattle.irs_audit.proofs.comparisons.is_fraction.Goals as goal

pub returns-then-stated-lt-LEAST_ROUNDED : goal.returns-then-stated-lt-LEAST_ROUNDED
returns-then-stated-lt-LEAST_ROUNDED c =
    let fu : FitsSigned w128 c.args.stated.units = search rules in
    let fn : FitsSigned w64 c.args.frac.num = search rules in
    let fd : FitsSigned w64 c.args.frac.den = search rules in
    let fa : FitsSigned w128 c.from-den.result = search rules in
    let fb : FitsSigned w128 c.scaled-num.result = search rules in
    let d : c.from-den.result ≡ c.args.frac.den = simp to_z-of_z at c.from-den.ensures in
    let n : c.scaled-num.result ≡ (c.args.frac.num *ℤ pos (10 ^ c.args.stated.places)) =
    simp to_z-of_z at c.scaled-num.ensures.value in
    exact_fraction c.args.frac c.args.stated c.is_multiple.result c.if-stated-lt-LEAST_ROUNDED.true
    (rw (← d, ← n) (simp to_z-of_z at c.is_multiple.ensures))

pub returns-else-stated-lt-LEAST_ROUNDED : goal.returns-else-stated-lt-LEAST_ROUNDED
returns-else-stated-lt-LEAST_ROUNDED c =
    let fu : FitsSigned w128 c.args.stated.units = search rules in
    let fn : FitsSigned w64 c.args.frac.num = search rules in
    let fd : FitsSigned w64 c.args.frac.den = search rules in
    let fa : FitsSigned w128 c.from-den.result = search rules in
    let fb : FitsSigned w128 c.scaled-num.result = search rules in
    let fr : FitsSigned w128 c.round.result = search rules in
    let d : c.from-den.result ≡ c.args.frac.den = simp to_z-of_z at c.from-den.ensures in
    let n : c.scaled-num.result ≡ (c.args.frac.num *ℤ pos (10 ^ c.args.stated.places)) =
    simp to_z-of_z at c.scaled-num.ensures.value in
    let is = simp to_z-of_z at c.round.ensures.relation in
    near_fraction c.args.frac c.args.stated c.round.result _ c.if-stated-lt-LEAST_ROUNDED.false
    (omega arith) c.requires.denominator.0 (rw (← d, ← n) is)
    (same_bits w128 c.round.result c.args.stated.units fr fu)
