use Rattle.std.proofs.Common.{arith, pos, ◌+ℤ◌, ◌-ℤ◌, ◌≤ℤ◌, ◌<ℤ◌, FitsSigned}
use Rattle.std.specs.Int.{w128}
use Rattle.std.proofs.lemmas.Int.{to_z-of_z, ints}
use Rattle.jiff_core.proofs.SignedLemmas.{signed_arith, unsigned_abs-parts as signed_parts}
use Rattle.irs_base.proofs.RoundingLemmas.{up_low, up_high, near_low, near_high}
use Rattle.irs_base.proofs.rounding.rounded_quotient.Goals as goal

pub returns-else-rest-gt0 : goal.returns-else-rest-gt0
returns-else-rest-gt0 c =
    let k = c.divide-below.result.0 in
    let r = c.divide-below.result.1 in
    let fp : FitsSigned w128 c.args.p = c.ranges.p in
    let fq : FitsSigned w128 c.args.q = c.ranges.q in
    let h = simp to_z-of_z at c.divide-below.ensures.sum in
    let e = simp to_z-of_z at c.divide-below.ensures.rest in
    let fr : FitsSigned w128 r = omega (arith, ints, fq, e) in
    let s = simp to_z-of_z at c.divide-below.ensures.small in
    let fk : FitsSigned w128 k = omega (arith, signed_arith, signed_parts, s, c.requires.fits) in
    let test : r ≤ℤ pos 0 = grind (arith, ints) in
    rw c.in-Up.is (simp to_z-of_z (up_low c.args.p c.args.q k r (h, e.0, e.1) test))

pub returns-then-rest-gt0 : goal.returns-then-rest-gt0
returns-then-rest-gt0 c =
    let k = c.divide-below.result.0 in
    let r = c.divide-below.result.1 in
    let fp : FitsSigned w128 c.args.p = c.ranges.p in
    let fq : FitsSigned w128 c.args.q = c.ranges.q in
    let h = simp to_z-of_z at c.divide-below.ensures.sum in
    let e = simp to_z-of_z at c.divide-below.ensures.rest in
    let fr : FitsSigned w128 r = omega (arith, ints, fq, e) in
    let s = simp to_z-of_z at c.divide-below.ensures.small in
    let fk : FitsSigned w128 k = omega (arith, signed_arith, signed_parts, s, c.requires.fits) in
    let test : pos 0 <ℤ r = grind (arith, ints) in
    let f1 : FitsSigned w128 (k +ℤ pos 1) = omega (arith, signed_arith, signed_parts, s, c.requires.fits) in
    rw c.in-Up.is (simp to_z-of_z (up_high c.args.p c.args.q k r (h, e.0, e.1) test))

pub returns-else-rest-q : goal.returns-else-rest-q
returns-else-rest-q c =
    let k = c.divide-below.result.0 in
    let r = c.divide-below.result.1 in
    let fp : FitsSigned w128 c.args.p = c.ranges.p in
    let fq : FitsSigned w128 c.args.q = c.ranges.q in
    let h = simp to_z-of_z at c.divide-below.ensures.sum in
    let e = simp to_z-of_z at c.divide-below.ensures.rest in
    let fr : FitsSigned w128 r = omega (arith, ints, fq, e) in
    let s = simp to_z-of_z at c.divide-below.ensures.small in
    let fk : FitsSigned w128 k = omega (arith, signed_arith, signed_parts, s, c.requires.fits) in
    let test : r <ℤ (c.args.q -ℤ r) = grind (arith, ints) in
    rw c.in-Nearest.is (simp to_z-of_z (near_low c.args.p c.args.q k r (h, e.0, e.1) test))

pub returns-then-rest-q : goal.returns-then-rest-q
returns-then-rest-q c =
    let k = c.divide-below.result.0 in
    let r = c.divide-below.result.1 in
    let fp : FitsSigned w128 c.args.p = c.ranges.p in
    let fq : FitsSigned w128 c.args.q = c.ranges.q in
    let h = simp to_z-of_z at c.divide-below.ensures.sum in
    let e = simp to_z-of_z at c.divide-below.ensures.rest in
    let fr : FitsSigned w128 r = omega (arith, ints, fq, e) in
    let s = simp to_z-of_z at c.divide-below.ensures.small in
    let fk : FitsSigned w128 k = omega (arith, signed_arith, signed_parts, s, c.requires.fits) in
    let test : (c.args.q -ℤ r) ≤ℤ r = grind (arith, ints) in
    let f1 : FitsSigned w128 (k +ℤ pos 1) = omega (arith, signed_arith, signed_parts, s, c.requires.fits) in
    rw c.in-Nearest.is (simp to_z-of_z (near_high c.args.p c.args.q k r (h, e.0, e.1) test))
