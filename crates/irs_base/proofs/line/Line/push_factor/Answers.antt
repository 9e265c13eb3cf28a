use Rattle.std.proofs.Common.{rules, arith, ap, length, length-append, FitsSigned, to_z, of_z}
use Rattle.std.specs.Int.{w128}
use Rattle.irs_base.proofs.TextLengths.{length_dec, small_abs}
use Rattle.irs_base.proofs.line.Line.push_factor.Goals as goal

pub push_signed-requires-clause-fits : goal.push_signed-requires-clause-fits
push_signed-requires-clause-fits c =
    let z = to_z w128 (of_z w128 c.args.units) in
    let f : FitsSigned w128 z = search rules in
    let room = c.requires in
    omega (arith, room, length_dec z 18 (small_abs z f))

pub returns-clause-grows : goal.returns-clause-grows
returns-clause-grows c =
    let z = to_z w128 (of_z w128 c.args.units) in
    let f : FitsSigned w128 z = search rules in
    let l = simp length-append at (ap length c.push_signed.ensures) in
    omega (arith, l, length_dec z 18 (small_abs z f))
