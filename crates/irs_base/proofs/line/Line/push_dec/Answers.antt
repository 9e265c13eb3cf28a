use Rattle.std.proofs.Common.{rules, arith, ap, length, length-append, FitsSigned}
use Rattle.std.specs.Int.{w128}
use Rattle.irs_base.proofs.TextLengths.{length_dec, small_abs}
use Rattle.irs_base.proofs.line.Line.push_dec.Goals as goal

pub returns-clause-grows : goal.returns-clause-grows
returns-clause-grows c =
    let f : FitsSigned w128 c.args.v.units = search rules in
    let l = simp length-append at (ap length c.push_signed.ensures) in
    omega (arith, l, length_dec c.args.v.units c.args.v.places (small_abs c.args.v.units f))
