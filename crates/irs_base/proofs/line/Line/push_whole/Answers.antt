use Rattle.std.proofs.Common.{ap, arith, length, length-append, FitsSigned}
use Rattle.std.specs.Int.{w64, w128}
use Rattle.std.proofs.lemmas.Int.{to_z-of_z}
use Rattle.irs_base.proofs.TextLengths.{small_abs, length_signed}
use Rattle.irs_base.proofs.line.Line.push_whole.Goals as goal

pub returns-in-Ok-clause-grows : goal.returns-in-Ok-clause-grows
returns-in-Ok-clause-grows c =
    let f : FitsSigned w128 c.args.n = c.ranges.n in
    let few = simp to_z-of_z at c.in-Ok.ensures in
    let g : FitsSigned w64 c.args.n = few.0 in
    omega (
      arith,
      length_signed c.args.n (small_abs c.args.n f),
      simp (few.1, to_z-of_z, length-append) at (ap length c.push_signed_number.ensures),
    )

pub returns-in-Err-clause-grows : goal.returns-in-Err-clause-grows
returns-in-Err-clause-grows c =
    let f : FitsSigned w128 c.args.n = c.ranges.n in
    omega (
      arith,
      length_signed c.args.n (small_abs c.args.n f),
      simp (to_z-of_z, length-append) at (ap length c.push_wide_number.ensures),
    )
