use Rattle.std.proofs.Common.{◌<◌, ◌^◌, ap, arith, length, length-append, FitsSigned, unsigned_abs}
use Rattle.std.specs.Int.{w128}
use Rattle.std.proofs.lemmas.Int.{to_z-of_z}
use Rattle.irs_base.proofs.TextLengths.{small_abs, length_signed}
use Rattle.irs_base.proofs.line.Line.put_whole.Goals as goal

pub push_whole-requires : goal.push_whole-requires
push_whole-requires c =
    let f : FitsSigned w128 c.args.n = c.ranges.n in
    let small : unsigned_abs c.args.n < 2 ^ 128 = small_abs _ f in
    simp to_z-of_z (omega (
      arith,
      c.requires,
      length_signed c.args.n small,
      simp length-append at (ap length c.push.ensures),
    ))

pub returns-clause-grows : goal.returns-clause-grows
returns-clause-grows c =
    let f : FitsSigned w128 c.args.n = c.ranges.n in
    let small : unsigned_abs c.args.n < 2 ^ 128 = small_abs _ f in
    omega (
      arith,
      c.requires,
      length_signed c.args.n small,
      simp length-append at (ap length c.push.ensures),
      simp (to_z-of_z, length-append) at (ap length c.push_whole.ensures.text),
    )
