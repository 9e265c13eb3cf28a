use Rattle.std.proofs.Common.{ap, arith, length, length-append, FitsSigned}
use Rattle.std.specs.Int.{w64}
use Rattle.std.proofs.lemmas.Int.{to_z-of_z}
use Rattle.irs_base.proofs.TextLengths.{small_abs_64, length_signed}
use Rattle.irs_base.proofs.line.Line.put_signed.Goals as goal

pub push_signed_number-requires : goal.push_signed_number-requires
push_signed_number-requires c =
    let f : FitsSigned w64 c.args.n = c.ranges.n in
    simp to_z-of_z (omega (
      arith,
      c.requires,
      length_signed c.args.n (small_abs_64 c.args.n f),
      simp length-append at (ap length c.push.ensures),
    ))

pub returns-clause-grows : goal.returns-clause-grows
returns-clause-grows c =
    let f : FitsSigned w64 c.args.n = c.ranges.n in
    omega (
      arith,
      length_signed c.args.n (small_abs_64 c.args.n f),
      simp length-append at (ap length c.push.ensures),
      simp (to_z-of_z, length-append) at (ap length c.push_signed_number.ensures),
    )
