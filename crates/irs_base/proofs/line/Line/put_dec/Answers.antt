use Rattle.std.proofs.Common.{◌<◌, ◌^◌, ap, arith, length, length-append, FitsSigned, unsigned_abs, rules}
use Rattle.std.specs.Int.{w128}
use Rattle.irs_base.proofs.TextLengths.{small_abs, length_dec}
use Rattle.irs_base.proofs.line.Line.put_dec.Goals as goal

pub push_dec-requires-clause-fits : goal.push_dec-requires-clause-fits
push_dec-requires-clause-fits c =
    let f : FitsSigned w128 c.args.v.units = search rules in
    let small : unsigned_abs c.args.v.units < 2 ^ 128 = small_abs _ f in
    omega (
      arith,
      c.requires,
      length_dec c.args.v.units c.args.v.places small,
      simp length-append at (ap length c.push.ensures),
    )

pub returns-clause-grows : goal.returns-clause-grows
returns-clause-grows c =
    let f : FitsSigned w128 c.args.v.units = search rules in
    let small : unsigned_abs c.args.v.units < 2 ^ 128 = small_abs _ f in
    omega (
      arith,
      c.requires,
      length_dec c.args.v.units c.args.v.places small,
      simp length-append at (ap length c.push.ensures),
      simp length-append at (ap length c.push_dec.ensures.text),
    )
