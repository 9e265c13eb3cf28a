use Rattle.std.proofs.Common.{arith, ap, length, length-append}
use Rattle.irs_base.proofs.TextLengths.{length_day}
use Rattle.irs_base.proofs.line.Line.put_day.Goals as goal

pub returns-clause-grows : goal.returns-clause-grows
returns-clause-grows c =
    omega (
      arith,
      length_day c.args.d,
      simp length-append at (ap length c.push.ensures),
      simp length-append at (ap length c.push_day.ensures.text),
    )
