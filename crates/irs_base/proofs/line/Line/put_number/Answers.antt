use Rattle.std.proofs.Common.{ap, arith, length, length-append}
use Rattle.irs_base.proofs.line.Line.put_number.Goals as goal

pub push_number-requires : goal.push_number-requires
push_number-requires c = omega (arith, c.requires, simp length-append at (ap length c.push.ensures))
