use Rattle.std.proofs.Common.{arith, length, ◌-◌}
use Rattle.irs_base.proofs.LineLemmas.{cr_goes, cr_stays, empty_stays}
use Rattle.irs_base.proofs.lines.before_return.Goals as goal
use Rattle.irs_base.proofs.lines.before_return.Goals.{else-n-gt0-via-then-n-gt0+else-line-n-eq13}
use Rattle.irs_base.proofs.lines.before_return.Goals.{else-n-gt0-via-else-n-gt0}

pub returns-then-line-n-eq13 : goal.returns-then-line-n-eq13
returns-then-line-n-eq13 c = cr_goes c.args.line.now (length c.args.line.now - 1) (omega arith) c.if-line-n-eq13.true

pub returns-else-n-gt0 : goal.returns-else-n-gt0
returns-else-n-gt0 c = elim c.else-n-gt0.branch [
  | else-n-gt0-via-then-n-gt0+else-line-n-eq13 w ↦
      cr_stays c.args.line.now (length c.args.line.now - 1) (omega (arith, w.if-n-gt0.true)) w.if-line-n-eq13.false
  | else-n-gt0-via-else-n-gt0 w ↦ empty_stays c.args.line.now w.if-n-gt0.false
]
