use Rattle.std.proofs.Common.{pos, ◌+ℤ◌, ◌-ℤ◌}
use Rattle.irs_adjust.proofs.ways.step.Goals as goal

pub returns-in_err-plus-in-Ahead-clause-none : goal.returns-in_err-plus-in-Ahead-clause-none
returns-in_err-plus-in-Ahead-clause-none g c =
    let out = c.in_err-plus-in-Ahead.ensures in
    rw (c.from_residual.ensures, c.in-Ahead.is) (λ r next. out (c.requires (c.args.d +ℤ pos 1) next.starts))

pub returns-in_err-plus-in-Back-clause-none : goal.returns-in_err-plus-in-Back-clause-none
returns-in_err-plus-in-Back-clause-none g c =
    let out = c.in_err-plus-in-Back.ensures in
    rw (
      c.from_residual-in_err-plus-in-Back.ensures,
      c.in-Back.is,
    ) (λ r prev. out (c.requires (c.args.d -ℤ pos 1) prev.starts))
