use Rattle.std.proofs.Common.{arith, ap, ◌∙◌}
use Rattle.jiff_core.proofs.SignedLemmas.{signed_arith}
use Rattle.irs_base.specs.Days.{day_in_month}
use Rattle.irs_base.proofs.MonthLemmas.{day_in_month-is_day, day_in_month_range, cast_of}
use Rattle.irs_base.proofs.months.month_day.Goals as goal

pub returns-then-m-lt-FIRST_MONTH : goal.returns-then-m-lt-FIRST_MONTH
returns-then-m-lt-FIRST_MONTH c = λ r. omega (arith, signed_arith, day_in_month_range c.args.n c.args.m c.requires r)

pub returns : goal.returns
returns c =
    let e = cast_of c.args.m c.ranges.m (omega (arith, signed_arith)) in
    let is = c.day_of_month.ensures ∙ ap (day_in_month c.args.n) e in
    (day_in_month-is_day c.args.n c.args.m c.requires (omega (arith, signed_arith)) (omega (arith, signed_arith)), is)
