use Rattle.std.proofs.Common.{◌-◌, arith}
use Rattle.std.proofs.lemmas.Int.{to_z-of_z}
use Rattle.std.proofs.lemmas.Bool.Decides.{nat_tests}
use Rattle.jiff_core.proofs.CalendarLemmas.{days_of_months_table, days_of_months_mono, days_of_months_all}
use Rattle.jiff_core.proofs.CalendarLemmas.{days_in_year_bounds}
use Rattle.irs_daycount.proofs.actual.days_before_month.Goals as goal

pub overflow_add-result : goal.overflow_add-result
overflow_add-result c =
    grind (
      arith,
      nat_tests,
      to_z-of_z,
      days_of_months_table c.args.year (c.args.month - 1) (omega (arith, c.requires)),
      days_of_months_mono c.args.year (c.args.month - 1) 12 (omega (arith, c.requires)),
      days_of_months_all c.args.year,
      days_in_year_bounds c.args.year,
    )

pub returns-clause-value : goal.returns-clause-value
returns-clause-value c =
    grind (
      arith,
      nat_tests,
      to_z-of_z,
      days_of_months_table c.args.year (c.args.month - 1) (omega (arith, c.requires)),
    )

pub returns-clause-range : goal.returns-clause-range
returns-clause-range c =
    grind (
      arith,
      nat_tests,
      to_z-of_z,
      days_of_months_table c.args.year (c.args.month - 1) (omega (arith, c.requires)),
      days_of_months_mono c.args.year (c.args.month - 1) 12 (omega (arith, c.requires)),
      days_of_months_all c.args.year,
      days_in_year_bounds c.args.year,
    )
