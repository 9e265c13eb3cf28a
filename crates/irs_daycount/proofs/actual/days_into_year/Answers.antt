use Rattle.std.proofs.Common.{◌≡◌, ◌-◌, arith, FitsSigned}
use Rattle.std.specs.Int.{w16, w32}
use Rattle.std.proofs.lemmas.Int.{to_z-of_z}
use Rattle.jiff_core.specs.Calendar.{days_of_months}
use Rattle.jiff_core.proofs.SignedLemmas.{signed_arith}
use Rattle.jiff_core.proofs.CalendarLemmas.{day_of_year_bound, days_in_year_bounds}
use Rattle.irs_daycount.proofs.actual.days_into_year.Goals as goal

pub returns-clause-range : goal.returns-clause-range
returns-clause-range c =
    let date = c.args.date in
    let field : FitsSigned w32 date.year = omega (arith, signed_arith, c.requires.0) in
    let fits : FitsSigned w16 date.year = omega (arith, signed_arith, c.requires.0) in
    let before : c.days_before_month.result ≡ days_of_months date.year (date.month - 1) =
    simp to_z-of_z at c.days_before_month.ensures.value in
    let bound = day_of_year_bound date.year date.month date.day c.requires in
    omega (arith, before, bound, days_in_year_bounds date.year, c.from.ensures)
