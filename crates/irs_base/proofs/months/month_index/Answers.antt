use Rattle.std.proofs.Common.{arith, ◌≡◌, ℤ, pos, ◌+ℤ◌, ◌-ℤ◌, ◌*ℤ◌, subst, w32, to_z, of_z}
use Rattle.jiff_core.proofs.SignedLemmas.{signed_arith}
use Rattle.irs_base.specs.Days.{InMonth, month_index_of}
use Rattle.irs_base.proofs.MonthLemmas.{date_in_month}
use Rattle.irs_base.proofs.months.month_index.Goals as goal

pub returns-clause-month : goal.returns-clause-month
returns-clause-month c =
    let y = c.civil_of-c.result.year in
    let m = c.civil_of-c.result.month in
    let e : month_index_of y m
    ≡ to_z w32 (of_z w32
    (to_z w32 (of_z w32 (to_z w32 (of_z w32 (pos 12 *ℤ to_z w32 (of_z w32 y)))
    +ℤ to_z w32 (of_z w32 c.from.result))) -ℤ pos 1)) =
    omega (arith, signed_arith, c.from.ensures, c.civil_of-c.ensures.date.0, c.civil_of-c.ensures.range) in
    subst (λ (z : ℤ). InMonth c.args.d z) e
    (date_in_month c.args.d y m c.civil_of-c.result.day c.civil_of-c.ensures.day c.civil_of-c.ensures.date).in_month

pub returns-clause-range : goal.returns-clause-range
returns-clause-range c =
    omega (arith, signed_arith, c.from.ensures, c.civil_of-c.ensures.date.0, c.civil_of-c.ensures.range)
