use Rattle.std.proofs.Common.{rules, ◌≡◌, ℤ, pos, ◌+ℤ◌, SomeIff, FitsSigned, to_z, of_z, subst, arith}
use Rattle.std.specs.Int.{w32, w64}
use Rattle.std.proofs.lemmas.Int.{to_z-of_z}
use Rattle.jiff_core.proofs.SignedLemmas.{signed_arith}
use Rattle.irs_base.specs.Days.{IsDay, day_in_month}
use Rattle.irs_average.proofs.TenorLemmas.{months_end, months_none, months_some}
use Rattle.irs_average.proofs.tenor_ends.months_after.Goals as goal

pub returns-clause-some : goal.returns-clause-some
returns-clause-some c =
    let fits : FitsSigned w32 c.month_index.result = search rules in
    let fits_month : FitsSigned w64 c.from-month.result = search rules in
    let fits_months : FitsSigned w64 c.from.result = search rules in
    let month : c.from-month.result ≡ c.month_index.result = simp to_z-of_z at c.from-month.ensures in
    let months : c.from.result ≡ pos c.args.months = c.from.ensures in
    let sum : to_z w64 (of_z w64 (to_z w64 (of_z w64 c.from-month.result) +ℤ to_z w64 (of_z w64 c.from.result)))
    ≡ c.month_index.result +ℤ pos c.args.months =
    omega (arith, signed_arith, month, months, c.month_index.ensures.range) in
    let x : ℤ = day_in_month c.civil_of.result.day (c.month_index.result +ℤ pos c.args.months) in
    let found : SomeIff c.month_day.result (IsDay x) x =
    subst (λ (m : ℤ). SomeIff c.month_day.result (IsDay (day_in_month c.civil_of.result.day m))
    (day_in_month c.civil_of.result.day m)) sum c.month_day.ensures in
    months_some c.args.start c.args.months c.month_day.result x found
    (months_end c.args.start c.month_index.result c.civil_of.result c.args.months c.civil_of.ensures.day
    c.month_index.ensures.month c.civil_of.ensures.date)

pub returns-clause-none : goal.returns-clause-none
returns-clause-none c =
    let fits : FitsSigned w32 c.month_index.result = search rules in
    let fits_month : FitsSigned w64 c.from-month.result = search rules in
    let fits_months : FitsSigned w64 c.from.result = search rules in
    let month : c.from-month.result ≡ c.month_index.result = simp to_z-of_z at c.from-month.ensures in
    let months : c.from.result ≡ pos c.args.months = c.from.ensures in
    let sum : to_z w64 (of_z w64 (to_z w64 (of_z w64 c.from-month.result) +ℤ to_z w64 (of_z w64 c.from.result)))
    ≡ c.month_index.result +ℤ pos c.args.months =
    omega (arith, signed_arith, month, months, c.month_index.ensures.range) in
    let x : ℤ = day_in_month c.civil_of.result.day (c.month_index.result +ℤ pos c.args.months) in
    let found : SomeIff c.month_day.result (IsDay x) x =
    subst (λ (m : ℤ). SomeIff c.month_day.result (IsDay (day_in_month c.civil_of.result.day m))
    (day_in_month c.civil_of.result.day m)) sum c.month_day.ensures in
    months_none c.args.start c.args.months c.month_day.result x found
    (months_end c.args.start c.month_index.result c.civil_of.result c.args.months c.civil_of.ensures.day
    c.month_index.ensures.month c.civil_of.ensures.date)
