use Rattle.std.proofs.Common.{arith, ◌≡◌, ℤ, pos, FitsSigned, w32, to_z, to_z-of_z, sym, ap, ◌∙◌, subst, true, int_eq}
use Rattle.jiff_core.proofs.SignedLemmas.{signed_arith, nat_eq-bits}
use Rattle.irs_base.specs.Days.{IsDay, month_index_of, year_of, month_of, day_of_month}
use Rattle.irs_base.proofs.DateWalks.{date_of_day}
use Rattle.irs_base.proofs.MonthLemmas.{date_in_month}
use Rattle.irs_adjust.specs.MovedDays.{SameMonth}
use Rattle.irs_adjust.proofs.months.in_same_month.Goals as goal

-- a day lies in the month of itself
own_month : (d : ℤ) → IsDay d → SameMonth d d
own_month d day =
    let at = date_in_month d (pos (year_of d)) (month_of d) (day_of_month d) day (date_of_day d day) in
    record {
      month = month_index_of (pos (year_of d)) (month_of d);
      of_first = at.in_month;
      of_second = at.in_month;
    }

true_equal : (a b : ℤ) → a ≡ b → int_eq a b ≡ true
true_equal a b h = grind (arith, signed_arith)

pub returns-then-number : goal.returns-then-number
returns-then-number c =
    let m = c.number.result in
    let n = c.number-2.result in
    let first = c.number.ensures in
    let second = c.number-2.ensures in
    let fm : FitsSigned w32 m = omega (arith, signed_arith, first.value, first.range) in
    let fn : FitsSigned w32 n = omega (arith, signed_arith, second.value, second.range) in
    let same : m ≡ n = sym (to_z-of_z fm) ∙ ap (to_z w32) c.if-number.true ∙ to_z-of_z fn in (
      λ _. subst (SameMonth c.args.a) (sym first.value ∙ same ∙ second.value) (own_month c.args.a first.range),
      λ _. nat_eq-bits w32 m n fm fn ∙ true_equal m n same,
    )
