use Rattle.std.proofs.Common.{arith, ◌≡◌, ℤ, ap, subst, sym, ◌∙◌, to_z, of_z, w16, w32}
use Rattle.jiff_core.specs.Calendar.{days_in_month}
use Rattle.jiff_core.proofs.SignedLemmas.{signed_arith}
use Rattle.irs_base.specs.Days.{month_index_of, InMonth, dim}
use Rattle.irs_base.proofs.MonthLemmas.{date_in_month, same_month}
use Rattle.irs_adjust.proofs.months.is_in_month_of.Goals as goal

pub returns : goal.returns
returns c =
    let a = c.args.a in
    let b = c.args.b in
    let date = c.civil_of-date.result in
    let told = c.civil_of-date.ensures in
    let m = month_index_of date.year date.month in
    let at = date_in_month a date.year date.month date.day told.day told.date in
    let year : to_z w16 (of_z w16 (to_z w32 (of_z w32 date.year))) ≡ date.year =
    omega (arith, signed_arith, told.range) in
    let length : c.days_in_month.result ≡ dim m =
    c.days_in_month.ensures.value ∙ ap (λ (z : ℤ). days_in_month z date.month) year ∙ sym at.length in
    let is = c.is_place.ensures in (
      λ t.
          let within = is.0 t in
          record {
            month = m;
            of_first = at.in_month;
            of_second = record {
              from = omega (
                arith,
                signed_arith,
                within,
                at.place,
                length,
                c.from.ensures,
                c.number.ensures,
                c.number-2.ensures,
              );
              to = omega (
                arith,
                signed_arith,
                within,
                at.place,
                length,
                c.from.ensures,
                c.number.ensures,
                c.number-2.ensures,
              );
            };
          },
      λ h.
          let here : InMonth b m =
          subst (InMonth b) (same_month a h.month m h.of_first at.in_month) h.of_second in
          is.1 (
            omega (arith, signed_arith, here.from, at.place, c.from.ensures, c.number.ensures, c.number-2.ensures),
            omega (arith, signed_arith, here.to, at.place, length, c.from.ensures, c.number.ensures, c.number-2.ensures),
          ),
    )
