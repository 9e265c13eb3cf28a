use Rattle.std.proofs.Common.{rules, ◌≡◌, ◌+◌, ℕ, ℤ, pos, ap, ◌∙◌, arith, subst, FitsSigned}
use Rattle.std.specs.Int.{w32}
use Rattle.std.proofs.lemmas.Int.{to_z-of_z}
use Rattle.jiff_core.specs.Calendar.{day_of_year}
use Rattle.irs_base.specs.Days.{HasDate, year_part}
use Rattle.irs_base.proofs.DateWalks.{year_place}
use Rattle.irs_daycount.specs.Private.FractionLaws.{place_at}
use Rattle.irs_daycount.proofs.Starts.{place_in_year}
use Rattle.irs_daycount.proofs.actual.place.Goals as goal

pub returns-clause-value : goal.returns-clause-value
returns-clause-value c =
    let d = c.args.d in
    let date = c.civil_of-date.result in
    let days = c.days_into_year.result in
    let y = (year_part d).0 in
    let fits : FitsSigned w32 date.year = search rules in
    let e : date.year ≡ pos y = c.civil_of-date.ensures.exact.0 in
    let h : HasDate d (pos y) date.month date.day =
    subst (λ (z : ℤ). HasDate d z date.month date.day) e c.civil_of-date.ensures.date in
    let v : days + 1 ≡ day_of_year (pos y) date.month date.day =
    c.days_into_year.ensures.value ∙ ap (λ (z : ℤ). day_of_year z date.month date.day) e in
    let o = place_in_year d y (year_part d).1 date.month date.day (year_place d c.civil_of-date.ensures.day) h in
    let same : days ≡ (year_part d).1 = omega (arith, v, o) in
    let at : c.place_at.result ≡ place_at y days = rw e at (simp to_z-of_z at c.place_at.ensures.value) in
    at ∙ ap (λ (n : ℕ). place_at y n) same
