use Rattle.std.proofs.Common.{arith, ◌≡◌, pos, ℕ, ◌+◌, ◌/◌, ◌%◌, ◌<◌, ◌≤◌, to_z, w16, min, ap, ap₂, sym, ◌∙◌, subst}
use Rattle.std.proofs.lemmas.Int.{to_z_pos}
use Rattle.jiff_core.proofs.SignedLemmas.{signed_arith}
use Rattle.jiff_core.specs.Calendar.{days_in_month}
use Rattle.jiff_core.specs.declared.civil.date.Date.{Date}
use Rattle.irs_base.specs.Days.{HasDate, IsDay, last_month, day_in_month}
use Rattle.irs_base.proofs.MonthLemmas.{day_in_month-is_day, day_in_month-date}
use Rattle.irs_base.proofs.months.day_of_month.Goals as goal

-- the date that is made is that of the day
has_date : (index n : ℕ) (date : Date) → date.year ≡ to_z w16 (index / 12) → date.month ≡ index % 12 + 1
    → date.day ≡ min n (days_in_month (to_z w16 (index / 12)) (index % 12 + 1)) → 0 < n → index ≤ last_month
    → HasDate (day_in_month n (pos index)) date.year date.month date.day
has_date index n date year month day some high =
    let short : to_z w16 (index / 12) ≡ pos (index / 12) = to_z_pos w16 (index / 12) (omega (arith, high)) in
    let of_month = day ∙ ap (min n) (ap₂ days_in_month (sym year) (sym month)) in
    day_in_month-date index n date.year date.month date.day (year ∙ short) month of_month some (omega (arith, high))

pub day_of_date-requires : goal.day_of_date-requires
day_of_date-requires c =
    let e = c.constrain-date.ensures in
    let date = has_date c.args.index c.args.n c.constrain-date.result e.year e.month e.day c.requires.number
    c.requires.high in
    subst IsDay date.1
    (day_in_month-is_day c.args.n (pos c.args.index) c.requires.number (omega (arith, signed_arith))
    (omega (arith, signed_arith)))

pub returns : goal.returns
returns c =
    let e = c.constrain-date.ensures in
    let date = has_date c.args.index c.args.n c.constrain-date.result e.year e.month e.day c.requires.number
    c.requires.high in
    c.day_of_date.ensures ∙ sym date.1
