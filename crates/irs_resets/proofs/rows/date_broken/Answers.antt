use Rattle.irs_resets.specs.Resets.{ResetDays, reset_days_by}
use Rattle.irs_resets.proofs.FirstResets.{first_fixing, first_range, dates_unbroken}
use Rattle.irs_resets.proofs.rows.date_broken.Goals as goal

pub returns-in-Some-without_fixing : goal.returns-in-Some-without_fixing
returns-in-Some-without_fixing g c =
    let days : ResetDays =
    reset_days_by c.args.adjusted.now (g.G.GoodDays.days c.args.reset_days.now)
    (g.G.GoodDays.days c.args.fixing_days.now) in
    rw c.broken_by-in-Some-without_fixing.ensures
    (first_fixing c.args.terms.now days c.in-Some-without_fixing.i c.in_default.ensures
    c.in-Some-without_fixing.ensures)

pub returns-in-Some-out_of_range : goal.returns-in-Some-out_of_range
returns-in-Some-out_of_range g c =
    let days : ResetDays =
    reset_days_by c.args.adjusted.now (g.G.GoodDays.days c.args.reset_days.now)
    (g.G.GoodDays.days c.args.fixing_days.now) in
    rw c.broken_by-in-Some-out_of_range.ensures
    (first_range c.args.terms.now days c.in-Some-out_of_range.i c.in_default.ensures
    c.in_default-without_fixing.ensures c.in-Some-out_of_range.ensures)

pub returns : goal.returns
returns g c =
    let days : ResetDays =
    reset_days_by c.args.adjusted.now (g.G.GoodDays.days c.args.reset_days.now)
    (g.G.GoodDays.days c.args.fixing_days.now) in
    dates_unbroken c.args.terms.now days c.in_default.ensures c.in_default-without_fixing.ensures
    c.in_default-out_of_range.ensures
