use Rattle.irs_resets.specs.Resets.{ResetSource, source_of}
use Rattle.irs_resets.proofs.FirstResets.{first_of_dates, first_in}
use Rattle.irs_resets.proofs.rows.first_fault.Goals as goal

pub returns : goal.returns
returns g c =
    let source : ResetSource =
    source_of c.args.s.now c.args.span.now c.args.adjusted.now (g.G.GoodDays.days c.args.reset_days.now)
    (g.G.GoodDays.days c.args.fixing_days.now) in
    first_of_dates source c.date_broken.result c.in_default.ensures
    (first_in c.args.terms.now c.args.s.now.reset source.days c.date_broken.result c.requires.reset
    c.date_broken.ensures)
