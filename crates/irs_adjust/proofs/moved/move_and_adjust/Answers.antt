use Rattle.std.proofs.Common.{◌≡◌, ◌∙◌, sym}
use Rattle.irs_adjust.specs.declared.moved.NoDate.TheVariants.{OutOfRange}
use Rattle.irs_adjust.proofs.MoveLaws.{either_fails, leaves_by, one_date}
use Rattle.irs_adjust.proofs.moved.move_and_adjust.Goals as goal

pub returns-in_default-clause-leaves : goal.returns-in_default-clause-leaves
returns-in_default-clause-leaves g c = λ e.
    let same : c.no_move.result ≡ OutOfRange = cc in
    let none = c.in_default.ensures.none in (
      leaves_by c.args.offset c.args.code (g.G.GoodDays.days c.args.days.now) c.args.start c.requires none
          (sym c.no_move.ensures ∙ same),
      none,
    )

pub returns-in_default-clause-one : goal.returns-in_default-clause-one
returns-in_default-clause-one g c = one_date c.args.offset c.args.code (g.G.GoodDays.days c.args.days.now) c.args.start

pub returns-in_default-clause-either : goal.returns-in_default-clause-either
returns-in_default-clause-either g c =
    either_fails c.args.offset c.args.code (g.G.GoodDays.days c.args.days.now) c.args.start

pub returns-in-Some-adjust_by-clause-one : goal.returns-in-Some-adjust_by-clause-one
returns-in-Some-adjust_by-clause-one g c =
    one_date c.args.offset c.args.code (g.G.GoodDays.days c.args.days.now) c.args.start

pub returns-in-Some-adjust_by-clause-either : goal.returns-in-Some-adjust_by-clause-either
returns-in-Some-adjust_by-clause-either g c =
    either_fails c.args.offset c.args.code (g.G.GoodDays.days c.args.days.now) c.args.start

pub returns-in-None-clause-one : goal.returns-in-None-clause-one
returns-in-None-clause-one g c = one_date c.args.offset c.args.code (g.G.GoodDays.days c.args.days.now) c.args.start

pub returns-in-None-clause-either : goal.returns-in-None-clause-either
returns-in-None-clause-either g c =
    either_fails c.args.offset c.args.code (g.G.GoodDays.days c.args.days.now) c.args.start
