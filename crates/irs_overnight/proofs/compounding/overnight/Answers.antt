use Rattle.irs_overnight.specs.Overnight.{OvernightAsked, asked}
use Rattle.irs_overnight.proofs.SourceLemmas.{one_broken, one_overnight}
use Rattle.irs_overnight.proofs.ThereLemmas.{overnight_there}
use Rattle.irs_overnight.proofs.KeptRows.{ok_three, reads_back}
use Rattle.irs_overnight.proofs.compounding.overnight.Goals as goal

pub returns-clause-fixings : goal.returns-clause-fixings
returns-clause-fixings g c =
    let a : OvernightAsked =
    asked c.args.swap.now c.args.stream c.args.s.now (g.G.GoodDays.days c.args.days.now) c.args.daily.now in
    ok_three c.numbered_rows.result _ _ _ _
    (λ rows over kept range. reads_back a c.requires c.bounds.ensures.each rows over kept range)
    c.numbered_rows.ensures.ok c.numbered_rows.ensures.kept c.numbered_rows.ensures.range

pub returns-clause-exists : goal.returns-clause-exists
returns-clause-exists g c =
    let a : OvernightAsked =
    asked c.args.swap.now c.args.stream c.args.s.now (g.G.GoodDays.days c.args.days.now) c.args.daily.now in
    overnight_there a c.requires c.bounds.ensures.each

pub returns-clause-one : goal.returns-clause-one
returns-clause-one g c =
    let a : OvernightAsked =
    asked c.args.swap.now c.args.stream c.args.s.now (g.G.GoodDays.days c.args.days.now) c.args.daily.now in
    one_overnight a c.bounds.ensures.each

pub returns-clause-one_broken : goal.returns-clause-one_broken
returns-clause-one_broken g c =
    let a : OvernightAsked =
    asked c.args.swap.now c.args.stream c.args.s.now (g.G.GoodDays.days c.args.days.now) c.args.daily.now in
    one_broken a
