use Rattle.irs_payments.proofs.ListedExchanges.{all_dated, all_listed}
use Rattle.irs_payments.proofs.exchanges.principals.Goals as goal

pub returns-in-Some-clause-meets : goal.returns-in-Some-clause-meets
returns-in-Some-clause-meets g c =
    let s = c.args.s.now in
    let set = g.G.GoodDays.days c.args.days.now in (
      all_dated s set c.in-Ok.listing c.in-Ok.ensures,
      rw c.in-Some.list-is (all_listed s set c.in-Ok.listing c.in-Some.list c.in-Ok.ensures c.in-Some.is),
    )

pub returns-in-None-clause-memory : goal.returns-in-None-clause-memory
returns-in-None-clause-memory g c =
    all_dated c.args.s.now (g.G.GoodDays.days c.args.days.now) c.in-Ok.listing c.in-Ok.ensures
