use Rattle.std.proofs.Common.{◌∷◌, ◌++◌, Option, subst, sym}
use Rattle.irs_base.specs.Outcomes.{First}
use Rattle.irs_terms.specs.Faults.{comes_before}
use Rattle.irs_payments.specs.Exchanges.{BreaksExchanges}
use Rattle.irs_payments.specs.Private.Dating.{ListsUpTo, listed_transfer}
use Rattle.irs_payments.specs.declared.exchanges.Transfer.{Transfer}
use Rattle.irs_payments.proofs.ListedExchanges.{one_lacks, one_listed}
use Rattle.irs_payments.proofs.exchanges.add.Goals as goal

pub returns-in-Some-exchange : goal.returns-in-Some-exchange
returns-in-Some-exchange g c =
    λ left h.
    let s = c.args.s.now in
    let set = g.G.GoodDays.days c.args.days.now in
    let t = c.in-Some.transfer in
    let next : ListsUpTo s set (t ∷ left) c.args.listing =
    subst (λ (o : Option Transfer). ListsUpTo s set (listed_transfer o ++ left) c.args.listing) c.in-Some.is h in
    one_listed s set t left c.args.listing next c.in-Some-exchange.exchange c.push.result
    c.in-Some-exchange.ensures.some c.push.ensures

pub returns-in-None : goal.returns-in-None
returns-in-None g c =
    λ left h.
    let s = c.args.s.now in
    let set = g.G.GoodDays.days c.args.days.now in
    let t = c.in-Some.transfer in
    let next : ListsUpTo s set (t ∷ left) c.args.listing =
    subst (λ (o : Option Transfer). ListsUpTo s set (listed_transfer o ++ left) c.args.listing) c.in-Some.is h in
    subst (First comes_before (BreaksExchanges s set)) (sym c.fault.ensures)
    (one_lacks s set t left c.args.listing next c.in-None.ensures.none)
