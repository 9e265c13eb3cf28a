use Rattle.std.proofs.Common.{◌++◌, []}
use Rattle.irs_payments.specs.Exchanges.{final_of, intermediate_of}
use Rattle.irs_payments.proofs.ListedExchanges.{few_listed, last_left, none_listed, small_next}
use Rattle.irs_payments.proofs.exchanges.list_all.Goals as goal

pub add_steps-requires-clause-listing : goal.add_steps-requires-clause-listing
add_steps-requires-clause-listing g c =
    let s = c.args.s.now in
    let set = g.G.GoodDays.days c.args.days.now in
    (c.in_ok-first.ensures {u = tt}) (intermediate_of s ++ final_of s)
    (rw c.initial.ensures (rw c.new.ensures (none_listed s set)))

pub add-requires-2-clause-few : goal.add-requires-2-clause-few
add-requires-2-clause-few g c =
    few_listed c.args.s.now (g.G.GoodDays.days c.args.days.now) c.requires _ c.in_ok-listing.listing
    (c.in_ok-listing.ensures {u = tt})

pub add-requires-2-clause-small : goal.add-requires-2-clause-small
add-requires-2-clause-small g c =
    let s = c.args.s.now in
    let set = g.G.GoodDays.days c.args.days.now in
    small_next s set c.requires c.last.result [] c.in_ok-listing.listing
    (last_left s set c.last.result c.in_ok-listing.listing c.last.ensures (c.in_ok-listing.ensures {u = tt}))

pub returns : goal.returns
returns g c =
    let s = c.args.s.now in
    let set = g.G.GoodDays.days c.args.days.now in
    c.add-2.ensures []
    (last_left s set c.last.result c.in_ok-listing.listing c.last.ensures (c.in_ok-listing.ensures {u = tt}))
