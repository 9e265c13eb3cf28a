use Rattle.std.proofs.Common.{subst, sym, List, ℤ, ◌≤ℤ◌}
use Rattle.irs_base.proofs.Orders.{lt_false, lt_true}
use Rattle.irs_calendar.specs.GoodDays.{DaySet}
use Rattle.irs_observed.proofs.MemberLemmas.{ListsTo, covered_from, lists_all, lists_more, lists_none}
use Rattle.irs_observed.proofs.members.members.Goals as goal

pub loop-end-init : goal.loop-end-init
loop-end-init g c =
    let set : DaySet = g.G.GoodDays.days c.args.days.now in
    let none = c.new-found.ensures in
    rw none (lists_none set c.args.start c.args.end)

pub next_or_end-day-requires-clause-covered : goal.next_or_end-day-requires-clause-covered
next_or_end-day-requires-clause-covered g c =
    covered_from (g.G.GoodDays.days c.args.days.now) c.args.start c.args.end c.loop-end.day c.requires.covered
    c.loop-end.invariant.low

pub loop-end-preserved : goal.loop-end-preserved
loop-end-preserved g c =
    let set : DaySet = g.G.GoodDays.days c.args.days.now in
    let pushed = c.in_ok-push.ensures.ok in
    let open_day = lt_true c.loop-end.day c.args.end (sym (c.loop-end-test.ensures {u = tt})) in
    let to = lists_more set c.args.start c.args.end c.loop-end.found c.loop-end.day c.next_or_end-day.result
    c.loop-end.invariant open_day c.next_or_end-day.ensures.after c.next_or_end-day.ensures.good
    c.next_or_end-day.ensures.none in
    subst (λ (u : List ℤ). ListsTo set c.args.start c.args.end u c.next_or_end-day.result) (sym pushed) to

pub returns : goal.returns
returns g c =
    let set : DaySet = g.G.GoodDays.days c.args.days.now in
    let past : c.args.end ≤ℤ c.loop-end.day =
    lt_false c.loop-end.day c.args.end (sym (c.loop-end-test.ensures {u = tt})) in
    lists_all set c.args.start c.args.end c.loop-end.found c.loop-end.day c.loop-end.invariant past
