use Rattle.std.proofs.Common.{◌+◌, ◌-◌, ◌*◌, ◌^◌, ◌≤◌, length, sym, ◌∙◌, subst}
use Rattle.irs_calendar.specs.GoodDays.{Next, CoveredRuns, set_of_runs}
use Rattle.irs_calendar.proofs.Halving.{read_more}
use Rattle.irs_base.proofs.Orders.{lt_true, lt_false}
use Rattle.irs_calendar.proofs.RunLemmas.{ends_downward, in_cover, next_run, next_here, none_next}
use Rattle.irs_calendar.proofs.run_set.RunSet.next_good_counted.Goals as goal

pub count_before-place-requires : goal.count_before-place-requires
count_before-place-requires g c =
    ends_downward (record { first = c.self.inside.first; last = c.self.inside.last; runs = c.self.inside.runs })
    c.args.d c.self.invariant

pub returns-then-place-count-clause-none : goal.returns-then-place-count-clause-none
returns-then-place-count-clause-none g c = λ r next.
    let v : CoveredRuns =
    record { first = c.self.inside.first; last = c.self.inside.last; runs = c.self.inside.runs } in
    none_next v c.args.d c.count_before-place.result c.count_before-place.ensures.place (c.if-place-count.true
    ∙ c.count.ensures) r
    (subst (λ (z : CoveredRuns). Next (set_of_runs z) c.args.d r) (sym c.self.view_is) next)

pub returns-then-lt-3-clause-some : goal.returns-then-lt-3-clause-some
returns-then-lt-3-clause-some g c =
    let v : CoveredRuns =
    record { first = c.self.inside.first; last = c.self.inside.last; runs = c.self.inside.runs } in
    subst (λ (z : CoveredRuns). Next (set_of_runs z) c.args.d c.read-run.result.first) c.self.view_is
    (next_run v c.args.d c.count_before-place.result c.read-run.result c.self.invariant
    (in_cover v c.args.d c.if-lt.ensures c.if-lt-2.ensures) c.count_before-place.ensures.place
    c.read-run.ensures.run (lt_true c.args.d c.read-run.result.first (sym c.if-lt-3.ensures)))

pub returns-else-lt-3-clause-some : goal.returns-else-lt-3-clause-some
returns-else-lt-3-clause-some g c =
    let v : CoveredRuns =
    record { first = c.self.inside.first; last = c.self.inside.last; runs = c.self.inside.runs } in
    subst (λ (z : CoveredRuns). Next (set_of_runs z) c.args.d c.args.d) c.self.view_is
    (next_here v c.args.d c.count_before-place.result c.read-run.result c.self.invariant
    (in_cover v c.args.d c.if-lt.ensures c.if-lt-2.ensures) c.count_before-place.ensures.place
    c.read-run.ensures.run (lt_false c.args.d c.read-run.result.first (sym c.if-lt-3.ensures)))

pub returns-then-lt-3-clause-cost : goal.returns-then-lt-3-clause-cost
returns-then-lt-3-clause-cost g c =
    subst (λ (z : CoveredRuns). 2 ^ (c.read-run.new.steps - c.args.steps.now) ≤ 4 * length z.runs + 2) c.self.view_is
    (read_more _ _ _ _ c.count_before-place.ensures.rises c.read-run.ensures.step c.count_before-place.ensures.cost)

pub returns-else-lt-3-clause-cost : goal.returns-else-lt-3-clause-cost
returns-else-lt-3-clause-cost g c =
    subst (λ (z : CoveredRuns). 2 ^ (c.read-run.new.steps - c.args.steps.now) ≤ 4 * length z.runs + 2) c.self.view_is
    (read_more _ _ _ _ c.count_before-place.ensures.rises c.read-run.ensures.step c.count_before-place.ensures.cost)
