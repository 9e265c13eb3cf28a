use Rattle.std.proofs.Common.{◌≡◌, ℕ, ◌+◌, ◌-◌, ◌*◌, ◌^◌, ◌≤◌, length, sym, subst, arith}
use Rattle.irs_calendar.specs.GoodDays.{Prev, CoveredRuns, set_of_runs}
use Rattle.irs_calendar.specs.Private.Closed.{begins_or_ends_before, Splits}
use Rattle.irs_calendar.specs.declared.search.End.TheVariants.{First}
use Rattle.irs_calendar.proofs.Halving.{read_more}
use Rattle.irs_base.proofs.Orders.{lt_true, lt_false}
use Rattle.irs_calendar.proofs.RunLemmas.{begins_downward, in_cover, prev_run, prev_here, none_prev}
use Rattle.irs_calendar.proofs.run_set.RunSet.prev_good_counted.Goals as goal

pub count_before-place-requires : goal.count_before-place-requires
count_before-place-requires g c =
    begins_downward (record { first = c.self.inside.first; last = c.self.inside.last; runs = c.self.inside.runs })
    c.args.d c.self.invariant

pub returns-then-place-eq0-clause-none : goal.returns-then-place-eq0-clause-none
returns-then-place-eq0-clause-none g c = λ r prev.
    let v : CoveredRuns =
    record { first = c.self.inside.first; last = c.self.inside.last; runs = c.self.inside.runs } in
    none_prev v c.args.d
    (subst (λ (k : ℕ). Splits (begins_or_ends_before First c.args.d) c.self.inside.runs k) c.if-place-eq0.true
    c.count_before-place.ensures.place) r
    (subst (λ (z : CoveredRuns). Prev (set_of_runs z) c.args.d r) (sym c.self.view_is) prev)

pub returns-then-lt-3-clause-some : goal.returns-then-lt-3-clause-some
returns-then-lt-3-clause-some g c =
    let v : CoveredRuns =
    record { first = c.self.inside.first; last = c.self.inside.last; runs = c.self.inside.runs } in
    let e : c.count_before-place.result ≡ c.count_before-place.result - 1 + 1 = omega arith in
    subst (λ (z : CoveredRuns). Prev (set_of_runs z) c.args.d c.read-run.result.last) c.self.view_is
    (prev_run v c.args.d (c.count_before-place.result - 1) c.read-run.result c.self.invariant
    (in_cover v c.args.d c.if-lt.ensures c.if-lt-2.ensures)
    (subst (λ (k : ℕ). Splits (begins_or_ends_before First c.args.d) c.self.inside.runs k) e
    c.count_before-place.ensures.place) c.read-run.ensures.run
    (lt_true c.read-run.result.last c.args.d (sym c.if-lt-3.ensures)))

pub returns-else-lt-3-clause-some : goal.returns-else-lt-3-clause-some
returns-else-lt-3-clause-some g c =
    let v : CoveredRuns =
    record { first = c.self.inside.first; last = c.self.inside.last; runs = c.self.inside.runs } in
    let e : c.count_before-place.result ≡ c.count_before-place.result - 1 + 1 = omega arith in
    subst (λ (z : CoveredRuns). Prev (set_of_runs z) c.args.d c.args.d) c.self.view_is
    (prev_here v c.args.d (c.count_before-place.result - 1) c.read-run.result c.self.invariant
    (in_cover v c.args.d c.if-lt.ensures c.if-lt-2.ensures)
    (subst (λ (k : ℕ). Splits (begins_or_ends_before First c.args.d) c.self.inside.runs k) e
    c.count_before-place.ensures.place) c.read-run.ensures.run
    (lt_false c.read-run.result.last c.args.d (sym c.if-lt-3.ensures)))

pub returns-then-lt-3-clause-cost : goal.returns-then-lt-3-clause-cost
returns-then-lt-3-clause-cost g c =
    subst (λ (z : CoveredRuns). 2 ^ (c.read-run.new.steps - c.args.steps.now) ≤ 4 * length z.runs + 2) c.self.view_is
    (read_more _ _ _ _ c.count_before-place.ensures.rises c.read-run.ensures.step c.count_before-place.ensures.cost)

pub returns-else-lt-3-clause-cost : goal.returns-else-lt-3-clause-cost
returns-else-lt-3-clause-cost g c =
    subst (λ (z : CoveredRuns). 2 ^ (c.read-run.new.steps - c.args.steps.now) ≤ 4 * length z.runs + 2) c.self.view_is
    (read_more _ _ _ _ c.count_before-place.ensures.rises c.read-run.ensures.step c.count_before-place.ensures.cost)
