use Rattle.std.proofs.Common.{◌≡◌, ◌+◌, ◌≤◌, length, ℤ, to_z, of_z, w64, arith, subst}
use Rattle.jiff_core.proofs.SignedLemmas.{signed_arith}
use Rattle.irs_base.specs.Limits.{most_periods}
use Rattle.irs_periods.specs.Boundaries.{Boundaries, TooManyPeriods}
use Rattle.irs_periods.specs.Private.Spans.{boundaries_on, where_before}
use Rattle.irs_terms.specs.TermDates.{first_day_of, termination_of}
use Rattle.irs_periods.proofs.GridSpans.{length-all_boundaries}
use Rattle.irs_base.proofs.Outcomes.{if_memory}
use Rattle.irs_periods.proofs.PeriodsDecided.{few_unbroken, first_too_many}
use Rattle.irs_periods.proofs.listing.boundaries.Goals as goal

pub returns-then-steps-stubs-clause-meets : goal.returns-then-steps-stubs-clause-meets
returns-then-steps-stubs-clause-meets g c =
    let s = c.args.s.now in
    let span = c.args.span.now in
    let f : ℤ → ℤ = g.G.Grid.at c.args.grid.now in
    let part = c.regular_part-start in
    let front = subst (λ (z : ℤ). c.stub.result ≡ length (where_before z span.first (first_day_of s)))
    c.first_day.ensures.value (c.stub.ensures.same (first_day_of s)) in
    let back = c.stub-2.ensures.same (termination_of s) in
    let long = length-all_boundaries f part.result.0 part.result.1 (first_day_of s)
    (termination_of s) span.first span.last in
    let many : TooManyPeriods s span = record {
      list = boundaries_on f part.result.0 part.result.1 s span;
      lists = part.ensures.listed;
      many = omega (arith, long, front, back, c.stub.ensures.most, c.stub-2.ensures.most, c.if-steps-stubs.true);
    } in
    rw c.too_many.ensures (first_too_many s span many)

pub returns-clause-meets : goal.returns-clause-meets
returns-clause-meets g c =
    let s = c.args.s.now in
    let span = c.args.span.now in
    let f : ℤ → ℤ = g.G.Grid.at c.args.grid.now in
    let part = c.regular_part-start in
    let start : ℤ = to_z w64 (of_z w64 part.result.0) in
    let same : part.result.0 ≡ start = omega (arith, signed_arith, part.ensures.near) in
    let listed = subst (λ (z : ℤ). Boundaries s span (boundaries_on f z part.result.1 s span)) same part.ensures.listed in
    let front = subst (λ (z : ℤ). c.stub.result ≡ length (where_before z span.first (first_day_of s)))
    c.first_day.ensures.value (c.stub.ensures.same (first_day_of s)) in
    let back = c.stub-2.ensures.same (termination_of s) in
    let long = length-all_boundaries f start part.result.1 (first_day_of s) (termination_of s) span.first span.last in
    let few : length (boundaries_on f start part.result.1 s span) ≤ most_periods + 1 =
    omega (arith, long, front, back, c.stub.ensures.most, c.stub-2.ensures.most, c.if-steps-stubs.false) in
    rw c.in_ok-list_days.ensures (few_unbroken s span (boundaries_on f start part.result.1 s span) listed few, listed)

pub returns-in_err-list_days-clause-memory : goal.returns-in_err-list_days-clause-memory
returns-in_err-list_days-clause-memory g c =
    let s = c.args.s.now in
    let span = c.args.span.now in
    let f : ℤ → ℤ = g.G.Grid.at c.args.grid.now in
    let part = c.regular_part-start in
    let front = subst (λ (z : ℤ). c.stub.result ≡ length (where_before z span.first (first_day_of s)))
    c.first_day.ensures.value (c.stub.ensures.same (first_day_of s)) in
    let back = c.stub-2.ensures.same (termination_of s) in
    let long = length-all_boundaries f part.result.0 part.result.1 (first_day_of s)
    (termination_of s) span.first span.last in
    let few : length (boundaries_on f part.result.0 part.result.1 s span) ≤ most_periods + 1 =
    omega (arith, long, front, back, c.stub.ensures.most, c.stub-2.ensures.most, c.if-steps-stubs.false) in
    if_memory _ c.from_residual.result (few_unbroken s span (boundaries_on f part.result.0 part.result.1 s span) part.ensures.listed few)
