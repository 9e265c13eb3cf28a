use Rattle.std.proofs.Common.{sym, subst}
use Rattle.irs_terms.specs.declared.results.Span.{Span}
use Rattle.irs_roll.specs.Rolls.{OnGrid, Fits}
use Rattle.irs_terms.specs.TermDates.{first_day_of, IsWholeTerm, termination_of}
use Rattle.irs_periods.specs.Spans.{Regular, RollMisfits, SpanKept}
use Rattle.irs_periods.proofs.SpanDecided.{first_misfit, first_off_grid}
use Rattle.irs_periods.proofs.Outcomes.{span_answers}
use Rattle.irs_periods.proofs.TermOrder.{begins_before_end}
use Rattle.irs_periods.proofs.SpanLemmas.{given_span_same}
use Rattle.irs_periods.proofs.span.timed_span.Goals as goal

pub returns : goal.returns
returns c =
    let s = c.args.s.now in
    let anchor = c.anchor-anchor.result in
    let span : Span = record { first = c.ends-first.result.0; last = c.ends-first.result.1; anchor = anchor } in
    let regular : Regular s span = record {
      anchored = c.anchor-anchor.ensures;
      spans = rw c.requires.timed
          (given_span_same _ (OnGrid s.freq s.roll anchor) c.new-grid.ensures.on s.first_regular s.last_regular s.stub
          (first_day_of s) (termination_of s) c.ends-first.result.0 c.ends-first.result.1 c.ends-first.ensures);
    } in
    let kept : SpanKept s span = record {
      fits = λ _. c.fits.ensures.0 c.if-not-fits.false;
      on_last = λ _. (c.new-grid.ensures.on span.last).0 (c.on_grid.ensures.0 c.if-not-on_grid.false);
    } in
    span_answers s span (record { regular = regular; kept = kept })

pub returns-then-not-on_grid : goal.returns-then-not-on_grid
returns-then-not-on_grid c =
    let s = c.args.s.now in
    let anchor = c.anchor-anchor.result in
    let fit : Fits s.roll s.freq anchor = c.fits.ensures.0 c.if-not-fits.false in
    let span : Span = record { first = c.ends-first.result.0; last = c.ends-first.result.1; anchor = anchor } in
    let timed : IsWholeTerm s.freq → ⊥ = λ h. let same = rw h at c.requires.timed in cc in
    let regular : Regular s span = record {
      anchored = c.anchor-anchor.ensures;
      spans = rw c.requires.timed
          (given_span_same _ (OnGrid s.freq s.roll anchor) c.new-grid.ensures.on s.first_regular s.last_regular s.stub
          (first_day_of s) (termination_of s) c.ends-first.result.0 c.ends-first.result.1 c.ends-first.ensures);
    } in
    let off : OnGrid s.freq s.roll anchor c.ends-first.result.1 → ⊥ = λ on.
    let is = c.on_grid.ensures.1 ((c.new-grid.ensures.on c.ends-first.result.1).1 on) in cc in
    rw c.off_grid.ensures
    (first_off_grid s (λ k30. k30.misfits (subst (Fits s.roll s.freq) c.anchor-anchor.ensures fit))
    (record { timed = timed; span = span; regular = regular; off = off }))

pub returns-then-not-fits : goal.returns-then-not-fits
returns-then-not-fits c =
    let s = c.args.s.now in
    let timed : IsWholeTerm s.freq → ⊥ = λ h. let same = rw h at c.requires.timed in cc in
    let misfits : RollMisfits s =
    record {
      timed = timed;
      misfits = λ k. let is =
          c.fits.ensures.1 (subst (Fits s.roll s.freq) (sym c.anchor-anchor.ensures) k) in cc;
    } in
    rw c.misfit.ensures (first_misfit s misfits)

pub ends-first-requires-clause-order : goal.ends-first-requires-clause-order
ends-first-requires-clause-order c = begins_before_end c.args.s.now c.requires.dates
