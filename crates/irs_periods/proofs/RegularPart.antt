-- What a grid of the stream's frequency and roll says of the stream's regular span.
use Rattle.std.proofs.Common.{◌≡◌, ◌↔◌, ℕ, ◌+◌, ◌≤◌, false, ℤ, pos, ◌+ℤ◌, ◌≤ℤ◌, ◌<ℤ◌, refl, subst, arith}
use Rattle.jiff_core.proofs.SignedLemmas.{signed_arith}
use Rattle.irs_base.specs.Days.{IsDay}
use Rattle.irs_base.specs.Lists.{Lists}
use Rattle.irs_terms.specs.declared.frequency.Unit.{Unit as FrequencyUnit}
use Rattle.irs_terms.specs.declared.frequency.Unit.TheVariants.{D, W, M, Y, T}
use Rattle.irs_terms.specs.declared.stream.Stream.{Stream}
use Rattle.irs_terms.specs.declared.results.Span.{Span}
use Rattle.irs_roll.specs.Rolls.{OnGrid}
use Rattle.irs_terms.specs.TermDates.{first_day_of, IsWholeTerm, DatesInOrder, termination_of}
use Rattle.irs_periods.specs.Spans.{Regular, GivenSpan, given_anchor, is_term, SpanKept}
use Rattle.irs_periods.specs.Boundaries.{Boundaries, OnSpan}
use Rattle.irs_periods.specs.Private.Spans.{all_boundaries, days_from}
use Rattle.irs_periods.proofs.TermOrder.{begins_before_end}
use Rattle.irs_periods.proofs.GridDays.{no_earlier, number_order}
use Rattle.irs_periods.proofs.GridSpans.{span_days}
use Rattle.irs_periods.proofs.SpanOrder.{InTerm, given_in_term}
use Rattle.irs_periods.proofs.Assembled.{assembled, same_boundaries}

-- a unit that isn't the term is a unit of time
pub timed_unit : (unit : FrequencyUnit) → (unit ≡ T → ⊥) → is_term unit ≡ false
timed_unit D h = refl
timed_unit W h = refl
timed_unit M h = refl
timed_unit Y h = refl
timed_unit T h = absurd (h refl)

module _ (f : ℤ → ℤ) (rises : (j k : ℤ) → j <ℤ k → f j <ℤ f k) (on : ℤ → Type 0) (nth_is_on : (k : ℤ)
    → on (f k)) (misses_none : (d : ℤ) → on d → (k : ℤ)
    × (f k ≡ d)) (s : Stream) (span : Span) (dates : DatesInOrder s) (timed : IsWholeTerm s.freq
    → ⊥) (regular : Regular s span) (kept : SpanKept s span) (zeroth : f (pos 0) ≡ span.anchor) (same : (d : ℤ)
    → on d ↔ OnGrid s.freq s.roll span.anchor d) where
  in_term : InTerm (OnGrid s.freq s.roll span.anchor) (first_day_of s) (termination_of s) span.first span.last
  in_term =
      let unit = timed_unit s.freq.unit timed in
      let spans : GivenSpan s.first_regular s.last_regular s.stub (OnGrid s.freq s.roll span.anchor) (first_day_of s)
      (termination_of s) span.first span.last = rw unit at regular.spans in
      let anchored : span.anchor
      ≡ given_anchor s.first_regular s.last_regular s.stub (first_day_of s) (termination_of s) =
      rw unit at regular.anchored in
      let on_anchor = (same span.anchor).0 (subst on zeroth (nth_is_on (pos 0))) in
      given_in_term (OnGrid s.freq s.roll span.anchor) (first_day_of s) (termination_of s)
      (begins_before_end s dates) s.first_regular s.last_regular s.stub span.first span.last dates.first dates.last
      (subst (λ (d : ℤ). OnGrid s.freq s.roll span.anchor d) anchored on_anchor) spans

  -- the first day of the regular span is on the grid
  pub on_first : on span.first
  on_first = (same span.first).1 in_term.on_first

  -- the last day of the regular span is on the grid
  pub on_last : on span.last
  on_last = (same span.last).1 (kept.on_last timed)

  module _ (start : ℤ) (n : ℕ) (begins : f start ≡ span.first) (ends : f (start +ℤ pos n) ≡ span.last) where
    -- the days of the grid and the ends of the term are the boundaries
    pub listed : Boundaries s span (all_boundaries f start n (first_day_of s) (termination_of s) span.first span.last)
    listed =
        let at_first =
        subst (λ (z : ℤ). Lists (OnSpan on z (f (start +ℤ pos n))) (days_from f start (n + 1))) begins
        (span_days f rises on nth_is_on misses_none start n) in
        let mid : Lists (OnSpan on span.first span.last) (days_from f start (n + 1)) =
        subst (λ (z : ℤ). Lists (OnSpan on span.first z) (days_from f start (n + 1))) ends at_first in
        same_boundaries on (OnGrid s.freq s.roll span.anchor) same (first_day_of s)
        (termination_of s) span.first span.last
        (all_boundaries f start n (first_day_of s) (termination_of s) span.first span.last)
        (assembled on (first_day_of s) (termination_of s) span.first span.last
        (days_from f start (n + 1)) in_term.before in_term.order in_term.after
        (begins_before_end s dates) on_first on_last mid)

    -- each grid day of the span is a day in range
    pub days : IsDay span.first → IsDay span.last → (j : ℕ) → j ≤ n → IsDay (f (start +ℤ pos j))
    days is_first is_last j h =
        let low = no_earlier f rises start (start +ℤ pos j) (omega (arith, signed_arith)) in
        let high = no_earlier f rises (start +ℤ pos j) (start +ℤ pos n) (omega (arith, signed_arith, h)) in
        (omega (arith, signed_arith, low, begins, is_first), omega (arith, signed_arith, high, ends, is_last))

  -- the grid number of the span's first day is at most that of its last
  pub number_order_of : (start end : ℤ) → f start ≡ span.first → f end ≡ span.last → start ≤ℤ end
  number_order_of start end a b = number_order f rises start end (omega (arith, signed_arith, a, b, in_term.order))
