-- Each call of this crate has one outcome.
use Rattle.std.proofs.Common.{List, [], ◌∷◌, ℤ, arith}
use Rattle.irs_base.specs.Lists.{AreDays}
use Rattle.irs_base.specs.Outcomes.{Determined}
use Rattle.irs_terms.specs.Faults.{comes_before}
use Rattle.irs_base.proofs.Outcomes.{unless_broken_determined}
use Rattle.irs_terms.specs.Lawful.{IsLawfulStream}
use Rattle.irs_terms.specs.TermDates.{first_day_of, IsWholeTerm, DatesInOrder, termination_of}
use Rattle.irs_terms.specs.declared.results.Span.{Span}
use Rattle.irs_terms.specs.declared.stream.Stream.{Stream}
use Rattle.irs_adjust.proofs.FoundDays.{InRange}
use Rattle.irs_periods.specs.Boundaries.{BoundaryDays, BreaksAdjusted, Boundaries, BreaksPeriods, AreAdjusted}
use Rattle.irs_periods.specs.Boundaries.{IsRegularSpan, adjusted_of, boundaries_of, regular_span_of}
use Rattle.irs_periods.specs.Spans.{BreaksSpan, SpanKept, Regular}
use Rattle.irs_periods.proofs.AdjustedDecided.{adjusted_decided, one_adjusted_rule, rising_there}
use Rattle.irs_periods.proofs.AdjustedLemmas.{one_adjusted}
use Rattle.irs_periods.proofs.BoundariesThere.{boundaries_there}
use Rattle.irs_periods.proofs.OneSpan.{one_span}
use Rattle.irs_periods.proofs.PeriodsDecided.{boundaries_decided, few_unbroken, one_boundaries, one_boundaries_rule}
use Rattle.irs_periods.proofs.SpanDecided.{one_span_rule, span_decided, span_unbroken}
use Rattle.irs_periods.proofs.SpanThere.{span_there}
use Rattle.irs_periods.proofs.TermList.{term_list}
use Rattle.irs_periods.proofs.TermOrder.{begins_before_end}

-- a stream comes to one regular span, or to one first fault
pub span_determined : (s : Stream) → IsLawfulStream s → DatesInOrder s → Determined (regular_span_of s)
span_determined s lawful dates =
    unless_broken_determined comes_before (BreaksSpan s) (IsRegularSpan s) (span_decided s lawful dates)
    (λ none. let span = span_there s lawful dates none in (span.0, record { regular = span.1; kept = span.2 }))
    (λ a b h k. one_span s a b h.regular k.regular) (one_span_rule s)

-- a stream comes to one list of boundaries
pub boundaries_determined : (s : Stream) (span : Span) → IsLawfulStream s → DatesInOrder s → Regular s span
    → SpanKept s span → Determined (boundaries_of s span)
boundaries_determined s span lawful dates regular kept =
    unless_broken_determined comes_before (BreaksPeriods s span) (Boundaries s span)
    (boundaries_decided s span lawful dates regular kept)
    (λ _. boundaries_there s span lawful dates regular kept)
    (one_boundaries s span) (one_boundaries_rule s span)

-- boundaries come to one list of adjusted ones, or to one first fault
pub adjusted_determined : (s : Stream) (sets : BoundaryDays) (b : List ℤ) → AreDays b → InRange sets.start
    → InRange sets.end → InRange sets.middle → Determined (adjusted_of s sets b)
adjusted_determined s sets b days start last middle =
    unless_broken_determined comes_before (BreaksAdjusted s sets b) (AreAdjusted s sets b)
    (adjusted_decided s sets b days start last middle)
    (λ none. let a = rising_there s sets b days start last middle none in
    (a.0, record { adjusted = a.1; rising = a.2 }))
    (λ a c h k. one_adjusted s sets b a c h.adjusted k.adjusted) (one_adjusted_rule s sets b)

-- a span that keeps both rules is the answer
pub span_answers : (s : Stream) (span : Span) → IsRegularSpan s span → (regular_span_of s).Answers span
span_answers s span is = (span_unbroken s span is.regular is.kept, is)

-- where the frequency is the term there aren't too many periods
pub term_answers : (s : Stream) (span : Span) → IsWholeTerm s.freq → DatesInOrder s
    → (boundaries_of s span).Answers (first_day_of s ∷ termination_of s ∷ [])
term_answers s span term dates =
    let b = first_day_of s ∷ termination_of s ∷ [] in
    let lists = term_list s span term (begins_before_end s dates) in
    (few_unbroken s span b lists (omega (arith)), lists)
