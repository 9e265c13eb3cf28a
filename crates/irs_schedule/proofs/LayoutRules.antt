-- A stream has one layout, or one first rule that it breaks.
use Rattle.std.proofs.Common.{◌≡◌, List, ℤ, sym, subst}
use Rattle.irs_base.specs.Outcomes.{Determined}
use Rattle.irs_base.proofs.Outcomes.{answer_determined, then_determined}
use Rattle.irs_terms.specs.Lawful.{IsLawfulStream}
use Rattle.irs_terms.specs.TermDates.{DatesInOrder}
use Rattle.irs_terms.specs.declared.results.Span.{Span}
use Rattle.irs_terms.specs.declared.stream.Stream.{Stream}
use Rattle.irs_periods.specs.Boundaries.{AdjustedList, Boundaries, adjusted_of, boundaries_of, regular_span_of}
use Rattle.irs_periods.proofs.AdjustedLemmas.{one_adjusted}
use Rattle.irs_periods.proofs.BoundariesThere.{boundaries_days}
use Rattle.irs_periods.proofs.OneSpan.{one_span}
use Rattle.irs_periods.proofs.Outcomes.{adjusted_determined, boundaries_determined, span_determined}
use Rattle.irs_periods.proofs.PeriodsDecided.{few_boundaries, one_boundaries}
use Rattle.irs_schedule.specs.DaySets.{StreamSets}
use Rattle.irs_schedule.specs.Private.Layouts.{IsKeptLayout}
use Rattle.irs_schedule.specs.Schedules.{IsLayout, layout_of}
use Rattle.irs_schedule.specs.declared.layouts.Layout.{Layout}
use Rattle.irs_schedule.proofs.LayoutLemmas.{AreInRange}

-- a layout that breaks no rule is a layout
pub layout_is : (sets : StreamSets) (s : Stream) (l : Layout) → IsKeptLayout sets s l → IsLayout sets s l
layout_is sets s l is = record { regular = is.regular; unadjusted = is.unadjusted; adjusted = is.adjusted }

-- a stream has one layout
pub one_layout : (sets : StreamSets) (s : Stream) (l m : Layout) → IsLayout sets s l → IsLayout sets s m → l ≡ m
one_layout sets s l m h k =
    let spans : l.span ≡ m.span = one_span s l.span m.span h.regular k.regular in
    let moved : Boundaries s m.span l.unadjusted =
    subst (λ (x : Span). Boundaries s x l.unadjusted) spans h.unadjusted in
    let lists : l.unadjusted ≡ m.unadjusted = one_boundaries s m.span l.unadjusted m.unadjusted moved k.unadjusted in
    let over : AdjustedList s sets.boundaries m.unadjusted l.adjusted =
    subst (λ (b : List ℤ). AdjustedList s sets.boundaries b l.adjusted) lists h.adjusted in
    let adjusted : l.adjusted ≡ m.adjusted =
    one_adjusted s sets.boundaries m.unadjusted l.adjusted m.adjusted over k.adjusted in
    λ i. record { span = spans i; unadjusted = lists i; adjusted = adjusted i }

module _ (sets : StreamSets) (s : Stream) where
  -- a layout that is answered breaks no rule
  pub layout_kept : (l : Layout) → (layout_of sets s).Answers l → IsKeptLayout sets s l
  layout_kept l h =
      let span = h.0 in
      let b = h.2.0 in
      let a = h.2.2.0 in
      let made : Layout = record { span = span; unadjusted = b; adjusted = a } in
      let is : IsKeptLayout sets s made = record {
        regular = h.1.1.regular;
        kept = h.1.1.kept;
        unadjusted = h.2.1.1;
        few = few_boundaries s span b h.2.1.1 h.2.1.0;
        adjusted = h.2.2.1.1.adjusted;
        rises = h.2.2.1.1.rising;
      } in
      subst (IsKeptLayout sets s) (sym h.2.2.2) is

  -- a stream has one layout that breaks no rule, or one first rule that it breaks
  pub layout_determined : IsLawfulStream s → DatesInOrder s → AreInRange sets → Determined (layout_of sets s)
  layout_determined lawful dates range =
      then_determined (regular_span_of s) _ (span_determined s lawful dates) (λ span is.
      then_determined (boundaries_of s span) _
      (boundaries_determined s span lawful dates is.1.regular is.1.kept) (λ b listed.
      then_determined (adjusted_of s sets.boundaries b) _
      (adjusted_determined s sets.boundaries b (boundaries_days s span lawful dates is.1.regular is.1.kept b listed.1)
      range.start range.end range.middle)
      (λ a _. answer_determined (record { span = span; unadjusted = b; adjusted = a }))))
