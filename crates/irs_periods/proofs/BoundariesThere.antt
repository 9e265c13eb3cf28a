-- A stream with a regular span that is kept has boundaries; they are days, and run from the
-- first day to the termination date.
use Rattle.std.proofs.Common.{inl, inr, ⊎_elim, List, [], ◌∷◌, ℤ, ◌≤ℤ◌, refl, sym, subst, arith}
use Rattle.jiff_core.proofs.SignedLemmas.{signed_arith}
use Rattle.irs_base.specs.Days.{IsDay}
use Rattle.irs_base.specs.Lists.{AreDays, Member, RunsFromTo}
use Rattle.irs_terms.specs.Lawful.{IsLawfulStream}
use Rattle.irs_terms.specs.declared.results.Span.{Span}
use Rattle.irs_terms.specs.declared.stream.Stream.{Stream}
use Rattle.irs_roll.specs.Rolls.{OnGrid}
use Rattle.irs_periods.specs.Boundaries.{Boundaries, IsBoundary, IsBoundaryBy, OnSpan}
use Rattle.irs_periods.specs.Spans.{SpanKept, Regular}
use Rattle.irs_periods.proofs.Assembled.{lists_same}
use Rattle.irs_periods.proofs.Anchors.{anchor_day}
use Rattle.irs_adjust.proofs.FoundDays.{decides_le}
use Rattle.irs_periods.proofs.Ranges.{listed_between}
use Rattle.irs_periods.proofs.SpanThere.{LiesInTerm, lies_in_term, term_day}
use Rattle.irs_terms.specs.TermDates.{first_day_of, DatesInOrder, termination_of}
use Rattle.irs_periods.proofs.TermOrder.{begins_before_end}
use Rattle.irs_base.specs.Private.Order.{IsDecided}
use Rattle.irs_roll.proofs.GridsDecided.{decides_on_grid}
use Rattle.irs_base.proofs.Decided.{decides_same}

-- a list whose members are days in range is one of days in range
pub days_of_members : (b : List ℤ) → ((d : ℤ) → Member d b → IsDay d) → AreDays b
days_of_members [] h = tt
days_of_members (x ∷ xs) h = (h x (inl refl), days_of_members xs (λ d m. h d (inr m)))

-- a day is a grid day of the span, or it isn't
decides_on_span : (on : ℤ → Type 0) (first last d : ℤ) → IsDecided (on d) → IsDecided (OnSpan on first last d)
decides_on_span on first last d grid = elim (decides_le first d) [
  | inr early ↦ inr (λ h. early h.0)
  | inl from ↦ elim (decides_le d last) [
    | inr late ↦ inr (λ h. late h.1)
    | inl to ↦ elim grid [ inl here ↦ inl (from, to, here) | inr off ↦ inr (λ h. off h.2) ]
  ]
]

-- a day is a boundary, or it isn't
decides_boundary : (on : ℤ → Type 0) (e t first last d : ℤ) → IsDecided (on d)
    → IsDecided (IsBoundaryBy on e t first last d)
decides_boundary on e t first last d grid = elim (decides_same d e) [
  | inl is_e ↦ inl (inl is_e)
  | inr not_e ↦ elim (decides_same d t) [
    | inl is_t ↦ inl (inr (inl is_t))
    | inr not_t ↦ elim (decides_on_span on first last d grid) [
      | inl is ↦ inl (inr (inr is))
      | inr not ↦ inr (λ b. ⊎_elim not_e (λ rest. ⊎_elim not_t not rest) b)
    ]
  ]
]

module _ (s : Stream) (span : Span) (dates : DatesInOrder s) (regular : Regular s span) (kept : SpanKept s span) where
  part : LiesInTerm s span
  part = lies_in_term s span dates regular kept.fits

  -- each boundary lies in the term
  pub boundary_in_term : (d : ℤ) → IsBoundary s span d → (first_day_of s ≤ℤ d) × (d ≤ℤ termination_of s)
  boundary_in_term d (inl is_e) =
      (omega (arith, signed_arith, is_e), omega (arith, signed_arith, is_e, begins_before_end s dates))
  boundary_in_term d (inr (inl is_t)) =
      (omega (arith, signed_arith, is_t, begins_before_end s dates), omega (arith, signed_arith, is_t))
  boundary_in_term d (inr (inr on)) =
      (omega (arith, signed_arith, part.before, on.0), omega (arith, signed_arith, part.after, on.1))

  -- the boundaries run from the first day to the termination date
  pub boundaries_run : (b : List ℤ) → Boundaries s span b → RunsFromTo (first_day_of s) s.termination.day b
  boundaries_run b l = record {
    rising = l.rising;
    starts = l.complete (first_day_of s) (inl refl);
    ends = l.complete (termination_of s) (inr (inl refl));
    from = λ d m. (boundary_in_term d (l.sound d m)).0;
    to = λ d m. (boundary_in_term d (l.sound d m)).1;
  }

module _ (s : Stream) (span : Span) (lawful : IsLawfulStream s) (dates : DatesInOrder s) (regular : Regular s span)
    (kept : SpanKept s span) where
  -- the boundaries are days
  pub boundaries_days : (b : List ℤ) → Boundaries s span b → AreDays b
  boundaries_days b l = days_of_members b (λ d m.
      let within = boundary_in_term s span dates regular kept d (l.sound d m) in
      term_day s lawful d within.0 within.1)

  decides_boundary_of : (d : ℤ) → first_day_of s ≤ℤ d → d ≤ℤ termination_of s → IsDecided (IsBoundary s span d)
  decides_boundary_of d low high =
      let is_anchor : IsDay span.anchor = subst IsDay (sym regular.anchored) (anchor_day s lawful) in
      decides_boundary (OnGrid s.freq s.roll span.anchor) (first_day_of s) (termination_of s) span.first span.last d
      (decides_on_grid s.freq s.roll span.anchor d lawful.freq lawful.roll is_anchor (term_day s lawful d low high))

  -- there are boundaries
  pub boundaries_there : (b : List ℤ) × Boundaries s span b
  boundaries_there =
      let found = listed_between (IsBoundary s span) (first_day_of s) (termination_of s) decides_boundary_of in
      let within = boundary_in_term s span dates regular kept in (
        found.0,
        lists_same (λ d. (first_day_of s ≤ℤ d) × (d ≤ℤ termination_of s)
            × IsBoundary s span d) (IsBoundary s span) found.0 (λ d w. w.2)
            (λ d is. ((within d is).0, (within d is).1, is)) found.1,
      )
