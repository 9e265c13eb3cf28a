-- K30 or K31 is the first rule that the span of a stream breaks, or it breaks none.
use Rattle.std.proofs.Common.{◌≡◌, ◌⊎◌, inl, inr, ⊎_elim, false, refl, sym, subst}
use Rattle.irs_base.specs.Days.{IsDay}
use Rattle.irs_base.specs.Outcomes.{First}
use Rattle.irs_terms.specs.Faults.{comes_before}
use Rattle.irs_base.specs.Private.Order.{IsDecided}
use Rattle.irs_terms.specs.declared.places.Fault.{Fault}
use Rattle.irs_terms.proofs.FaultOrder.{fault_order, one_fault}
use Rattle.irs_terms.specs.Lawful.{IsLawfulStream}
use Rattle.irs_terms.specs.TermDates.{IsWholeTerm, DatesInOrder}
use Rattle.irs_terms.specs.declared.results.Span.{Span}
use Rattle.irs_terms.specs.declared.stream.Stream.{Stream}
use Rattle.irs_roll.specs.Rolls.{Fits, OnGrid}
use Rattle.irs_roll.proofs.GridsDecided.{decides_on_grid}
use Rattle.irs_periods.specs.Spans.{BreaksSpan, LastOffGrid, RollMisfits, SpanKept, last_off_grid, roll_misfits}
use Rattle.irs_periods.specs.Spans.{Regular, anchor_of}
use Rattle.irs_periods.proofs.Anchors.{anchor_day, decides_fits, decides_term}
use Rattle.irs_periods.proofs.OneSpan.{one_span}
use Rattle.irs_periods.proofs.SpanThere.{last_is_day, lies_in_term, regular_there}

-- K30 comes before K31
pub first_misfit : (s : Stream) → RollMisfits s → First comes_before (BreaksSpan s) (roll_misfits s)
first_misfit s misfits = (inl (misfits, refl), none_before)
  where
    none_before : (f : Fault) → BreaksSpan s f → comes_before f (roll_misfits s) ≡ false
    none_before f (inl h) =
        subst (λ (g : Fault). comes_before g (roll_misfits s) ≡ false) (sym h.1) (fault_order.itself (roll_misfits s))
    none_before f (inr h) = subst (λ (g : Fault). comes_before g (roll_misfits s) ≡ false) (sym h.1) refl

-- where the roll fits the anchor K31 is the first
pub first_off_grid : (s : Stream) → (RollMisfits s → ⊥) → LastOffGrid s
    → First comes_before (BreaksSpan s) (last_off_grid s)
first_off_grid s fits off = (inr (off, refl), none_before)
  where
    none_before : (f : Fault) → BreaksSpan s f → comes_before f (last_off_grid s) ≡ false
    none_before f (inl h) = absurd (fits h.0)
    none_before f (inr h) =
        subst (λ (g : Fault). comes_before g (last_off_grid s) ≡ false) (sym h.1) (fault_order.itself (last_off_grid s))

-- at most one rule of the span is the first that is broken
pub one_span_rule : (s : Stream) (f g : Fault) → First comes_before (BreaksSpan s) f
    → First comes_before (BreaksSpan s) g → f ≡ g
one_span_rule s f g p q = one_fault (BreaksSpan s) f g p q

-- a span that is kept breaks no rule
pub span_unbroken : (s : Stream) (span : Span) → Regular s span → SpanKept s span → (f : Fault) → BreaksSpan s f → ⊥
span_unbroken s span regular kept f (inl h) =
    h.0.misfits (subst (Fits s.roll s.freq) regular.anchored (kept.fits h.0.timed))
span_unbroken s span regular kept f (inr h) =
    let same : span ≡ h.0.span = one_span s span h.0.span regular h.0.regular in
    h.0.off (subst (λ (z : Span). OnGrid s.freq s.roll z.anchor z.last) same (kept.on_last h.0.timed))

-- a stream breaks a rule on its span first, or it breaks none
abbrev SpanDecided : Stream → Type 0
SpanDecided s = ((f : Fault) × First comes_before (BreaksSpan s) f) ⊎ ((f : Fault) → BreaksSpan s f → ⊥)

module _ (s : Stream) (lawful : IsLawfulStream s) (dates : DatesInOrder s) where
  by_last : (IsWholeTerm s.freq → ⊥) → Fits s.roll s.freq (anchor_of s) → (span : Span) → Regular s span
      → IsDecided (OnGrid s.freq s.roll span.anchor span.last) → SpanDecided s
  by_last timed fits span regular (inl on) = inr (span_unbroken s span regular (record {
    fits = λ _. subst (Fits s.roll s.freq) (sym regular.anchored) fits;
    on_last = λ _. on;
  }))
  by_last timed fits span regular (inr off) =
      inl (
        last_off_grid s,
        first_off_grid s (λ h. h.misfits fits) (record { timed = timed; span = span; regular = regular; off = off }),
      )

  by_anchor : (IsWholeTerm s.freq → ⊥) → IsDecided (Fits s.roll s.freq (anchor_of s)) → SpanDecided s
  by_anchor timed (inr misfits) = inl (roll_misfits s, first_misfit s (record { timed = timed; misfits = misfits }))
  by_anchor timed (inl fits) =
      let found = regular_there s lawful dates (λ h. h.misfits fits) in
      let at_anchor : Fits s.roll s.freq found.0.anchor = subst (Fits s.roll s.freq) (sym found.1.anchored) fits in
      let is_anchor : IsDay found.0.anchor = subst IsDay (sym found.1.anchored) (anchor_day s lawful) in
      let is_last : IsDay found.0.last =
      last_is_day s found.0 lawful (lies_in_term s found.0 dates found.1 (λ _. at_anchor)) in
      by_last timed fits found.0 found.1
      (decides_on_grid s.freq s.roll found.0.anchor found.0.last lawful.freq lawful.roll is_anchor is_last)

  -- a rule of the span is the first that is broken, or none is broken
  pub span_decided : ((f : Fault) × First comes_before (BreaksSpan s) f) ⊎ ((f : Fault) → BreaksSpan s f → ⊥)
  span_decided = elim (decides_term s.freq.unit) [
    | inl term ↦ inr (λ f h. ⊎_elim (λ k. k.0.timed term) (λ k. k.0.timed term) h)
    | inr timed ↦
        by_anchor timed (decides_fits s.freq s.roll (anchor_of s) lawful.freq lawful.roll (anchor_day s lawful))
  ]
