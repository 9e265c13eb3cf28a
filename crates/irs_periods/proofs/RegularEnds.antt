-- The last regular period ends at the last boundary, or at the last but one before a final stub.
use Rattle.std.proofs.Common.{◌≡◌, inl, inr, suc, ◌-◌, ◌≤◌, List, [], ◌∷◌, length, ℤ, ◌≤ℤ◌, ◌<ℤ◌, refl, sym, ap, ◌∙◌, arith}
use Rattle.jiff_core.proofs.SignedLemmas.{signed_arith}
use Rattle.irs_base.specs.Lists.{IsRising, Member, day_at}
use Rattle.irs_terms.specs.TermDates.{DatesInOrder, termination_of}
use Rattle.irs_terms.specs.declared.results.Span.{Span}
use Rattle.irs_terms.specs.declared.stream.Stream.{Stream}
use Rattle.irs_periods.specs.Boundaries.{Boundaries, IsBoundary, RegularEnd}
use Rattle.irs_periods.specs.Spans.{SpanKept, Regular}
use Rattle.irs_periods.proofs.BoundariesThere.{boundary_in_term}
use Rattle.irs_periods.proofs.RegularStarts.{after_member}
use Rattle.irs_periods.proofs.SpanThere.{LiesInTerm, lies_in_term, last_is_boundary}

-- the greatest member of a rising list is its last
greatest_last : (t : ℤ) (b : List ℤ) → IsRising b → Member t b → ((d : ℤ) → Member d b → d ≤ℤ t)
    → day_at b (length b - 1) ≡ t
greatest_last t [] rising m greatest = absurd m
greatest_last t (x ∷ []) rising (inl here) greatest = sym here
greatest_last t (x ∷ []) rising (inr there) greatest = absurd there
greatest_last t (x ∷ y ∷ ys) rising (inl here) greatest =
    let high = after_member x y (y ∷ ys) rising.0 (inl refl) in
    let low = greatest y (inr (inl refl)) in
    absurd (omega (arith, signed_arith, high, low, here))
greatest_last t (x ∷ y ∷ ys) rising (inr there) greatest =
    let place : length (x ∷ y ∷ ys) - 1 ≡ suc (length (y ∷ ys) - 1) = omega arith in
    ap (day_at (x ∷ y ∷ ys)) place ∙ greatest_last t (y ∷ ys) rising.1 there (λ d m. greatest d (inr m))

-- a rising list with two members has two places
two_places : (r t : ℤ) (b : List ℤ) → Member r b → Member t b → r <ℤ t → 2 ≤ length b
two_places r t [] m n less = absurd m
two_places r t (x ∷ []) (inl here) (inl same) less = absurd (omega (arith, signed_arith, here, same, less))
two_places r t (x ∷ []) (inl here) (inr n) less = absurd n
two_places r t (x ∷ []) (inr m) n less = absurd m
two_places r t (x ∷ y ∷ ys) m n less = omega arith

-- and the greatest of those before it is the last but one
greatest_before : (r t : ℤ) (b : List ℤ) → IsRising b → Member r b → Member t b → r <ℤ t
    → ((d : ℤ) → Member d b → (d ≡ t → ⊥) → d ≤ℤ r) → ((d : ℤ) → Member d b → d ≤ℤ t)
    → day_at b (length b - 2) ≡ r
greatest_before r t [] rising m n less before greatest = absurd m
greatest_before r t (x ∷ []) rising m n less before greatest =
    let two = two_places r t (x ∷ []) m n less in absurd (omega (arith, two))
greatest_before r t (x ∷ y ∷ []) rising (inl here) n less before greatest = sym here
greatest_before r t (x ∷ y ∷ z ∷ zs) rising (inl here) n less before greatest =
    let first = after_member x y (y ∷ z ∷ zs) rising.0 (inl refl) in
    let second = after_member y z (z ∷ zs) rising.1.0 (inl refl) in
    let high = greatest z (inr (inr (inl refl))) in
    let low = before y (inr (inl refl)) (λ same. omega (arith, signed_arith, same, second, high)) in
    absurd (omega (arith, signed_arith, first, low, here))
greatest_before r t (x ∷ xs) rising (inr m) (inl same) less before greatest =
    let high = after_member x r xs rising.0 m in
    absurd (omega (arith, signed_arith, high, same, less))
greatest_before r t (x ∷ xs) rising (inr m) (inr n) less before greatest =
    let two = two_places r t xs m n less in
    let place : length (x ∷ xs) - 2 ≡ suc (length xs - 2) = omega (arith, two) in
    ap (day_at (x ∷ xs)) place
    ∙ greatest_before r t xs rising.1 m n less (λ d k. before d (inr k)) (λ d k. greatest d (inr k))

module _ (s : Stream) (span : Span) (dates : DatesInOrder s) (regular : Regular s span) (kept : SpanKept s span) where
  part : LiesInTerm s span
  part = lies_in_term s span dates regular kept.fits

  -- no boundary but the termination date lies after the span
  to_span : (d : ℤ) → IsBoundary s span d → (d ≡ termination_of s → ⊥) → d ≤ℤ span.last
  to_span d (inl is_e) other = omega (arith, signed_arith, is_e, part.order, part.before)
  to_span d (inr (inl is_t)) other = absurd (other is_t)
  to_span d (inr (inr on)) other = on.1

  -- the last regular period ends at the boundary that the final stub gives
  pub regular_end : (b : List ℤ) → Boundaries s span b → RegularEnd s span b
  regular_end b l =
      let t : ℤ = termination_of s in
      let at_last : Member t b = l.complete t (inr (inl refl)) in
      let greatest : (d : ℤ) → Member d b → d ≤ℤ t =
      λ d m. (boundary_in_term s span dates regular kept d (l.sound d m)).1 in
      record {
        not_after = part.after;
        no_stub = λ same. greatest_last t b l.rising at_last greatest ∙ sym same;
        before_stub =
            λ less. greatest_before span.last t b l.rising
            (l.complete span.last (last_is_boundary s span dates regular kept)) at_last less
            (λ d m other. to_span d (l.sound d m) other) greatest;
      }
