-- The first regular period starts at boundary 0, or at boundary 1 after an initial stub.
use Rattle.std.proofs.Common.{◌≡◌, inl, inr, List, [], ◌∷◌, ℤ, ◌≤ℤ◌, ◌<ℤ◌, refl, sym, ◌∙◌, arith}
use Rattle.jiff_core.proofs.SignedLemmas.{signed_arith}
use Rattle.irs_base.specs.Lists.{Member, AllAfter, IsRising, day_at}
use Rattle.irs_terms.specs.TermDates.{first_day_of, DatesInOrder}
use Rattle.irs_terms.specs.declared.results.Span.{Span}
use Rattle.irs_terms.specs.declared.stream.Stream.{Stream}
use Rattle.irs_periods.specs.Boundaries.{Boundaries, IsBoundary, RegularStart}
use Rattle.irs_periods.specs.Spans.{SpanKept, Regular}
use Rattle.irs_periods.proofs.BoundariesThere.{boundary_in_term}
use Rattle.irs_periods.proofs.SpanThere.{LiesInTerm, lies_in_term, first_is_boundary}

-- a member of a list that is all after a day is after it
pub after_member : (x d : ℤ) (xs : List ℤ) → AllAfter x xs → Member d xs → x <ℤ d
after_member x d [] after m = absurd m
after_member x d (y ∷ ys) after (inl here) = omega (arith, signed_arith, after.0, here)
after_member x d (y ∷ ys) after (inr there) = after_member x d ys after.1 there

-- the least member of a rising list is its first
least_first : (e : ℤ) (b : List ℤ) → IsRising b → Member e b → ((d : ℤ) → Member d b → e ≤ℤ d) → day_at b 0 ≡ e
least_first e [] rising m least = absurd m
least_first e (x ∷ xs) rising (inl here) least = sym here
least_first e (x ∷ xs) rising (inr there) least =
    let low = after_member x e xs rising.0 there in
    let high = least x (inl refl) in
    absurd (omega (arith, signed_arith, low, high))

-- and the least of those after it is the next
least_next : (e r : ℤ) (b : List ℤ) → IsRising b → Member e b → Member r b → e <ℤ r
    → ((d : ℤ) → Member d b → (d ≡ e → ⊥) → r ≤ℤ d) → ((d : ℤ) → Member d b → e ≤ℤ d) → day_at b 1 ≡ r
least_next e r [] rising m n less next least = absurd m
least_next e r (x ∷ xs) rising m (inl here) less next least =
    let first : x ≡ e = least_first e (x ∷ xs) rising m least in
    absurd (omega (arith, signed_arith, first, here, less))
least_next e r (x ∷ xs) rising m (inr there) less next least =
    let first : x ≡ e = least_first e (x ∷ xs) rising m least in
    least_first r xs rising.1 there (λ d n. next d (inr n) (λ same. let after = after_member x d xs rising.0 n in
    omega (arith, signed_arith, after, same, first)))

module _ (s : Stream) (span : Span) (dates : DatesInOrder s) (regular : Regular s span) (kept : SpanKept s span) where
  part : LiesInTerm s span
  part = lies_in_term s span dates regular kept.fits

  -- no boundary but the first day lies before the span
  from_span : (d : ℤ) → IsBoundary s span d → (d ≡ first_day_of s → ⊥) → span.first ≤ℤ d
  from_span d (inl is_e) other = absurd (other is_e)
  from_span d (inr (inl is_t)) other = omega (arith, signed_arith, is_t, part.order, part.after)
  from_span d (inr (inr on)) other = on.0

  -- the first regular period starts at the boundary that the initial stub gives
  pub regular_start : (b : List ℤ) → Boundaries s span b → RegularStart s span b
  regular_start b l =
      let e : ℤ = first_day_of s in
      let at_first : Member e b = l.complete e (inl refl) in
      let least : (d : ℤ) → Member d b → e ≤ℤ d =
      λ d m. (boundary_in_term s span dates regular kept d (l.sound d m)).0 in
      record {
        not_before = part.before;
        no_stub = λ same. least_first e b l.rising at_first least ∙ same;
        behind_stub =
            λ less. least_next e span.first b l.rising at_first
            (l.complete span.first (first_is_boundary s span dates regular kept.fits)) less
            (λ d m other. from_span d (l.sound d m) other) least;
      }
