-- A stream has one regular span.
use Rattle.std.proofs.Common.{◌≡◌, inl, inr, Bool, true, false, Option, Some, None, ℤ, sym, ap, subst, ◌∙◌, arith}
use Rattle.jiff_core.proofs.SignedLemmas.{signed_arith}
use Rattle.irs_terms.specs.declared.codes.StubKind.{StubKind}
use Rattle.irs_terms.specs.declared.codes.StubKind.TheVariants.{ShortInitial, LongInitial, ShortFinal, LongFinal}
use Rattle.irs_terms.specs.declared.stream.Stream.{Stream}
use Rattle.irs_terms.specs.declared.results.Span.{Span}
use Rattle.irs_roll.specs.Rolls.{OnGrid}
use Rattle.irs_periods.specs.Spans.{FirstFrom, FirstAfter, LastUpTo, LastBefore, LongFirst, LongLast, StubSpan, SpanBy}
use Rattle.irs_periods.specs.Spans.{Regular, is_term}
use Rattle.irs_terms.specs.TermDates.{first_day_of, termination_of}

module _ (on : ℤ → Type 0) where
  one_from : (d r q : ℤ) → FirstFrom on d r → FirstFrom on d q → r ≡ q
  one_from d r q a b = omega (arith, signed_arith, a.least q b.is_on b.after, b.least r a.is_on a.after)

  one_up_to : (d r q : ℤ) → LastUpTo on d r → LastUpTo on d q → r ≡ q
  one_up_to d r q a b = omega (arith, signed_arith, a.greatest q b.is_on b.before, b.greatest r a.is_on a.before)

  one_after : (d r q : ℤ) → FirstAfter on d r → FirstAfter on d q → r ≡ q
  one_after d r q a b = omega (arith, signed_arith, a.least q b.is_on b.after, b.least r a.is_on a.after)

  one_before : (d r q : ℤ) → LastBefore on d r → LastBefore on d q → r ≡ q
  one_before d r q a b = omega (arith, signed_arith, a.greatest q b.is_on b.before, b.greatest r a.is_on a.before)

  one_long_first : (e t r q : ℤ) → LongFirst on e t r → LongFirst on e t q → r ≡ q
  one_long_first e t r q a b =
      let same : a.short ≡ b.short = one_from e a.short b.short a.is_short b.is_short in
      elim a.choice [
        | inl x ↦ elim b.choice [ inl y ↦ x.1 ∙ sym y.1 | inr y ↦ absurd (y.0 (sym same ∙ x.0)) ]
        | inr x ↦ elim b.choice [
          | inl y ↦ absurd (x.0 (same ∙ y.0))
          | inr y ↦ elim x.1 [
            | inl n ↦ elim y.1 [
              | inl m ↦ one_after b.short r q (subst (λ (z : ℤ). FirstAfter on z r) same n.0) m.0
              | inr none ↦ absurd (none.0 r (subst (λ (z : ℤ). FirstAfter on z r) same n.0) n.1)
            ]
            | inr none ↦ elim y.1 [
              | inl m ↦ absurd (none.0 q (subst (λ (z : ℤ). FirstAfter on z q) (sym same) m.0) m.1)
              | inr none2 ↦ none.1 ∙ sym none2.1
            ]
          ]
        ]
      ]

  one_long_last : (e t r q : ℤ) → LongLast on e t r → LongLast on e t q → r ≡ q
  one_long_last e t r q a b =
      let same : a.short ≡ b.short = one_up_to t a.short b.short a.is_short b.is_short in
      elim a.choice [
        | inl x ↦ elim b.choice [ inl y ↦ x.1 ∙ sym y.1 | inr y ↦ absurd (y.0 (sym same ∙ x.0)) ]
        | inr x ↦ elim b.choice [
          | inl y ↦ absurd (x.0 (same ∙ y.0))
          | inr y ↦ elim x.1 [
            | inl n ↦ elim y.1 [
              | inl m ↦ one_before b.short r q (subst (λ (z : ℤ). LastBefore on z r) same n.0) m.0
              | inr none ↦ absurd (none.0 r (subst (λ (z : ℤ). LastBefore on z r) same n.0) n.1)
            ]
            | inr none ↦ elim y.1 [
              | inl m ↦ absurd (none.0 q (subst (λ (z : ℤ). LastBefore on z q) (sym same) m.0) m.1)
              | inr none2 ↦ none.1 ∙ sym none2.1
            ]
          ]
        ]
      ]

  one_stub : (stub : Option StubKind) (e t f l g m : ℤ) → StubSpan stub on e t f l → StubSpan stub on e t g m
      → (f ≡ g) × (l ≡ m)
  one_stub None e t f l g m a b = (a.0 ∙ sym b.0, a.1 ∙ sym b.1)
  one_stub (Some ShortInitial) e t f l g m a b = (one_from e f g a.0 b.0, a.1 ∙ sym b.1)
  one_stub (Some LongInitial) e t f l g m a b = (one_long_first e t f g a.0 b.0, a.1 ∙ sym b.1)
  one_stub (Some ShortFinal) e t f l g m a b = (a.0 ∙ sym b.0, one_up_to t l m a.1 b.1)
  one_stub (Some LongFinal) e t f l g m a b = (a.0 ∙ sym b.0, one_long_last e t l m a.1 b.1)

  one_by : (term : Bool) (x y : Option ℤ) (stub : Option StubKind) (e t f l g m : ℤ) → SpanBy term x y stub on e t f l
      → SpanBy term x y stub on e t g m → (f ≡ g) × (l ≡ m)
  one_by true x y stub e t f l g m a b = (a.0 ∙ sym b.0, a.1 ∙ sym b.1)
  one_by false None None stub e t f l g m a b = one_stub stub e t f l g m a b
  one_by false None (Some y) stub e t f l g m a b = (a.0 ∙ sym b.0, a.1 ∙ sym b.1)
  one_by false (Some x) y stub e t f l g m a b = (a.0 ∙ sym b.0, a.1 ∙ sym b.1)

-- two regular spans of a stream are equal
pub one_span : (s : Stream) (a b : Span) → Regular s a → Regular s b → a ≡ b
one_span s a b p q =
    let anchors : a.anchor ≡ b.anchor = p.anchored ∙ sym q.anchored in
    let moved = subst (λ (z : ℤ). SpanBy (is_term s.freq.unit) s.first_regular s.last_regular s.stub
    (OnGrid s.freq s.roll z) (first_day_of s) (termination_of s) a.first a.last) anchors p.spans in
    let ends = one_by (OnGrid s.freq s.roll b.anchor) (is_term s.freq.unit) s.first_regular s.last_regular s.stub
    (first_day_of s) (termination_of s) a.first a.last b.first b.last moved q.spans in
    let span : ℤ → ℤ → ℤ → Span = λ f l z. record { first = f; last = l; anchor = z } in
    ap (λ (f : ℤ). span f a.last a.anchor) ends.0 ∙ ap (λ (l : ℤ). span b.first l a.anchor) ends.1
    ∙ ap (λ (z : ℤ). span b.first b.last z) anchors
