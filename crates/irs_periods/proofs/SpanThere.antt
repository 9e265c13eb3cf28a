-- A stream whose roll fits its anchor has a regular span, and it lies in the term. Where K31 isn't broken either, the
-- last day of the span is on the grid.
use Rattle.std.proofs.Common.{◌≡◌, inl, inr, Bool, Option, Some, None, unwrap_or, ℤ, ◌≤ℤ◌, ◌<ℤ◌, refl, sym, subst, arith}
use Rattle.jiff_core.proofs.SignedLemmas.{signed_arith}
use Rattle.irs_base.specs.Days.{IsDay}
use Rattle.irs_terms.specs.declared.places.Fault.{Fault}
use Rattle.irs_terms.specs.Lawful.{IsLawfulStream}
use Rattle.irs_terms.specs.declared.codes.StubKind.{StubKind}
use Rattle.irs_terms.specs.declared.codes.StubKind.TheVariants.{ShortInitial, LongInitial, ShortFinal, LongFinal}
use Rattle.irs_terms.specs.declared.results.Span.{Span}
use Rattle.irs_terms.specs.declared.stream.Stream.{Stream}
use Rattle.irs_roll.specs.Rolls.{Fits, OnGrid}
use Rattle.irs_periods.specs.Spans.{FirstFrom, LastUpTo, LongFirst, LongLast, BreaksSpan, RollMisfits, SpanKept}
use Rattle.irs_periods.specs.Spans.{roll_misfits, last_off_grid, GivenSpan, Regular, SpanBy, StubSpan, anchor_of}
use Rattle.irs_periods.specs.Spans.{given_anchor, stub_anchor}
use Rattle.irs_periods.specs.Boundaries.{IsBoundary}
use Rattle.irs_periods.proofs.RegularPart.{timed_unit}
use Rattle.irs_periods.proofs.SpanOrder.{InTerm, given_in_term}
use Rattle.irs_periods.proofs.Anchors.{anchor_day, decides_fits, decides_term, own_grid}
use Rattle.irs_periods.proofs.Ranges.{first_between, last_between, after_between, before_between}
use Rattle.irs_terms.specs.TermDates.{first_day_of, IsWholeTerm, DatesInOrder, termination_of}
use Rattle.irs_periods.proofs.TermOrder.{begins_before_end}
use Rattle.irs_base.specs.Private.Order.{IsDecided}
use Rattle.irs_roll.proofs.GridsDecided.{decides_on_grid}
use Rattle.irs_base.proofs.Decided.{decides_same}
use Rattle.irs_terms.proofs.FirstDays.{first_day_is_day}

-- a span of the term from e to t on a grid that is decided there and has the anchor
module _ (on : ℤ → Type 0) (e t : ℤ) (ends : e <ℤ t) (decides : (d : ℤ) → e ≤ℤ d → d ≤ℤ t → IsDecided (on d)) where
  first_there : on t → (r : ℤ) × FirstFrom on e r × (r ≤ℤ t)
  first_there on_t = elim (first_between on e t decides) [
    | inl found ↦ found
    | inr none ↦ absurd (none t on_t (omega (arith, signed_arith, ends)) (omega (arith, signed_arith)))
  ]

  last_there : on e → (r : ℤ) × LastUpTo on t r × (e ≤ℤ r)
  last_there on_e = elim (last_between on e t decides) [
    | inl found ↦ found
    | inr none ↦ absurd (none e on_e (omega (arith, signed_arith, ends)) (omega (arith, signed_arith)))
  ]

  long_first_there : on t → (r : ℤ) × LongFirst on e t r
  long_first_there on_t =
      let short = first_there on_t in
      elim (decides_same short.0 e) [
        | inl same ↦ (e, record { short = short.0; is_short = short.1; choice = inl (same, refl) })
        | inr apart ↦
            elim (after_between on short.0 t
            (λ x low high. decides x (omega (arith, signed_arith, low, short.1.after)) high)) [
              | inl next ↦
                  (next.0, record { short = short.0; is_short = short.1; choice = inr (apart, inl (next.1, next.2)) })
              | inr none ↦ (
                t,
                record {
                  short = short.0;
                  is_short = short.1;
                  choice =
                      inr (apart, inr (λ x next high. none x next.is_on next.after high, refl));
                },
              )
            ]
      ]

  long_last_there : on e → (r : ℤ) × LongLast on e t r
  long_last_there on_e =
      let short = last_there on_e in
      elim (decides_same short.0 t) [
        | inl same ↦ (t, record { short = short.0; is_short = short.1; choice = inl (same, refl) })
        | inr apart ↦
            elim (before_between on e short.0
            (λ x low high. decides x low (omega (arith, signed_arith, high, short.1.before)))) [
              | inl before ↦ (
                before.0,
                record {
                  short = short.0;
                  is_short = short.1;
                  choice =
                      inr (apart, inl (before.1, before.2));
                },
              )
              | inr none ↦ (
                e,
                record {
                  short = short.0;
                  is_short = short.1;
                  choice =
                      inr (apart, inr (λ x before low. none x before.is_on before.before low, refl));
                },
              )
            ]
      ]

  stub_there : (stub : Option StubKind) → on (stub_anchor stub e t)
      → (first : ℤ) × (last : ℤ) × StubSpan stub on e t first last
  stub_there None is = (e, t, (refl, refl))
  stub_there (Some ShortInitial) is = let r = first_there is in (r.0, t, (r.1, refl))
  stub_there (Some LongInitial) is = let r = long_first_there is in (r.0, t, (r.1, refl))
  stub_there (Some ShortFinal) is = let r = last_there is in (e, r.0, (refl, r.1))
  stub_there (Some LongFinal) is = let r = long_last_there is in (e, r.0, (refl, r.1))

  given_there : (f l : Option ℤ) (stub : Option StubKind) → on (given_anchor f l stub e t)
      → (first : ℤ) × (last : ℤ) × GivenSpan f l stub on e t first last
  given_there None None stub is = stub_there stub is
  given_there None (Some l) stub is = (e, l, (refl, refl))
  given_there (Some f) l stub is = (f, unwrap_or l t, (refl, refl))

-- a day between the ends of the term is a day
pub term_day : (s : Stream) → IsLawfulStream s → (d : ℤ) → first_day_of s ≤ℤ d → d ≤ℤ termination_of s → IsDay d
term_day s lawful d low high = (
  omega (arith, signed_arith, low, (first_day_is_day s lawful)),
  omega (arith, signed_arith, high, lawful.termination.0),
)

-- the span lies in the term
pub record LiesInTerm (s : Stream) (span : Span) : Type 0 where
  pub before : first_day_of s ≤ℤ span.first
  pub order : span.first ≤ℤ span.last
  pub after : span.last ≤ℤ termination_of s

-- the last day of the span is a day in range
pub last_is_day : (s : Stream) (span : Span) → IsLawfulStream s → LiesInTerm s span → IsDay span.last
last_is_day s span lawful part =
    term_day s lawful span.last (omega (arith, signed_arith, part.before, part.order)) part.after

whole_term : (s : Stream) (span : Span) → DatesInOrder s → IsWholeTerm s.freq → Regular s span → LiesInTerm s span
whole_term s span dates term regular =
    let spans : (span.first ≡ first_day_of s) × (span.last ≡ termination_of s) = rw term at regular.spans in
    record {
      before = omega (arith, signed_arith, spans.0);
      order = omega (arith, signed_arith, spans.0, spans.1, begins_before_end s dates);
      after = omega (arith, signed_arith, spans.1);
    }

part_of_term : (s : Stream) (span : Span) → DatesInOrder s → (IsWholeTerm s.freq → ⊥)
    → OnGrid s.freq s.roll span.anchor span.anchor → Regular s span
    → InTerm (OnGrid s.freq s.roll span.anchor) (first_day_of s) (termination_of s) span.first span.last
part_of_term s span dates timed own regular =
    let unit = timed_unit s.freq.unit timed in
    let spans : GivenSpan s.first_regular s.last_regular s.stub (OnGrid s.freq s.roll span.anchor) (first_day_of s)
    (termination_of s) span.first span.last = rw unit at regular.spans in
    let anchored : span.anchor
    ≡ given_anchor s.first_regular s.last_regular s.stub (first_day_of s) (termination_of s) =
    rw unit at regular.anchored in
    given_in_term (OnGrid s.freq s.roll span.anchor) (first_day_of s) (termination_of s)
    (begins_before_end s dates) s.first_regular s.last_regular s.stub span.first span.last dates.first dates.last
    (subst (λ (d : ℤ). OnGrid s.freq s.roll span.anchor d) anchored own) spans

-- the span's first day is a boundary
pub first_is_boundary : (s : Stream) (span : Span) → DatesInOrder s → Regular s span
    → ((IsWholeTerm s.freq → ⊥) → Fits s.roll s.freq span.anchor) → IsBoundary s span span.first
first_is_boundary s span dates regular fits = elim (decides_term s.freq.unit) [
  | inl term ↦ let spans : (span.first ≡ first_day_of s) × (span.last ≡ termination_of s) = rw term at regular.spans in
      inl spans.0
  | inr timed ↦
      let part = part_of_term s span dates timed (own_grid s.freq s.roll span.anchor timed (fits timed)) regular in
      inr (inr (omega (arith, signed_arith), part.order, part.on_first))
]

-- the regular span lies in the term
pub lies_in_term : (s : Stream) (span : Span) → DatesInOrder s → Regular s span
    → ((IsWholeTerm s.freq → ⊥) → Fits s.roll s.freq span.anchor) → LiesInTerm s span
lies_in_term s span dates regular fits = elim (decides_term s.freq.unit) [
  | inl term ↦ whole_term s span dates term regular
  | inr timed ↦
      let part = part_of_term s span dates timed (own_grid s.freq s.roll span.anchor timed (fits timed)) regular in
      record { before = part.before; order = part.order; after = part.after }
]

-- the last day of the span is a boundary
pub last_is_boundary : (s : Stream) (span : Span) → DatesInOrder s → Regular s span → SpanKept s span
    → IsBoundary s span span.last
last_is_boundary s span dates regular kept = elim (decides_term s.freq.unit) [
  | inl term ↦ let spans : (span.first ≡ first_day_of s) × (span.last ≡ termination_of s) = rw term at regular.spans in
      inr (inl spans.1)
  | inr timed ↦
      let part = part_of_term s span dates timed (own_grid s.freq s.roll span.anchor timed (kept.fits timed)) regular in
      inr (inr (part.order, omega (arith, signed_arith), kept.on_last timed))
]

-- where K30 isn't broken the roll fits the anchor
pub anchor_fits : (s : Stream) → IsLawfulStream s → (RollMisfits s → ⊥) → (IsWholeTerm s.freq → ⊥)
    → Fits s.roll s.freq (anchor_of s)
anchor_fits s lawful kept timed =
    elim (decides_fits s.freq s.roll (anchor_of s) lawful.freq lawful.roll (anchor_day s lawful)) [
      | inl fits ↦ fits
      | inr not ↦ absurd (kept (record { timed = timed; misfits = not }))
    ]

module _ (s : Stream) (lawful : IsLawfulStream s) (dates : DatesInOrder s) where
  timed_span : (RollMisfits s → ⊥) → (IsWholeTerm s.freq → ⊥) → (span : Span) × Regular s span
  timed_span kept timed =
      let unit = timed_unit s.freq.unit timed in
      let a : ℤ = anchor_of s in
      let same : a ≡ given_anchor s.first_regular s.last_regular s.stub (first_day_of s) (termination_of s) =
      rw unit refl in
      let own = own_grid s.freq s.roll a timed (anchor_fits s lawful kept timed) in
      let found = given_there (OnGrid s.freq s.roll a) (first_day_of s) (termination_of s) (begins_before_end s dates)
      (λ d low high. decides_on_grid s.freq s.roll a d lawful.freq lawful.roll (anchor_day s lawful)
      (term_day s lawful d low high))
      s.first_regular s.last_regular s.stub (subst (λ (d : ℤ). OnGrid s.freq s.roll a d) same own) in (
        record { first = found.0; last = found.1; anchor = a },
        record {
          anchored = refl;
          spans = subst (λ (term : Bool). SpanBy term s.first_regular s.last_regular s.stub (OnGrid s.freq s.roll a)
              (first_day_of s) (termination_of s) found.0 found.1) (sym unit) found.2;
        },
      )

  -- a stream whose roll fits its anchor has a regular span
  pub regular_there : (RollMisfits s → ⊥) → (span : Span) × Regular s span
  regular_there kept = elim (decides_term s.freq.unit) [
    | inl term ↦ (
      record { first = first_day_of s; last = termination_of s; anchor = anchor_of s },
      record { anchored = refl; spans = rw term (refl, refl) },
    )
    | inr timed ↦ timed_span kept timed
  ]

  no_misfit : ((f : Fault) → BreaksSpan s f → ⊥) → RollMisfits s → ⊥
  no_misfit kept misfits = kept (roll_misfits s) (inl (misfits, refl))

  -- where neither K30 nor K31 is broken, a regular span is kept
  pub regular_kept : ((f : Fault) → BreaksSpan s f → ⊥) → (span : Span) → Regular s span → SpanKept s span
  regular_kept kept span regular =
      let fits : (IsWholeTerm s.freq → ⊥) → Fits s.roll s.freq span.anchor =
      λ timed. subst (Fits s.roll s.freq) (sym regular.anchored) (anchor_fits s lawful (no_misfit kept) timed) in
      let part = lies_in_term s span dates regular fits in
      let is_anchor : IsDay span.anchor = subst IsDay (sym regular.anchored) (anchor_day s lawful) in
      let is_last = last_is_day s span lawful part in
      record {
        fits = fits;
        on_last = λ timed. elim
            (decides_on_grid s.freq s.roll span.anchor span.last lawful.freq lawful.roll is_anchor is_last) [
              | inl on ↦ on
              | inr off ↦ absurd (kept (last_off_grid s)
                  (inr (record { timed = timed; span = span; regular = regular; off = off }, refl)))
            ];
      }

  -- where neither is broken there is a regular span that is kept
  pub span_there : ((f : Fault) → BreaksSpan s f → ⊥) → (span : Span) × Regular s span × SpanKept s span
  span_there kept =
      let span = regular_there (no_misfit kept) in
      (span.0, span.1, regular_kept kept span.0 span.1)
