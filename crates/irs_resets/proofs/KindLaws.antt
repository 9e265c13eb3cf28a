-- A period is of one kind.
use Rattle.std.proofs.Common.{◌≡◌, inl, inr, ℕ, ℤ, ◌<ℤ◌, refl, arith}
use Rattle.std.proofs.lemmas.Bool.{cases_eq}
use Rattle.jiff_core.proofs.SignedLemmas.{signed_arith}
use Rattle.irs_base.specs.Private.Order.{IsDecided}
use Rattle.irs_base.proofs.Decided.{order_of}
use Rattle.irs_terms.specs.declared.results.Span.{Span}
use Rattle.irs_terms.specs.declared.stream.Stream.{Stream}
use Rattle.irs_terms.specs.TermDates.{first_day_of}
use Rattle.irs_resets.specs.declared.observed.PeriodKind.{PeriodKind}
use Rattle.irs_resets.specs.declared.observed.PeriodKind.TheVariants.{InitialStub, FinalStub, FirstRegular}
use Rattle.irs_resets.specs.declared.observed.PeriodKind.TheVariants.{LaterRegular}
use Rattle.irs_resets.specs.Rates.{IsInitialStub, IsFinal, FollowsStub, IsFirstRegular, IsPeriodKind}

-- whether a number is less is decided
pub decides_less : (a b : ℤ) → IsDecided (a <ℤ b)
decides_less a b = elim (order_of a b) [
  | inl below ↦ inl below
  | inr rest ↦
      inr (λ h. elim rest [
        | inl above ↦ omega (arith, signed_arith, above, h)
        | inr same ↦
            omega (arith, signed_arith, same, h)
      ])
]

decides_both : (A B : Type 0) → IsDecided A → IsDecided B → IsDecided (A × B)
decides_both A B (inl a) (inl b) = inl (a, b)
decides_both A B (inl a) (inr not) = inr (λ h. not h.1)
decides_both A B (inr not) b = inr (λ h. not h.0)

module _ (s : Stream) (span : Span) (n i : ℕ) where
  decides_initial : IsDecided (IsInitialStub s span i)
  decides_initial =
      decides_both (first_day_of s <ℤ span.first) (i ≡ 1) (decides_less (first_day_of s) span.first) (cases_eq i 1)

  decides_final : IsDecided (IsFinal s span n i)
  decides_final =
      decides_both (span.last <ℤ s.termination.day) (i ≡ n) (decides_less span.last s.termination.day) (cases_eq i n)

  follows_by : IsDecided (first_day_of s <ℤ span.first) → IsDecided (i ≡ 1) → IsDecided (i ≡ 2)
      → IsDecided (FollowsStub s span i)
  follows_by (inl before) one (inl two) = inl (inl (before, two))
  follows_by (inl before) one (inr not) = inr (λ h. elim h [ inl x ↦ not x.1 | inr x ↦ x.0 before ])
  follows_by (inr none) (inl one) two = inl (inr (none, one))
  follows_by (inr none) (inr not) two = inr (λ h. elim h [ inl x ↦ none x.0 | inr x ↦ not x.1 ])

  decides_first : IsDecided (IsFirstRegular s span i)
  decides_first =
      decides_both (span.first <ℤ span.last) (FollowsStub s span i) (decides_less span.first span.last)
      (follows_by (decides_less (first_day_of s) span.first) (cases_eq i 1) (cases_eq i 2))

  kind_by : IsDecided (IsInitialStub s span i) → IsDecided (IsFinal s span n i) → IsDecided (IsFirstRegular s span i)
      → (k : PeriodKind) × IsPeriodKind s span n i k
  kind_by (inl initial) final first = (InitialStub, initial)
  kind_by (inr no_initial) (inl final) first = (FinalStub, (no_initial, final))
  kind_by (inr no_initial) (inr no_final) (inl first) = (FirstRegular, (no_initial, no_final, first))
  kind_by (inr no_initial) (inr no_final) (inr no_first) = (LaterRegular, (no_initial, no_final, no_first))

  -- a period is of some kind
  pub kind_there : (k : PeriodKind) × IsPeriodKind s span n i k
  kind_there = kind_by decides_initial decides_final decides_first

  -- and of no other
  pub one_kind : (k l : PeriodKind) → IsPeriodKind s span n i k → IsPeriodKind s span n i l → k ≡ l
  one_kind InitialStub InitialStub p q = refl
  one_kind InitialStub FinalStub p q = absurd (q.0 p)
  one_kind InitialStub FirstRegular p q = absurd (q.0 p)
  one_kind InitialStub LaterRegular p q = absurd (q.0 p)
  one_kind FinalStub InitialStub p q = absurd (p.0 q)
  one_kind FinalStub FinalStub p q = refl
  one_kind FinalStub FirstRegular p q = absurd (q.1 p.1)
  one_kind FinalStub LaterRegular p q = absurd (q.1 p.1)
  one_kind FirstRegular InitialStub p q = absurd (p.0 q)
  one_kind FirstRegular FinalStub p q = absurd (p.1 q.1)
  one_kind FirstRegular FirstRegular p q = refl
  one_kind FirstRegular LaterRegular p q = absurd (q.2 p.2)
  one_kind LaterRegular InitialStub p q = absurd (p.0 q)
  one_kind LaterRegular FinalStub p q = absurd (p.1 q.1)
  one_kind LaterRegular FirstRegular p q = absurd (p.2 q.2)
  one_kind LaterRegular LaterRegular p q = refl
