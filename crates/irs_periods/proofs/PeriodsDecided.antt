-- A stream has too many periods, or it breaks no rule of them.
use Rattle.std.proofs.Common.{◌≡◌, ◌⊎◌, inl, inr, ◌+◌, ◌≤◌, List, length, ℤ, refl, ap, arith}
use Rattle.std.proofs.lemmas.Bool.{cases_lt}
use Rattle.irs_base.specs.Limits.{most_periods}
use Rattle.irs_base.specs.Outcomes.{First}
use Rattle.irs_terms.specs.Faults.{comes_before}
use Rattle.irs_terms.specs.declared.places.Fault.{Fault}
use Rattle.irs_terms.proofs.FaultOrder.{fault_order, one_fault}
use Rattle.irs_base.proofs.Firsts.{first_one}
use Rattle.irs_terms.specs.Lawful.{IsLawfulStream}
use Rattle.irs_terms.specs.TermDates.{DatesInOrder}
use Rattle.irs_terms.specs.declared.results.Span.{Span}
use Rattle.irs_terms.specs.declared.stream.Stream.{Stream}
use Rattle.irs_periods.specs.Boundaries.{Boundaries, BreaksPeriods, IsBoundary, TooManyPeriods, too_many_periods}
use Rattle.irs_periods.specs.Spans.{SpanKept, Regular}
use Rattle.irs_periods.proofs.Assembled.{one_list}
use Rattle.irs_periods.proofs.BoundariesThere.{boundaries_there}

-- a stream has one list of boundaries
pub one_boundaries : (s : Stream) (span : Span) (a b : List ℤ) → Boundaries s span a → Boundaries s span b → a ≡ b
one_boundaries s span a b p q = one_list (IsBoundary s span) a b p q

-- at most one rule of the periods is the first that is broken
pub one_boundaries_rule : (s : Stream) (span : Span) (f g : Fault) → First comes_before (BreaksPeriods s span) f
    → First comes_before (BreaksPeriods s span) g → f ≡ g
one_boundaries_rule s span f g p q = one_fault (BreaksPeriods s span) f g p q

-- K32 is the one rule of the periods
pub first_too_many : (s : Stream) (span : Span) → TooManyPeriods s span
    → First comes_before (BreaksPeriods s span) too_many_periods
first_too_many s span many =
    first_one comes_before fault_order (BreaksPeriods s span) too_many_periods (many, refl) (λ f h. h.1)

-- few boundaries break no rule
pub few_unbroken : (s : Stream) (span : Span) (b : List ℤ) → Boundaries s span b → length b ≤ most_periods + 1
    → (f : Fault) → BreaksPeriods s span f → ⊥
few_unbroken s span b lists few f h =
    let counts : length h.0.list ≡ length b = ap length (one_boundaries s span h.0.list b h.0.lists lists) in
    let many = h.0.many in
    omega (arith, counts, many, few)

-- where no rule of the periods is broken there are few boundaries
pub few_boundaries : (s : Stream) (span : Span) (b : List ℤ) → Boundaries s span b
    → ((f : Fault) → BreaksPeriods s span f → ⊥) → length b ≤ most_periods + 1
few_boundaries s span b lists kept = elim (cases_lt (most_periods + 1) (length b)) [
  | inl many ↦ absurd (kept too_many_periods (record { list = b; lists = lists; many = many }, refl))
  | inr few ↦ few
]

-- there are too many periods, or no rule of them is broken
pub boundaries_decided : (s : Stream) (span : Span) → IsLawfulStream s → DatesInOrder s → Regular s span
    → SpanKept s span
    → ((f : Fault) × First comes_before (BreaksPeriods s span) f) ⊎ ((f : Fault) → BreaksPeriods s span f → ⊥)
boundaries_decided s span lawful dates regular kept =
    let found = boundaries_there s span lawful dates regular kept in
    elim (cases_lt (most_periods + 1) (length found.0)) [
      | inl many ↦
          inl (too_many_periods, first_too_many s span (record { list = found.0; lists = found.1; many = many }))
      | inr few ↦ inr (few_unbroken s span found.0 found.1 few)
    ]
