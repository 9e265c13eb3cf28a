-- The stub for which an index is given is there, and it is one.
use Rattle.std.proofs.Common.{◌≡◌, inl, inr, ℕ, ◌-◌, ◌≤◌, List, [], length, Option, Some, None, IsSome, Result, Ok, Err}
use Rattle.std.proofs.Common.{IfOk, IfErr, ℤ, ◌<ℤ◌, refl, sym, subst, ◌∙◌, ap, arith}
use Rattle.std.specs.Prelude.{slice_get}
use Rattle.jiff_core.proofs.SignedLemmas.{signed_arith}
use Rattle.irs_base.proofs.Decided.{order_of}
use Rattle.irs_terms.specs.Elements.{initial_stub, final_stub}
use Rattle.irs_terms.specs.Faults.{fault_at, in_stream}
use Rattle.irs_terms.specs.declared.places.Broken.{Broken}
use Rattle.irs_terms.specs.declared.places.Fault.{Fault}
use Rattle.irs_terms.specs.declared.places.Rule.TheVariants.{K37}
use Rattle.irs_terms.specs.TermDates.{first_day_of}
use Rattle.irs_terms.specs.declared.amounts.StubRate.{StubRate}
use Rattle.irs_terms.specs.declared.amounts.StubRate.TheVariants.{Index}
use Rattle.irs_terms.specs.declared.amounts.StubTerms.{StubTerms}
use Rattle.irs_terms.specs.declared.frequency.Frequency.{Frequency}
use Rattle.irs_terms.specs.declared.results.Span.{Span}
use Rattle.irs_terms.specs.declared.stream.Stream.{Stream}
use Rattle.irs_resets.specs.Resets.{IsPeriod, FinalUnmet, GivesFinal, GivesInitial, InitialUnmet}
use Rattle.irs_average.proofs.KeptResets.{no_resets_broken}
use Rattle.irs_schedule.specs.DaySets.{reset_days, stream_sets}
use Rattle.irs_schedule.specs.Schedules.{IsLayout, IsPart}
use Rattle.irs_schedule.specs.Parts.{Part}
use Rattle.irs_overnight.specs.Overnight.{OvernightAsked, IsAsked, asked}
use Rattle.irs_overnight.specs.declared.derived.DerivedRow.{DerivedRow}
use Rattle.irs_overnight.proofs.SourceLemmas.{partner, same_stream, some_part}
use Rattle.irs_average.specs.Interpolations.{BreaksStub, BreaksTenors, IsInterpolated, IsStubBroken, LiesAmongTwo}
use Rattle.irs_average.specs.Interpolations.{StubKept, outside_at, IsStubRow, StubSource, tenor_rate, GivesIndex}
use Rattle.irs_average.specs.Interpolations.{GivesOn, HasStub, IsStubAsked, IsStubOn, Stub, StubAsked, stub_source}
use Rattle.irs_average.specs.Private.Means.{number_on}
use Rattle.irs_average.specs.declared.stubs.Side.{Side}
use Rattle.irs_average.specs.declared.stubs.Side.TheVariants.{Initial, Last}
use Rattle.irs_average.proofs.LineLemmas.{one_stub_row, row_within}

-- ---- the request, as for compounded rates

-- the request, with the business days of the stream's reset dates
abbrev pub with_days : (a : StubAsked) → IsStubAsked a → OvernightAsked
with_days a h = asked a.swap a.number a.parts (reset_days h.calendars h.floats.1.stream) a.rates

-- that request is one for compounded rates
pub is_with_days : (a : StubAsked) (h : IsStubAsked a) → IsAsked (with_days a h)
is_with_days a h = record {
  lawful = h.lawful;
  floats = h.floats;
  calendars = h.calendars;
  terms = h.terms;
  dates = h.dates;
  schedule = h.schedule;
  reset_set = record { first = refl; last = refl; test = λ d inside. refl };
}

-- ---- the stub is there

given_some : (o : Option StubRate) (index : List ℕ) (tenor : Option Frequency) → o ≡ Some (Index index tenor) → IsSome o
given_some o index tenor e = subst IsSome (sym e) refl

gives_initial : (stubs : Option StubTerms) (index : List ℕ) (tenor : Option Frequency)
    → GivesOn Initial stubs index tenor → GivesInitial stubs
gives_initial None index tenor h = absurd h
gives_initial (Some stubs) index tenor h = given_some stubs.initial index tenor h

gives_final : (stubs : Option StubTerms) (index : List ℕ) (tenor : Option Frequency) → GivesOn Last stubs index tenor
    → GivesFinal stubs
gives_final None index tenor h = absurd h
gives_final (Some stubs) index tenor h = given_some stubs.last index tenor h

holds : (a b : ℤ) → ((a <ℤ b → ⊥) → ⊥) → a <ℤ b
holds a b h = elim (order_of a b) [
  | inl less ↦ less
  | inr (inl more) ↦ absurd (h (λ less. omega (arith, signed_arith, less, more)))
  | inr (inr same) ↦ absurd (h (λ less. omega (arith, signed_arith, less, same)))
]

-- no given stub is unmet
stub_on : (side : Side) (s : Stream) (span : Span) (n : ℕ) (index : List ℕ) (tenor : Option Frequency)
    → GivesOn side s.stubs index tenor → (InitialUnmet s span → ⊥) → (FinalUnmet s span → ⊥)
    → IsStubOn side s span n (number_on side n)
stub_on Initial s span n index tenor gives initial last = (
  holds (first_day_of s) span.first
      (λ none. initial (record { given = gives_initial s.stubs index tenor gives; no_stub = none })),
  refl,
)
stub_on Last s span n index tenor gives initial last = (
  holds span.last s.termination.day
      (λ none. last (record { given = gives_final s.stubs index tenor gives; no_stub = none })),
  refl,
)

-- the stub with an index
abbrev pub stub_with : StubAsked → Part → List ℕ → Option Frequency → Stub
stub_with a part index tenor =
    let period : ℕ = number_on a.side (length part.adjusted - 1) in
    record { period = period; tenor = tenor; source = stub_source part period index a.low a.high a.rates }

-- a stream with an index for its stub has the stub
pub has_stub : (a : StubAsked) → IsStubAsked a → (part : Part) → slice_get a.parts (a.number - 1) ≡ Some part
    → (index : List ℕ) (tenor : Option Frequency) → GivesIndex a.swap a.number a.side index tenor
    → HasStub a (stub_with a part index tenor)
has_stub a h part at index tenor gives =
    let sets = stream_sets h.calendars gives.stream in
    let found = partner (λ s p. IsPart (stream_sets h.calendars s) [] s p) a.swap.streams a.parts
    (a.number - 1) gives.stream h.schedule gives.at in
    let layout = found.2.layout in
    let laid : IsLayout sets gives.stream layout = found.2.is_layout in
    let kept = no_resets_broken a.swap h.calendars [] h.lawful h.terms h.dates (a.number - 1) gives.stream gives.at found.0
    found.2 in
    let initial : InitialUnmet gives.stream layout.span → ⊥ =
    λ unmet. kept (fault_at K37 initial_stub 0) (inl (inl (unmet, refl))) in
    let last : FinalUnmet gives.stream layout.span → ⊥ =
    λ unmet. kept (fault_at K37 final_stub 0) (inl (inr (unmet, refl))) in
    record {
      gives = gives;
      part = part;
      at = at;
      span = layout.span;
      regular = laid.regular;
      is_stub = stub_on a.side gives.stream layout.span (length part.adjusted - 1) index tenor gives.gives initial last;
      is = refl;
    }

-- its period is one of the stream
pub is_period : (side : Side) (adjusted : List ℤ) → 2 ≤ length adjusted
    → IsPeriod adjusted (number_on side (length adjusted - 1))
is_period Initial adjusted h = (omega arith, omega (arith, h))
is_period Last adjusted h = (omega (arith, h), omega (arith, h))

-- ---- it is one

index_of : (i j : List ℕ) (t u : Option Frequency) → Some (Index i t) ≡ Some (Index j u) → i ≡ j
index_of i j t u e = cc

tenor_of : (i j : List ℕ) (t u : Option Frequency) → Some (Index i t) ≡ Some (Index j u) → t ≡ u
tenor_of i j t u e = cc

one_given : (side : Side) (stubs : Option StubTerms) (i j : List ℕ) (t u : Option Frequency) → GivesOn side stubs i t
    → GivesOn side stubs j u → (i ≡ j) × (t ≡ u)
one_given side None i j t u p q = absurd p
one_given side (Some stubs) i j t u p q = (index_of i j t u (sym p ∙ q), tenor_of i j t u (sym p ∙ q))

one_index : (a : StubAsked) (i j : List ℕ) (t u : Option Frequency) → GivesIndex a.swap a.number a.side i t
    → GivesIndex a.swap a.number a.side j u → (i ≡ j) × (t ≡ u)
one_index a i j t u p q =
    let same = same_stream p.stream q.stream (sym p.at ∙ q.at) in
    one_given a.side q.stream.stubs i j t u (subst (λ (s : Stream). GivesOn a.side s.stubs i t) same p.gives) q.gives

numbered_on : (side : Side) (s : Stream) (span : Span) (n i : ℕ) → IsStubOn side s span n i → i ≡ number_on side n
numbered_on Initial s span n i h = h.1
numbered_on Last s span n i h = h.1

-- a stub made of its parts
abbrev stub_by : ℕ → Option Frequency → StubSource → Stub
stub_by period tenor source = record { period = period; tenor = tenor; source = source }

-- every stub is the one with its index
pub is_with : (a : StubAsked) (stub : Stub) (has : HasStub a stub)
    → stub ≡ stub_with a has.part stub.source.index stub.tenor
is_with a stub has =
    let period = numbered_on a.side has.gives.stream has.span (length has.part.adjusted - 1) stub.period has.is_stub in
    let source = has.is ∙ ap (λ (i : ℕ). stub_source has.part i stub.source.index a.low a.high a.rates) period in
    λ t. stub_by (period t) stub.tenor (source t)

-- a side of a stream has one stub
pub one_stub : (a : StubAsked) (x y : Stub) → HasStub a x → HasStub a y → x ≡ y
one_stub a x y p q =
    let same = one_index a x.source.index y.source.index x.tenor y.tenor p.gives q.gives in
    let parts = some_part p.part q.part (sym p.at ∙ q.at) in
    is_with a x p ∙ (λ t. stub_with a (parts t) (same.0 t) (same.1 t)) ∙ sym (is_with a y q)

-- the tenors of its source are those of the request
low_of : (a : StubAsked) (stub : Stub) → HasStub a stub → stub.source.low ≡ a.low
low_of a stub has = ap (λ (s : StubSource). s.low) has.is

high_of : (a : StubAsked) (stub : Stub) → HasStub a stub → stub.source.high ≡ a.high
high_of a stub has = ap (λ (s : StubSource). s.high) has.is

-- there is one row
pub one_interpolated : (a : StubAsked) (x y : DerivedRow) → IsInterpolated a x → IsInterpolated a y → x ≡ y
one_interpolated a x y p q =
    let same = one_stub a p.stub q.stub p.has q.has in
    one_stub_row q.stub.source q.stub.period x y (subst (λ (s : Stub). IsStubRow s.source s.period x) same p.is) q.is

outside_by : (a : StubAsked) (f : Fault) (b : BreaksTenors a f) (stub : Stub) → HasStub a stub
    → f ≡ outside_at stub.period
outside_by a f b stub has = b.is ∙ ap (λ (s : Stub). outside_at s.period) (one_stub a b.stub stub b.has has)

one_fault : (a : StubAsked) (f g : Fault) → BreaksStub a f → BreaksStub a g → f ≡ g
one_fault a f g (inl x) (inl y) = x.1 ∙ sym y.1
one_fault a f g (inl x) (inr y) = absurd (x.0 y.stub y.has)
one_fault a f g (inr x) (inl y) = absurd (y.0 x.stub x.has)
one_fault a f g (inr x) (inr y) = outside_by a f x y.stub y.has ∙ sym y.is

-- and one rule that is broken
pub one_stub_broken : (a : StubAsked) (x y : Broken) → IsStubBroken a x → IsStubBroken a y → x ≡ y
one_stub_broken a x y p q = p.is ∙ ap (in_stream a.number) (one_fault a p.fault q.fault p.breaks q.breaks) ∙ sym q.is

-- a row breaks no rule
pub row_keeps : (a : StubAsked) (row : DerivedRow) → IsInterpolated a row → StubKept a
row_keeps a row h f (inl lacks) = lacks.0 h.stub h.has
row_keeps a row h f (inr b) =
    let same = one_stub a h.stub b.stub h.has b.has in
    let moved : IsStubRow b.stub.source b.stub.period row =
    subst (λ (s : Stub). IsStubRow s.source s.period row) same h.is in
    b.outside moved.near moved.far moved.between

-- the rate of the row lies between those of the two tenors
pub lies_among : (a : StubAsked) (row : DerivedRow) → IsInterpolated a row → LiesAmongTwo a row
lies_among a row h stub has x low high is at_low at_high l g first second =
    let same = one_stub a h.stub stub h.has has in
    let moved : IsStubRow stub.source stub.period row =
    subst (λ (s : Stub). IsStubRow s.source s.period row) same h.is in
    row_within stub.source stub.period row x low high l g moved is
    (ap (tenor_rate stub.source) (low_of a stub has) ∙ at_low) (ap (tenor_rate stub.source) (high_of a stub has)
    ∙ at_high) first second

-- an answer that is a row or a broken rule
pub row_there : (a : StubAsked) (r : Result DerivedRow Broken) → IfOk r (IsInterpolated a) → IfErr r (IsStubBroken a)
    → StubKept a → (row : DerivedRow) × IsInterpolated a row
row_there a (Ok row) is broken kept = (row, is)
row_there a (Err x) is broken kept = absurd (kept broken.fault broken.breaks)

-- where there is a row, no rule is broken
pub row_kept : (a : StubAsked) (r : Result DerivedRow Broken) → IfOk r (IsInterpolated a) → IfOk r (λ _. StubKept a)
row_kept a (Ok row) is = row_keeps a row is
row_kept a (Err x) is = tt
