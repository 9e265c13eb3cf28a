-- The row of a stub prints a fixing file that has exactly its rate.
use Rattle.std.proofs.Common.{◌≡◌, ℕ, ◌-◌, ◌^◌, ◌<◌, ◌≤◌, List, [], ◌∷◌, length, Option, Some, None, IfSome, Result, Ok}
use Rattle.std.proofs.Common.{Err, IfOk, sym, subst, ◌∙◌, ap, arith}
use Rattle.std.specs.Prelude.{slice_get}
use Rattle.std.proofs.lemmas.Option.{get_or_from_slice_get, slice_get_within}
use Rattle.irs_base.specs.Lists.{Every}
use Rattle.irs_terms.specs.declared.places.Broken.{Broken}
use Rattle.irs_terms.specs.Lawful.{IsLawfulStream, IsLawfulStubRate, IsLawfulStubs}
use Rattle.irs_terms.specs.declared.amounts.StubRate.{StubRate}
use Rattle.irs_terms.specs.declared.amounts.StubRate.TheVariants.{Index}
use Rattle.irs_terms.specs.declared.amounts.StubTerms.{StubTerms}
use Rattle.irs_terms.specs.declared.frequency.Frequency.{Frequency}
use Rattle.irs_schedule.specs.Parts.{KeepsBounds}
use Rattle.irs_overnight.specs.Texts.{AreKept, IsLawfulLine}
use Rattle.irs_overnight.specs.Private.Bounds.{IsInRange}
use Rattle.irs_overnight.specs.declared.derived.DerivedRow.{DerivedRow}
use Rattle.irs_overnight.proofs.FileRead.{are_fixings}
use Rattle.irs_overnight.proofs.SourceLemmas.{every_at}
use Rattle.irs_average.specs.Interpolations.{IsInterpolated, StubReadsBack, GivesOn, HasStub, IsStubAsked, Stub}
use Rattle.irs_average.specs.Interpolations.{StubAsked}
use Rattle.irs_average.specs.Private.Means.{number_on}
use Rattle.irs_average.specs.declared.stubs.Side.{Side}
use Rattle.irs_average.specs.declared.stubs.Side.TheVariants.{Initial, Last}
use Rattle.irs_average.proofs.StubLemmas.{is_with}

-- ---- the index and the tenor are lawful

lawful_given : (given : Option StubRate) (index : List ℕ) (tenor : Option Frequency) → IfSome given IsLawfulStubRate
    → given ≡ Some (Index index tenor) → IsLawfulLine index tenor
lawful_given given index tenor lawful is =
    let both : IsLawfulStubRate (Index index tenor) =
    subst (λ (o : Option StubRate). IfSome o IsLawfulStubRate) is lawful in
    record { named = both.0; lasting = both.1 }

-- what a lawful stub names makes a lawful line
pub lawful_on : (side : Side) (stubs : Option StubTerms) (index : List ℕ) (tenor : Option Frequency)
    → IfSome stubs IsLawfulStubs → GivesOn side stubs index tenor → IsLawfulLine index tenor
lawful_on side None index tenor lawful gives = absurd gives
lawful_on Initial (Some stubs) index tenor lawful gives = lawful_given stubs.initial index tenor lawful.0 gives
lawful_on Last (Some stubs) index tenor lawful gives = lawful_given stubs.last index tenor lawful.1 gives

lawful_stub : (a : StubAsked) → IsStubAsked a → (stub : Stub) → HasStub a stub
    → IsLawfulLine stub.source.index stub.tenor
lawful_stub a h stub has =
    let streams = h.lawful.2 in
    let gives = has.gives in
    let low = slice_get_within a.swap.streams (a.number - 1) gives.stream gives.at in
    let stream : IsLawfulStream gives.stream =
    subst IsLawfulStream (get_or_from_slice_get a.swap.streams (a.number - 1) gives.stream gives.stream gives.at)
    (streams (a.number - 1) gives.stream low) in
    lawful_on a.side gives.stream.stubs stub.source.index stub.tenor stream.stubs gives.gives

-- ---- one row

some_row : (x y : DerivedRow) → Some x ≡ Some y → x ≡ y
some_row x y e = cc

only : (row other : DerivedRow) (k : ℕ) → slice_get (row ∷ []) k ≡ Some other → (k ≡ 0) × (row ≡ other)
only row other k at =
    let low = slice_get_within (row ∷ []) k other at in
    let none : k ≡ 0 = omega (arith, low) in
    (none, some_row row other (subst (λ (n : ℕ). slice_get (row ∷ []) n ≡ Some other) none at))

one_kept : (row : DerivedRow) → IsInRange row → row.period < 2 ^ 32 → AreKept (row ∷ [])
one_kept row range few = record {
  days = λ k other at. (subst IsInRange (only row other k at).1 range).day;
  rates = λ k other at. (subst IsInRange (only row other k at).1 range).rate;
  periods = λ k other at. subst (λ (r : DerivedRow). r.period < 2 ^ 32) (only row other k at).1 few;
  rise = λ j k other later less at there.
      let first = (only row other j at).0 in
      let second = (only row later k there).0 in
      absurd (omega (arith, less, first, second));
}

number_few : (side : Side) (n : ℕ) → 1 ≤ n → n < 2 ^ 32 → number_on side n < 2 ^ 32
number_few Initial n some few = omega arith
number_few Last n some few = few

-- a row with a rate in range prints a fixing file that gives its rate back
pub stub_reads_back : (a : StubAsked) → IsStubAsked a → Every KeepsBounds a.parts → (row : DerivedRow)
    → IsInterpolated a row → IsInRange row → StubReadsBack a row
stub_reads_back a h bounds row is range = λ stub has.
    let keeps = every_at KeepsBounds a.parts (a.number - 1) is.has.part bounds is.has.at in
    let adjusted = keeps.adjusted in
    let few = keeps.few in
    let some = keeps.some in
    let count = length is.has.part.adjusted - 1 in
    let number : is.stub.period ≡ number_on a.side count = ap (λ (s : Stub). s.period) (is_with a is.stub is.has) in
    let short : number_on a.side count < 2 ^ 32 =
    number_few a.side count (omega (arith, adjusted, some)) (omega (arith, adjusted, few)) in
    let small : row.period < 2 ^ 32 = subst (λ (n : ℕ). n < 2 ^ 32) (sym (is.is.number ∙ number)) short in
    are_fixings stub.tenor stub.source.index (row ∷ []) (lawful_stub a h stub has) (one_kept row range small)

-- each row that is returned does so
pub read_back : (a : StubAsked) → IsStubAsked a → Every KeepsBounds a.parts → (r : Result DerivedRow Broken)
    → IfOk r (IsInterpolated a) → IfOk r IsInRange → IfOk r (StubReadsBack a)
read_back a h bounds (Ok row) is range = stub_reads_back a h bounds row is range
read_back a h bounds (Err x) is range = tt
