-- Rates by index, date and tenor, and the observed rate of a calculation period.
use Rattle.std.specs.Prelude.{◌≡◌, ℕ, Bool, true, false, ◌&&◌, ◌==◌, Option, Some, None, ℤ, List, [], ◌∷◌, IfSome, ◌⊎◌}
use Rattle.std.specs.Prelude.{◌<ℤ◌}
use Rattle.std.specs.Ordering.{int_eq}
use Rattle.std.specs.Map.{lookup}
use Rattle.std.specs.Str.{bytes_eq}
use Rattle.std.specs.declared.vec.Vec.{Vec}
use Rattle.irs_terms.specs.declared.frequency.Unit.{Unit as FrequencyUnit}
use Rattle.irs_terms.specs.declared.frequency.Unit.TheVariants.{D, W, M, Y, T}
use Rattle.irs_terms.specs.Lawful.{IsRate}
use Rattle.irs_terms.specs.declared.frequency.Frequency.{Frequency}
use Rattle.irs_terms.specs.declared.amounts.FloatTerms.{FloatTerms}
use Rattle.irs_terms.specs.declared.amounts.StubRate.{StubRate}
use Rattle.irs_terms.specs.declared.amounts.StubRate.TheVariants.{Index, Fixed}
use Rattle.irs_terms.specs.declared.amounts.StubTerms.{StubTerms}
use Rattle.irs_terms.specs.declared.results.Span.{Span}
use Rattle.irs_terms.specs.declared.stream.Stream.{Stream}
use Rattle.irs_terms.specs.TermDates.{first_day_of}
use Rattle.irs_resets.specs.declared.store.Slot.{Slot}
use Rattle.irs_resets.specs.declared.observed.PeriodKind.{PeriodKind}
use Rattle.irs_resets.specs.declared.observed.PeriodKind.TheVariants.{InitialStub, FinalStub, FirstRegular}
use Rattle.irs_resets.specs.declared.observed.PeriodKind.TheVariants.{LaterRegular}

-- ---- rates by index, date and tenor

-- the units are the same; 12M isn't 1Y
abbrev pub is_unit : FrequencyUnit → FrequencyUnit → Bool
is_unit D D = true
is_unit W W = true
is_unit M M = true
is_unit Y Y = true
is_unit T T = true
is_unit a b = false

-- the same number of the same unit, so that 12M isn't 1Y
abbrev pub is_tenor : Option Frequency → Option Frequency → Bool
is_tenor None None = true
is_tenor (Some a) (Some b) = (a.count == b.count) && is_unit a.unit b.unit
is_tenor _ _ = false

-- the same date and tenor
abbrev pub is_slot : Slot → Slot → Bool
is_slot a b = int_eq a.date b.date && is_tenor a.tenor b.tenor

-- rates by date and tenor
abbrev pub SlotRates : Type 0
SlotRates = List (Slot × ℤ)

-- rates by index, and for each index by date and tenor
abbrev pub RateTable : Type 0
RateTable = List (List ℕ × SlotRates)

-- the rate of a tenor and a date among those of an index
abbrev pub rate_of : Option SlotRates → Slot → Option ℤ
rate_of None slot = None
rate_of (Some rates) slot = lookup (is_slot slot) rates

-- the rate of an index at a date and tenor; the index is compared by its bytes
abbrev pub rate_at : RateTable → List ℕ → Slot → Option ℤ
rate_at table index slot = rate_of (lookup (bytes_eq index) table) slot

-- two tables have the same rates
abbrev pub SameRates : RateTable → RateTable → Type 0
SameRates a b = (index : List ℕ) (slot : Slot) → rate_at a index slot ≡ rate_at b index slot

-- each key as its bytes
abbrev pub by_bytes : {Y X : Type 0} → List (Vec ℕ Y × X) → List (List ℕ × X)
by_bytes [] = []
by_bytes (e ∷ es) = (e.0.items, e.1) ∷ by_bytes es

-- where nothing is kept there are no rates
abbrev pub or_empty : Option RateTable → RateTable
or_empty None = []
or_empty (Some table) = table

-- each rate is at most 10 in size
abbrev pub AreSmall : RateTable → Type 0
AreSmall table = (index : List ℕ) (slot : Slot) → IfSome (rate_at table index slot) IsRate

-- each rate of an index is at most 10 in size
abbrev pub AreSmallOf : Option SlotRates → Type 0
AreSmallOf rates = (slot : Slot) → IfSome (rate_of rates slot) IsRate

-- ---- the observed rate of a calculation period
-- Periods count from 1.

-- ---- what a period is

-- period i is the initial stub: the first one, where it begins before the regular span
abbrev pub IsInitialStub : Stream → Span → ℕ → Type 0
IsInitialStub s span i = (first_day_of s <ℤ span.first) × (i ≡ 1)

-- period i of n is the final stub: the last one, where it ends after the regular span
abbrev pub IsFinal : Stream → Span → ℕ → ℕ → Type 0
IsFinal s span n i = (span.last <ℤ s.termination.day) × (i ≡ n)

-- i is the number of the period after the initial stub, or 1 where there is none
abbrev pub FollowsStub : Stream → Span → ℕ → Type 0
FollowsStub s span i = ((first_day_of s <ℤ span.first) × (i ≡ 2)) ⊎ ((first_day_of s <ℤ span.first → ⊥) × (i ≡ 1))

-- period i is the first of a regular span that isn't empty
abbrev pub IsFirstRegular : Stream → Span → ℕ → Type 0
IsFirstRegular s span i = (span.first <ℤ span.last) × FollowsStub s span i

-- what period i of n is: a stub before all else
abbrev pub IsPeriodKind : Stream → Span → ℕ → ℕ → PeriodKind → Type 0
IsPeriodKind s span n i InitialStub = IsInitialStub s span i
IsPeriodKind s span n i FinalStub = (IsInitialStub s span i → ⊥) × IsFinal s span n i
IsPeriodKind s span n i FirstRegular = (IsInitialStub s span i → ⊥) × (IsFinal s span n i → ⊥) × IsFirstRegular s span i
IsPeriodKind s span n i LaterRegular = (IsInitialStub s span i → ⊥) × (IsFinal s span n i → ⊥) × (IsFirstRegular s span i → ⊥)

-- ---- where its rate comes from

-- a rate that the terms state, or the line of an index and tenor
pub data RateSource : Type 0 where
  Stated : ℤ → RateSource
  Line : List ℕ → Option Frequency → RateSource

-- the rate or index that is given for the stub that the period is
abbrev pub GivesStub : PeriodKind → Option StubTerms → StubRate → Type 0
GivesStub kind None given = ⊥
GivesStub kind (Some stubs) given =
    ((kind ≡ InitialStub) × (stubs.initial ≡ Some given)) ⊎ ((kind ≡ FinalStub) × (stubs.last ≡ Some given))

-- where the rate of a period of that kind comes from
pub data ComesFrom (kind : PeriodKind) (float : FloatTerms) (stubs : Option StubTerms) : RateSource → Type 0 where
  -- a stub's own rate
  own_rate : (rate : ℤ) → GivesStub kind stubs (Fixed rate) → ComesFrom kind float stubs (Stated rate)
  -- a stub's own index, and no other where that has no line
  own_index : (index : List ℕ) (tenor : Option Frequency) → GivesStub kind stubs (Index index tenor)
      → ComesFrom kind float stubs (Line index tenor)
  -- the initial rate of the first regular period
  initial_rate : (rate : ℤ) → kind ≡ FirstRegular → float.initial_rate ≡ Some rate
      → ComesFrom kind float stubs (Stated rate)
  -- else the index of the stream
  stream_index : ((given : StubRate) → GivesStub kind stubs given → ⊥)
      → (kind ≡ FirstRegular → float.initial_rate ≡ None) → ComesFrom kind float stubs (Line float.index float.tenor)

-- the rate of that source on the fixing date d; a line that isn't there has none
abbrev pub rate_from : RateSource → RateTable → ℤ → Option ℤ
rate_from (Stated rate) rates d = Some rate
rate_from (Line index tenor) rates d = rate_at rates index (record { date = d; tenor = tenor })

-- the observed rate of a period of that kind with the fixing date d
pub record IsObserved (kind : PeriodKind) (float : FloatTerms) (stubs : Option StubTerms) (rates : RateTable) (d : ℤ)
    (rate : Option ℤ) : Type 0 where
  pub source : RateSource
  pub comes_from : ComesFrom kind float stubs source
  pub is : rate ≡ rate_from source rates d
