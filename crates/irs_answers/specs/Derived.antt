-- What is due for the tasks that derive rates, and schedules with derived rates.
use Rattle.std.specs.Prelude.{◌≡◌, ℕ, ◌-◌, ◌≤◌, List, [], ◌∷◌, Option, Some, None, slice_get, length, ℤ}
use Rattle.irs_base.specs.Outcomes.{Only, Spec, ◌>>=◌, answer, given_by, refused_as}
use Rattle.irs_terms.specs.declared.places.Broken.{Broken}
use Rattle.irs_base.specs.Lists.{HoldsOf}
use Rattle.irs_terms.specs.declared.amounts.FloatTerms.{FloatTerms}
use Rattle.irs_terms.specs.declared.amounts.Leg.TheVariants.{Floating}
use Rattle.irs_terms.specs.declared.frequency.Frequency.{Frequency}
use Rattle.irs_terms.specs.declared.stream.Stream.{Stream}
use Rattle.irs_terms.specs.declared.stream_list.Swap.{Swap}
use Rattle.irs_terms.specs.declared.results.Reset.{Reset}
use Rattle.irs_terms.specs.declared.results.Span.{Span}
use Rattle.irs_calendar.specs.declared.sections.Section.{Section}
use Rattle.irs_periods.specs.Spans.{Regular}
use Rattle.irs_resets.specs.Rates.{RateTable, ComesFrom, IsPeriodKind, Line}
use Rattle.irs_resets.specs.FixingFiles.{IsFixingFile}
use Rattle.irs_resets.specs.Resets.{IsPeriod}
use Rattle.irs_resets.specs.declared.observed.PeriodKind.{PeriodKind}
use Rattle.irs_schedule.specs.DaySets.{reset_days}
use Rattle.irs_schedule.specs.Parts.{Part}
use Rattle.irs_schedule.specs.Schedules.{IsSchedule}
use Rattle.irs_overnight.specs.Overnight.{no_floating_stream, OvernightAsked, IsFirstDerived, IsOvernight}
use Rattle.irs_overnight.specs.Overnight.{OvernightKept, asked}
use Rattle.irs_overnight.specs.Texts.{file_text, AreFixings}
use Rattle.irs_overnight.specs.declared.derived.DerivedRow.{DerivedRow}
use Rattle.irs_overnight.specs.declared.derived.Found.{Found}
use Rattle.irs_overnight.specs.declared.derived.Found.TheVariants.{Rate, Missing}
use Rattle.irs_average.specs.Averages.{AverageAsked, AverageKept, IsAverage, IsFirstOfAverage, averaged}
use Rattle.irs_average.specs.Interpolations.{IsInterpolated, IsStubBroken, StubKept, GivesIndex, StubAsked, stub_asked}
use Rattle.irs_average.specs.Interpolations.{HasStub, Stub}
use Rattle.irs_average.specs.declared.means.Mean.{Mean}
use Rattle.irs_average.specs.declared.stubs.Side.{Side}
use Rattle.irs_answers.specs.Messages.{Answer, broken_rule, keeping}

-- ---- what is due for the tasks that derive rates for a floating stream: their own rules, then a fixing file

-- a stream, and what it pays floating
pub record FloatingStream : Type 0 where
  pub stream : Stream
  pub float : FloatTerms

-- the swap has it as the stream with that number, from 1, and it has no calculationParameters
pub record IsFloatingAt (swap : Swap) (number : ℕ) (x : FloatingStream) : Type 0 where
  pub from_one : 1 ≤ number
  pub at : slice_get swap.streams (number - 1) ≡ Some x.stream
  pub pays : x.stream.leg ≡ Floating x.float
  pub plain : x.float.parameters ≡ None

-- the stream with that number; or K40 where the swap has no such stream, or it is fixed, or it has calculationParameters
abbrev pub floating_of : Swap → ℕ → Spec FloatingStream Broken
floating_of swap number = record {
  Answers = IsFloatingAt swap number;
  Refuses = λ b. ((x : FloatingStream) → IsFloatingAt swap number x → ⊥) × (b ≡ no_floating_stream number);
}

-- status 0, with the only list of rows as a fixing file of the stream's own index and tenor
abbrev pub printed : (List DerivedRow → Type 0) → FloatTerms → Spec Answer Answer
printed P float = do
  rows ← given_by (Only P)
  answer (0, file_text rows float.tenor float.index)

-- K41 to K44, then the rates that daily rates give
abbrev pub compounded_of : OvernightAsked → FloatTerms → Spec Answer Answer
compounded_of a float = do
  kept ← refused_as broken_rule (keeping (OvernightKept a) (IsFirstDerived a))
  printed (IsOvernight a) float

-- what is due for daily rates of the stream with that number
abbrev pub overnight_of : ℕ → Swap → List Section → RateTable → List Part → Spec Answer Answer
overnight_of number swap cal rates parts = do
  x ← refused_as broken_rule (floating_of swap number)
  compounded_of (asked swap number parts (reset_days cal x.stream) rates) x.float

-- K41 and K43, then the averages
abbrev pub averaged_of : AverageAsked → FloatTerms → Spec Answer Answer
averaged_of a float = do
  kept ← refused_as broken_rule (keeping (AverageKept a) (IsFirstOfAverage a))
  printed (IsAverage a) float

-- what is due for averages of the stream with that number
abbrev pub average_of : ℕ → Mean → ℕ → Swap → List Section → RateTable → List Part → Spec Answer Answer
average_of number mean step swap cal rates parts = do
  x ← refused_as broken_rule (floating_of swap number)
  averaged_of (averaged (asked swap number parts (reset_days cal x.stream) rates) mean step) x.float

-- status 0, with the row as a fixing file of the index and the tenor of the stub's `floatingRate`
abbrev pub PrintsStub : StubAsked → DerivedRow → Answer → Type 0
PrintsStub a row x =
    (index : List ℕ) × ((tenor : Option Frequency) × GivesIndex a.swap a.number a.side index tenor
    × (x ≡ (0, file_text (row ∷ []) tenor index)))

-- K45 and K46, then the only row of the stub
abbrev pub stub_of : StubAsked → Spec Answer Answer
stub_of a = do
  kept ← refused_as broken_rule (keeping (StubKept a) (IsStubBroken a))
  row ← given_by (Only (IsInterpolated a))
  given_by (PrintsStub a row)

-- what is due for the stub of the stream with that number
abbrev pub interpolate_of : ℕ → Side → Frequency → Frequency → Swap → RateTable → List Part → Spec Answer Answer
interpolate_of number side low high swap rates parts = do
  x ← refused_as broken_rule (floating_of swap number)
  stub_of (stub_asked swap number side low high parts rates)

-- ---- a schedule made with derived rates
-- `overnight`, `average` and `interpolate` print a fixing file, and the schedule is made with this file alone.

-- the rate that was found; none where it is missing
abbrev pub found_rate : Found → Option ℤ
found_rate (Rate x) = Some x
found_rate (Missing d) = None

-- the observed rate of period i of n periods comes from the line of this index and tenor
pub record ComesFromLine (x : FloatingStream) (n i : ℕ) (index : List ℕ) (tenor : Option Frequency) : Type 0 where
  pub span : Span
  pub regular : Regular x.stream span
  pub kind : PeriodKind
  pub is_kind : IsPeriodKind x.stream span n i kind
  pub comes_from : ComesFrom kind x.float x.stream.stubs (Line index tenor)

-- in the part the period of the row has the row's fixing date. Its observed rate is the row's, and none where that is
-- missing
pub record HasRateOf (row : DerivedRow) (p : Part) : Type 0 where
  pub reset : Reset
  pub at : slice_get p.resets (row.period - 1) ≡ Some reset
  pub fixing : reset.fixing ≡ row.fixing
  pub observed : reset.observed ≡ found_rate row.found

-- in the part period i has the rate of its row
pub record HasRowRate (rows : List DerivedRow) (p : Part) (i : ℕ) : Type 0 where
  pub row : DerivedRow
  pub at : slice_get rows (i - 1) ≡ Some row
  pub number : row.period ≡ i
  pub has : HasRateOf row p

-- in the part each period has the rate of its row, if its observed rate comes from the stream's own index and tenor
abbrev pub HasRowRates : FloatingStream → List DerivedRow → Part → Type 0
HasRowRates x rows p =
    (i : ℕ) → IsPeriod p.adjusted i
    → ComesFromLine x (length p.adjusted - 1) i x.float.index x.float.tenor → HasRowRate rows p i

-- the parts are a schedule of the swap, made with the fixing file that has this text
pub record IsMadeWith (swap : Swap) (cal : List Section) (text : List ℕ) (parts : List Part) : Type 0 where
  pub table : RateTable
  pub file : IsFixingFile text table
  pub schedule : IsSchedule swap cal table parts

-- in each schedule of the swap that is made with that file, P holds of the part of the stream with that number
abbrev pub HoldsWith : Swap → List Section → ℕ → List ℕ → (Part → Type 0) → Type 0
HoldsWith swap cal number text P = (parts : List Part) → IsMadeWith swap cal text parts → HoldsOf P parts number

-- The rates that daily rates give for the stream with that number are used. That is so if no rule is broken, and if
-- they print a fixing file that has exactly their rates.
abbrev pub OvernightIsUsed : Swap → List Section → List Part → ℕ → FloatingStream → RateTable → Type 0
OvernightIsUsed swap cal parts number x rates =
    let a : OvernightAsked = asked swap number parts (reset_days cal x.stream) rates in
    (rows : List DerivedRow) → OvernightKept a → IsOvernight a rows → AreFixings rows x.float.tenor x.float.index
    → HoldsWith swap cal number (file_text rows x.float.tenor x.float.index) (HasRowRates x rows)

-- so are averages
abbrev pub AverageIsUsed : Swap → List Section → List Part → ℕ → FloatingStream → RateTable → Mean → ℕ → Type 0
AverageIsUsed swap cal parts number x rates mean step =
    let a : AverageAsked = averaged (asked swap number parts (reset_days cal x.stream) rates) mean step in
    (rows : List DerivedRow) → AverageKept a → IsAverage a rows → AreFixings rows x.float.tenor x.float.index
    → HoldsWith swap cal number (file_text rows x.float.tenor x.float.index) (HasRowRates x rows)

-- so is the rate of a stub: the stub's period has it
abbrev pub StubIsUsed : Swap → List Section → List Part → ℕ → RateTable → Side → Frequency → Frequency → Type 0
StubIsUsed swap cal parts number rates side low high =
    let a : StubAsked = stub_asked swap number side low high parts rates in
    (row : DerivedRow) (stub : Stub) → IsInterpolated a row → HasStub a stub
    → AreFixings (row ∷ []) stub.tenor stub.source.index
    → HoldsWith swap cal number (file_text (row ∷ []) stub.tenor stub.source.index) (HasRateOf row)
