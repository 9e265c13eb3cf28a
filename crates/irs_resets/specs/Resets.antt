-- The resets of a stream, their dates and rules, and what the calls answer.
use Rattle.std.specs.Prelude.{◌≡◌, ℕ, ◌-◌, ◌<◌, ◌≤◌, List, length, Option, Some, None, ℤ, [], IfSome, ◌⊎◌, IsSome, ◌<ℤ◌}
use Rattle.std.specs.Prelude.{Result, Ok, Err}
use Rattle.irs_base.specs.Lists.{day_at, EachNumbered}
use Rattle.irs_terms.specs.declared.places.Rule.TheVariants.{K33, K37, K38}
use Rattle.irs_terms.specs.declared.places.Fault.{Fault}
use Rattle.irs_terms.specs.Elements.{reset_dates, fixing_dates, initial_stub, final_stub}
use Rattle.irs_base.specs.Outcomes.{Only, Spec, unless_broken}
use Rattle.irs_terms.specs.Faults.{fault_at, comes_before}
use Rattle.irs_terms.specs.declared.codes.Relative.{Relative}
use Rattle.irs_terms.specs.declared.codes.Relative.TheVariants.{Start, End}
use Rattle.irs_terms.specs.declared.dates.FixTerms.{FixTerms}
use Rattle.irs_terms.specs.declared.dates.ResetTerms.{ResetTerms}
use Rattle.irs_terms.specs.declared.amounts.FloatTerms.{FloatTerms}
use Rattle.irs_terms.specs.declared.amounts.Leg.{Leg}
use Rattle.irs_terms.specs.declared.amounts.Leg.TheVariants.{Fixed, Floating}
use Rattle.irs_terms.specs.declared.stream.Stream.{Stream}
use Rattle.irs_terms.specs.declared.results.Span.{Span}
use Rattle.irs_terms.specs.declared.results.Reset.{Reset}
use Rattle.irs_terms.specs.Lawful.{IsRate}
use Rattle.irs_terms.specs.declared.amounts.StubTerms.{StubTerms}
use Rattle.irs_terms.specs.TermDates.{first_day_of}
use Rattle.irs_calendar.specs.GoodDays.{DaySet}
use Rattle.irs_adjust.specs.MovedDays.{Adjusts, MovesAndAdjusts, LacksResult, LeavesRange}
use Rattle.irs_resets.specs.declared.dates.DateFault.{DateFault}
use Rattle.irs_resets.specs.declared.dates.DateFault.TheVariants.{NoReset, NoFixing, OutOfRange}
use Rattle.irs_resets.specs.Rates.{IsPeriodKind, IsObserved, RateTable}
use Rattle.irs_resets.specs.declared.observed.PeriodKind.{PeriodKind}
use Rattle.irs_resets.specs.FixingFiles.{IsFixingFault, IsFixingFile}
use Rattle.irs_resets.specs.declared.fixings.FixErr.{FixErr}
use Rattle.irs_resets.specs.declared.fixings.FixErr.TheVariants.{Syntax, Repeat, Memory}

-- ---- reset dates and fixing dates of the calculation periods, and how they may fail
-- Periods count from 1.

-- the days that resets are found by: the adjusted boundaries of the calculation periods, the good
-- business days of `resetDates`, and those of `fixingDates`
pub record ResetDays : Type 0 where
  pub adjusted : List ℤ
  pub reset_set : DaySet
  pub fixing_set : DaySet

-- the same from its parts
abbrev pub reset_days_by : List ℤ → DaySet → DaySet → ResetDays
reset_days_by adjusted reset_set fixing_set = record { adjusted = adjusted; reset_set = reset_set; fixing_set = fixing_set }

-- the number of a period between the boundaries a
abbrev pub IsPeriod : List ℤ → ℕ → Type 0
IsPeriod a i = (1 ≤ i) × (i < length a)

-- the adjusted start of the period, or its end
abbrev pub base_day : Relative → List ℤ → ℕ → ℤ
base_day Start a i = day_at a (i - 1)
base_day End a i = day_at a i

-- r is the reset date of period i: the adjusted start or end, adjusted again
abbrev pub ResetsOn : ResetTerms → ResetDays → ℕ → ℤ → Type 0
ResetsOn t days i r = Adjusts t.adj.code days.reset_set (base_day t.relative days.adjusted i) r

-- f is the reset date r moved by the offset, and then adjusted
abbrev pub FixesBy : FixTerms → DaySet → ℤ → ℤ → Type 0
FixesBy fix set r f = MovesAndAdjusts fix.offset fix.adj.code set r f

-- f is the fixing date of the reset date r; without `fixingDates` it is r itself
abbrev pub FixesOn : Option FixTerms → DaySet → ℤ → ℤ → Type 0
FixesOn None set r f = f ≡ r
FixesOn (Some fix) set r f = FixesBy fix set r f

-- the reset date and the fixing date of period i
pub record IsDates (t : ResetTerms) (days : ResetDays) (i : ℕ) (reset fixing : ℤ) : Type 0 where
  pub period : IsPeriod days.adjusted i
  pub resets : ResetsOn t days i reset
  pub fixes : FixesOn t.fixing days.fixing_set reset fixing

-- the fixing date of the reset date r fails in this way
abbrev pub FixFails : DateFault → FixTerms → DaySet → ℤ → Type 0
FixFails NoReset fix set r = ⊥
FixFails NoFixing fix set r = LacksResult fix.offset fix.adj.code set r
FixFails OutOfRange fix set r = LeavesRange fix.offset set r

-- a fixing date has no result
abbrev pub FixingFails : DateFault → Option FixTerms → DaySet → ℤ → Type 0
FixingFails e None set r = ⊥
FixingFails e (Some fix) set r = FixFails e fix set r

-- period i has no reset date
pub record HasNoReset (t : ResetTerms) (days : ResetDays) (i : ℕ) : Type 0 where
  pub period : IsPeriod days.adjusted i
  pub none : (r : ℤ) → ResetsOn t days i r → ⊥

-- period i has a reset date, and the fixing date of it fails in this way
pub record HasFixingFault (why : DateFault) (t : ResetTerms) (days : ResetDays) (i : ℕ) : Type 0 where
  pub period : IsPeriod days.adjusted i
  pub reset : ℤ
  pub resets : ResetsOn t days i reset
  pub fails : FixingFails why t.fixing days.fixing_set reset

-- the dates of period i fail in this way
abbrev pub DatesFail : DateFault → ResetTerms → ResetDays → ℕ → Type 0
DatesFail NoReset t days i = HasNoReset t days i
DatesFail NoFixing t days i = HasFixingFault NoFixing t days i
DatesFail OutOfRange t days i = HasFixingFault OutOfRange t days i

-- ---- the resets of a stream: one row for each calculation period of a floating stream, none for a fixed one

-- what the resets of a stream are found from, besides the rates: the stream, its regular span, and the
-- days of its resets
pub record ResetSource : Type 0 where
  pub stream : Stream
  pub span : Span
  pub days : ResetDays

-- the same from its parts
abbrev pub source_of : Stream → Span → List ℤ → DaySet → DaySet → ResetSource
source_of s span adjusted reset_set fixing_set =
    record { stream = s; span = span; days = reset_days_by adjusted reset_set fixing_set }

-- how many calculation periods there are
abbrev pub source_period_count : ResetSource → ℕ
source_period_count source = length source.days.adjusted - 1

-- what period i is
abbrev pub IsPeriodKindOf : ResetSource → ℕ → PeriodKind → Type 0
IsPeriodKindOf source i kind = IsPeriodKind source.stream source.span (source_period_count source) i kind

-- the reset of period i by the terms t of its dates: the dates, and the observed rate
pub record IsReset (source : ResetSource) (float : FloatTerms) (t : ResetTerms) (rates : RateTable) (i : ℕ)
    (row : Reset) : Type 0 where
  pub dates : IsDates t source.days i row.reset row.fixing
  pub kind : PeriodKind
  pub is_kind : IsPeriodKindOf source i kind
  pub observed : IsObserved kind float source.stream.stubs rates row.fixing row.observed

-- one reset for each period
pub record HasResets (source : ResetSource) (float : FloatTerms) (t : ResetTerms) (rates : RateTable)
    (rows : List Reset) : Type 0 where
  pub many : length rows ≡ source_period_count source
  pub each : EachNumbered (IsReset source float t rates) 1 rows

-- the resets by the leg: none of a fixed stream, one a period of a floating one
abbrev pub IsResetsOf : Leg → Option ResetTerms → ResetSource → RateTable → List Reset → Type 0
IsResetsOf (Fixed values) reset source rates rows = rows ≡ []
IsResetsOf (Floating float) None source rates rows = ⊥
IsResetsOf (Floating float) (Some t) source rates rows = HasResets source float t rates rows

-- the resets of the stream over its adjusted boundaries
abbrev pub IsResets : ResetSource → RateTable → List Reset → Type 0
IsResets source rates rows = IsResetsOf source.stream.leg source.stream.reset source rates rows

-- an observed rate is at most 10 in size
abbrev pub HasSmallRate : Reset → Type 0
HasSmallRate row = IfSome row.observed IsRate

-- ---- the rules of resets
-- A stub for which a rate is given exists (K37). Each date has a result (K33), and each offset stays in the range of
-- dates (K38).

-- a rate is given for an initial stub
abbrev pub GivesInitial : Option StubTerms → Type 0
GivesInitial None = ⊥
GivesInitial (Some stubs) = IsSome stubs.initial

-- a rate is given for a final stub
abbrev pub GivesFinal : Option StubTerms → Type 0
GivesFinal None = ⊥
GivesFinal (Some stubs) = IsSome stubs.last

-- K37: a rate is given for the initial stub, and the first calculation period doesn't begin before the
-- regular span
pub record InitialUnmet (s : Stream) (span : Span) : Type 0 where
  pub given : GivesInitial s.stubs
  pub no_stub : first_day_of s <ℤ span.first → ⊥

-- K37: a rate is given for the final stub, and the regular span doesn't end before the termination date
pub record FinalUnmet (s : Stream) (span : Span) : Type 0 where
  pub given : GivesFinal s.stubs
  pub no_stub : span.last <ℤ s.termination.day → ⊥

-- K37 is broken at the element of a stub
abbrev pub BreaksStubs : Stream → Span → Fault → Type 0
BreaksStubs s span f = (InitialUnmet s span × (f ≡ fault_at K37 initial_stub 0))
    ⊎ (FinalUnmet s span × (f ≡ fault_at K37 final_stub 0))

-- what the dates of a period break by failing so: K33 or K38, at the element of the date, with the number
-- of the period
abbrev pub date_fault : DateFault → ℕ → Fault
date_fault NoReset i = fault_at K33 reset_dates i
date_fault NoFixing i = fault_at K33 fixing_dates i
date_fault OutOfRange i = fault_at K38 fixing_dates i

-- the dates of a period break K33 or K38
pub record BreaksResetDates (t : ResetTerms) (days : ResetDays) (f : Fault) : Type 0 where
  pub number : ℕ
  pub why : DateFault
  pub fails : DatesFail why t days number
  pub is : f ≡ date_fault why number

-- without reset terms no date is required, so no rule of dates is broken
abbrev pub BreaksDatesIn : Option ResetTerms → ResetDays → Fault → Type 0
BreaksDatesIn None days f = ⊥
BreaksDatesIn (Some t) days f = BreaksResetDates t days f

-- the rules of resets that are broken
abbrev pub BreaksResets : ResetSource → Fault → Type 0
BreaksResets source f = BreaksStubs source.stream source.span f ⊎ BreaksDatesIn source.stream.reset source.days f

-- ---- what the calls of this crate answer, and what they refuse

-- the resets of a stream, or the first of K37, K33 and K38 that is broken
abbrev pub resets_of : ResetSource → RateTable → Spec (List Reset) Fault
resets_of source rates = unless_broken comes_before (BreaksResets source) (IsResets source rates)

-- the rates of a file, exactly those that its lines spell, or its first line at fault
abbrev pub fixings_of : List ℕ → Spec RateTable FixErr
fixings_of bytes = record {
  Answers = IsFixingFile bytes;
  Refuses = IsFixingFault bytes;
}

-- a reading gives a right answer, or a right refusal, or memory ran out
abbrev pub MeetsFile : Spec RateTable FixErr → Result RateTable FixErr → Type 0
MeetsFile spec (Ok table) = spec.Answers table
MeetsFile spec (Err (Syntax n)) = spec.Refuses (Syntax n)
MeetsFile spec (Err (Repeat n)) = spec.Refuses (Repeat n)
MeetsFile spec (Err Memory) = Unit {0}

-- all answers are the same in this sense and nothing is refused, or there is one refusal and no answer
pub data DeterminedUpTo {A R : Type 0} (Same : A → A → Type 0) (spec : Spec A R) : Type 0 where
  answered : (a : A) → spec.Answers a → ((b : A) → spec.Answers b → Same a b) → ((r : R) → spec.Refuses r → ⊥)
      → DeterminedUpTo Same spec
  refused : (r : R) → Only spec.Refuses r → ((a : A) → spec.Answers a → ⊥) → DeterminedUpTo Same spec
