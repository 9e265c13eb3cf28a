-- What goes with calculationParameters, and which centres the calendar files have.
use Rattle.std.specs.Prelude.{◌≡◌, ℕ, List, Option, Some, None, IfSome, IsTrue, slice_get, ◌⊎◌, IsSome}
use Rattle.irs_terms.specs.declared.adjustments.AdjustableDate.{AdjustableDate}
use Rattle.irs_terms.specs.Centers.{names_by}
use Rattle.irs_terms.specs.declared.amounts.Leg.{Leg}
use Rattle.irs_terms.specs.declared.amounts.Leg.TheVariants.{Fixed, Floating}
use Rattle.irs_terms.specs.declared.amounts.StubRate.{StubRate}
use Rattle.irs_terms.specs.declared.amounts.StubRate.TheVariants.{Index, Fixed as FixedStub}
use Rattle.irs_terms.specs.declared.codes.DayCountCode.{DayCountCode}
use Rattle.irs_terms.specs.declared.codes.DayCountCode.TheVariants.{Act360, Act365Fixed}
use Rattle.irs_terms.specs.declared.frequency.Frequency.{Frequency}
use Rattle.irs_terms.specs.declared.frequency.Unit.TheVariants.{D}
use Rattle.irs_terms.specs.declared.parameters.CalculationMethod.{CalculationMethod}
use Rattle.irs_terms.specs.declared.parameters.CalculationMethod.TheVariants.{Compounding, Averaging}
use Rattle.irs_terms.specs.declared.parameters.CalculationParameters.{CalculationParameters}
use Rattle.irs_terms.specs.declared.stream.Stream.{Stream}
use Rattle.irs_terms.specs.TermDates.{ResetSuits}
use Rattle.irs_calendar.specs.declared.sections.Section.{Section}
use Rattle.irs_calendar.specs.Sections.{is_named, first_missing}

-- ---- which centres the calendar files have

-- the i-th of the names, counted from 0, is that of a section; where no days are needed there are no names
abbrev pub IsFoundAt : List Section → Option (List (List ℕ)) → ℕ → Type 0
IsFoundAt cal None i = Unit {0}
IsFoundAt cal (Some names) i = IfSome (slice_get names i) (λ name. IsTrue (is_named name cal))

-- each of the names is that of a section
abbrev pub AreFound : List Section → Option (List (List ℕ)) → Type 0
AreFound cal None = Unit {0}
AreFound cal (Some names) = first_missing cal 1 names ≡ None

-- the centres of a given firstPeriodStartDate, where its adjustments need business days
abbrev pub start_names : Option AdjustableDate → Option (List (List ℕ))
start_names None = None
start_names (Some date) = names_by date.adj

-- ---- what goes with calculationParameters, by which daily rates become the rate of a calculation period

-- 1D: the tenor of a daily rate, and the frequency at which it is reset
abbrev pub IsOneDay : Frequency → Type 0
IsOneDay f = (f.count ≡ 1) × (f.unit ≡ D)

-- the calculationParameters of a leg
abbrev pub parameters_of : Leg → Option CalculationParameters
parameters_of (Fixed rates) = None
parameters_of (Floating float) = float.parameters

-- the leg has calculationParameters
abbrev pub HasParameters : Leg → Type 0
HasParameters leg = IsSome (parameters_of leg)

-- the centres of applicableBusinessDays
abbrev pub centers_of : Option CalculationParameters → Option (List (List ℕ))
centers_of None = None
centers_of (Some parameters) = Some parameters.centers

-- the centres by which a leg has its applicable business days; none without calculationParameters
abbrev pub applicable_names : Leg → Option (List (List ℕ))
applicable_names leg = centers_of (parameters_of leg)

-- K20 isn't broken: the reset frequency is as long as the calculation frequency; with calculationParameters it
-- may be 1D
abbrev pub ResetFits : Stream → Type 0
ResetFits s = ResetSuits s ⊎ (HasParameters s.leg × IfSome s.reset (λ r. IsOneDay r.freq))

-- an indexTenor that is given is 1D
abbrev pub TenorFits : Leg → Type 0
TenorFits (Fixed rates) = Unit {0}
TenorFits (Floating float) = IsSome float.parameters → IfSome float.tenor IsOneDay

-- no initialRate is given
abbrev pub InitialRateFits : Leg → Type 0
InitialRateFits (Fixed rates) = Unit {0}
InitialRateFits (Floating float) = IsSome float.parameters → float.initial_rate ≡ None

-- compounding counts by years of 360 or of 365 days; an average is the same for every day count
abbrev pub FitsMethod : CalculationMethod → DayCountCode → Type 0
FitsMethod Compounding code = (code ≡ Act360) ⊎ (code ≡ Act365Fixed)
FitsMethod Averaging code = Unit {0}

-- the day count goes with the method
abbrev pub DayCountFits : Stream → Type 0
DayCountFits s = IfSome (parameters_of s.leg) (λ p. FitsMethod p.method s.day_count)

-- the rate of a stub, where one is given, is a number, and not that of an index (FpML stubRate, floatingRate)
abbrev pub IsStubNumber : Option StubRate → Type 0
IsStubNumber None = Unit {0}
IsStubNumber (Some (Index index tenor)) = ⊥
IsStubNumber (Some (FixedStub rate)) = Unit {0}

-- the initial stub has no rate of an index
abbrev pub InitialStubFits : Stream → Type 0
InitialStubFits s = HasParameters s.leg → IfSome s.stubs (λ stubs. IsStubNumber stubs.initial)

-- the final stub has none
abbrev pub FinalStubFits : Stream → Type 0
FinalStubFits s = HasParameters s.leg → IfSome s.stubs (λ stubs. IsStubNumber stubs.last)

-- K47 isn't broken: what is given beside calculationParameters goes with them
pub record FitsParameters (s : Stream) : Type 0 where
  pub tenor : TenorFits s.leg
  pub initial_rate : InitialRateFits s.leg
  pub day_count : DayCountFits s
  pub initial_stub : InitialStubFits s
  pub final_stub : FinalStubFits s
