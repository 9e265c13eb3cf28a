-- The rate of a stub by two tenors of its index, and its rules.
use Rattle.std.specs.Prelude.{◌≡◌, ℕ, ◌*◌, ℤ, pos, ◌+ℤ◌, ◌⊎◌, List, Option, Some, None, ◌-ℤ◌, ◌*ℤ◌, ◌<ℤ◌, ◌≤ℤ◌, ◌-◌}
use Rattle.std.specs.Prelude.{◌≤◌, [], length, slice_get, ◌∷◌}
use Rattle.irs_base.specs.Days.{InMonth, day_in_month, month_start, IsDay}
use Rattle.irs_base.specs.Limits.{Rounded}
use Rattle.irs_base.specs.declared.rounding.Direction.TheVariants.{Nearest}
use Rattle.irs_base.specs.Lists.{day_at}
use Rattle.irs_terms.specs.Elements.{stub_amount}
use Rattle.irs_terms.specs.Faults.{fault_at, in_stream}
use Rattle.irs_terms.specs.declared.places.Broken.{Broken}
use Rattle.irs_terms.specs.declared.places.Fault.{Fault}
use Rattle.irs_terms.specs.declared.places.Rule.TheVariants.{K45, K46}
use Rattle.irs_terms.specs.declared.frequency.Frequency.{Frequency}
use Rattle.irs_terms.specs.declared.frequency.Unit.{Unit as FrequencyUnit}
use Rattle.irs_terms.specs.declared.frequency.Unit.TheVariants.{D, W, M, Y, T}
use Rattle.irs_terms.specs.Lawful.{IsLawfulSwap, IsLawfulTenor}
use Rattle.irs_terms.specs.declared.amounts.StubRate.{StubRate}
use Rattle.irs_terms.specs.declared.amounts.StubRate.TheVariants.{Index}
use Rattle.irs_terms.specs.declared.amounts.StubTerms.{StubTerms}
use Rattle.irs_terms.specs.declared.results.Span.{Span}
use Rattle.irs_terms.specs.declared.stream.Stream.{Stream}
use Rattle.irs_terms.specs.declared.stream_list.Swap.{Swap}
use Rattle.irs_calendar.specs.declared.sections.Section.{Section}
use Rattle.irs_periods.specs.Spans.{Regular}
use Rattle.irs_resets.specs.Rates.{RateTable, rate_at, IsFinal, IsInitialStub}
use Rattle.irs_rules.specs.TermsRules.{BreaksNone}
use Rattle.irs_schedule.specs.Schedules.{DatedKept, IsSchedule}
use Rattle.irs_schedule.specs.Parts.{Part}
use Rattle.irs_overnight.specs.declared.derived.DerivedRow.{DerivedRow}
use Rattle.irs_overnight.specs.declared.derived.Found.{Found}
use Rattle.irs_overnight.specs.declared.derived.Found.TheVariants.{Rate, Missing}
use Rattle.irs_overnight.specs.Overnight.{fixing_at}
use Rattle.irs_overnight.specs.Observations.{Floats}
use Rattle.irs_overnight.specs.Texts.{AreFixings}
use Rattle.irs_average.specs.declared.stubs.Side.{Side}
use Rattle.irs_average.specs.declared.stubs.Side.TheVariants.{Initial, Last}
use Rattle.irs_average.specs.Averages.{RateLiesBetween}

-- ---- the day on which a tenor ends

-- the day of the start's own number, this number of months later, or the last day of that month where it is shorter
pub record EndsMonths (start : ℤ) (months : ℕ) (end : ℤ) : Type 0 where
  pub month : ℤ
  pub in_month : InMonth start month
  pub number : ℕ
  pub numbered : start +ℤ pos 1 ≡ month_start month +ℤ pos number
  pub ends : end ≡ day_in_month number (month +ℤ pos months)

-- the day this number of units after a start; the term is no tenor and ends nowhere
abbrev pub EndsUnits : FrequencyUnit → ℤ → ℕ → ℤ → Type 0
EndsUnits D start count end = end ≡ start +ℤ pos count
EndsUnits W start count end = end ≡ start +ℤ pos (7 * count)
EndsUnits M start count end = EndsMonths start count end
EndsUnits Y start count end = EndsMonths start (12 * count) end
EndsUnits T start count end = ⊥

-- a tenor from this start ends on this day
abbrev pub EndsTenor : ℤ → Frequency → ℤ → Type 0
EndsTenor start tenor end = EndsUnits tenor.unit start tenor.count end

-- ---- the rate of a stub on the line through the rates of two tenors, in units of 10^-9

-- what the rate of a stub is worked out from: its adjusted start and end, its fixing date, its index, two tenors, and
-- the rates
pub record StubSource : Type 0 where
  pub start : ℤ
  pub end : ℤ
  pub fixing : ℤ
  pub index : List ℕ
  pub low : Frequency
  pub high : Frequency
  pub rates : RateTable

-- from the start the two tenors end on these days, both in range and the first before the second. The end is one of
-- them or lies between
pub record LiesBetween (start end : ℤ) (low high : Frequency) (near far : ℤ) : Type 0 where
  pub near_ends : EndsTenor start low near
  pub near_day : IsDay near
  pub far_ends : EndsTenor start high far
  pub far_day : IsDay far
  pub order : near <ℤ far
  pub from : near ≤ℤ end
  pub to : end ≤ℤ far

-- x is the rate at the end on the line through the rates low and high at the days near and far
pub record IsOnLine (low high : Option ℤ) (near far end x : ℤ) : Type 0 where
  pub low_rate : ℤ
  pub is_low : low ≡ Some low_rate
  pub high_rate : ℤ
  pub is_high : high ≡ Some high_rate
  pub rounded : Rounded Nearest (low_rate *ℤ (far -ℤ near) +ℤ (high_rate -ℤ low_rate) *ℤ (end -ℤ near)) (far -ℤ near) x

-- what two rates give: a rate, or the fixing date where one of them is missing
abbrev pub IsFoundBetween : Option ℤ → Option ℤ → ℤ → ℤ → ℤ → ℤ → Found → Type 0
IsFoundBetween low high near far end fixing (Rate x) = IsOnLine low high near far end x
IsFoundBetween low high near far end fixing (Missing d) = (d ≡ fixing) × ((low ≡ None) ⊎ (high ≡ None))

-- the rate of the stub's index at a tenor, on the stub's fixing date
abbrev pub tenor_rate : StubSource → Frequency → Option ℤ
tenor_rate source tenor = rate_at source.rates source.index (record { date = source.fixing; tenor = Some tenor })

-- what is found for the stub
abbrev pub IsStubFound : StubSource → ℤ → ℤ → Found → Type 0
IsStubFound source near far found =
    let low = tenor_rate source source.low in
    let high = tenor_rate source source.high in
    IsFoundBetween low high near far source.end source.fixing found

-- the row of a stub with that number
pub record IsStubRow (source : StubSource) (period : ℕ) (row : DerivedRow) : Type 0 where
  pub near : ℤ
  pub far : ℤ
  pub between : LiesBetween source.start source.end source.low source.high near far
  pub number : row.period ≡ period
  pub fixing : row.fixing ≡ source.fixing
  pub found : IsStubFound source near far row.found

-- the tenors don't end in range and in order, or the stub doesn't end on one of these days or between them
abbrev pub LiesOutside : StubSource → Type 0
LiesOutside source = (near far : ℤ) → LiesBetween source.start source.end source.low source.high near far → ⊥

-- ---- the stub of a stream on one of its two sides, and the index that is given for it

-- what is given for the stub of a side
abbrev pub given_on : Side → StubTerms → Option StubRate
given_on Initial stubs = stubs.initial
given_on Last stubs = stubs.last

-- this index and tenor are given for it, as `floatingRate`
abbrev pub GivesOn : Side → Option StubTerms → List ℕ → Option Frequency → Type 0
GivesOn side None index tenor = ⊥
GivesOn side (Some stubs) index tenor = given_on side stubs ≡ Some (Index index tenor)

-- the stream of a swap with this number, from 1, gives the index and the tenor for its stub on that side
pub record GivesIndex (swap : Swap) (number : ℕ) (side : Side) (index : List ℕ)
    (tenor : Option Frequency) : Type 0 where
  pub from_one : 1 ≤ number
  pub stream : Stream
  pub at : slice_get swap.streams (number - 1) ≡ Some stream
  pub gives : GivesOn side stream.stubs index tenor

-- period i of n is the stub on that side. It is the first one where that begins before the regular span, or the last
-- one where that ends after it
abbrev pub IsStubOn : Side → Stream → Span → ℕ → ℕ → Type 0
IsStubOn Initial s span n i = IsInitialStub s span i
IsStubOn Last s span n i = IsFinal s span n i

-- the stream of a swap by its number, the side, two tenors, the parts of a schedule, and the rates
pub record StubAsked : Type 0 where
  pub swap : Swap
  pub number : ℕ
  pub side : Side
  pub low : Frequency
  pub high : Frequency
  pub parts : List Part
  pub rates : RateTable

-- a request for a stub's rate, of these parts
abbrev pub stub_asked : Swap → ℕ → Side → Frequency → Frequency → List Part → RateTable → StubAsked
stub_asked swap number side low high parts rates =
    record { swap = swap; number = number; side = side; low = low; high = high; parts = parts; rates = rates }

-- the stream floats without calculationParameters, and both tenors count 1 to 999 of a unit other than the term. The parts are the schedule of the
-- swap without fixings, by calendars with which no rule is broken
pub record IsStubAsked (a : StubAsked) : Type 0 where
  pub lawful : IsLawfulSwap a.swap
  pub floats : Floats a.swap a.number
  pub calendars : List Section
  pub terms : BreaksNone a.swap calendars
  pub dates : DatedKept a.swap calendars []
  pub schedule : IsSchedule a.swap calendars [] a.parts
  pub low : IsLawfulTenor a.low
  pub high : IsLawfulTenor a.high

-- a stub: the number of its period, from 1, the tenor of its `floatingRate`, and what its rate is worked out from
pub record Stub : Type 0 where
  pub period : ℕ
  pub tenor : Option Frequency
  pub source : StubSource

-- period i of a stream as a source: its adjusted ends and its fixing date, with an index, two tenors and the rates
abbrev pub stub_source : Part → ℕ → List ℕ → Frequency → Frequency → RateTable → StubSource
stub_source part i index low high rates = record {
  start = day_at part.adjusted (i - 1);
  end = day_at part.adjusted i;
  fixing = fixing_at part.resets i;
  index = index;
  low = low;
  high = high;
  rates = rates;
}

-- the stream has a stub on the requested side, with a `floatingRate`
pub record HasStub (a : StubAsked) (stub : Stub) : Type 0 where
  pub gives : GivesIndex a.swap a.number a.side stub.source.index stub.tenor
  pub part : Part
  pub at : slice_get a.parts (a.number - 1) ≡ Some part
  pub span : Span
  pub regular : Regular gives.stream span
  pub is_stub : IsStubOn a.side gives.stream span (length part.adjusted - 1) stub.period
  pub is : stub.source ≡ stub_source part stub.period stub.source.index a.low a.high a.rates

-- ---- the rate of a stub by two tenors of its index, and its rules K45 and K46

-- the row of the requested stub
pub record IsInterpolated (a : StubAsked) (row : DerivedRow) : Type 0 where
  pub stub : Stub
  pub has : HasStub a stub
  pub is : IsStubRow stub.source stub.period row

-- K45: the stream has no stub on that side, or no `floatingRate` for it
abbrev pub LacksStub : StubAsked → Type 0
LacksStub a = (stub : Stub) → HasStub a stub → ⊥

-- the place of K45
abbrev pub no_stub : Fault
no_stub = fault_at K45 stub_amount 0

-- the place of K46: the number of the stub's period
abbrev pub outside_at : ℕ → Fault
outside_at period = fault_at K46 stub_amount period

-- K46: the stub is there, and doesn't end between two tenors
pub record BreaksTenors (a : StubAsked) (f : Fault) : Type 0 where
  pub stub : Stub
  pub has : HasStub a stub
  pub outside : LiesOutside stub.source
  pub is : f ≡ outside_at stub.period

-- K45, or else K46, which speaks only of a stub that is there
abbrev pub BreaksStub : StubAsked → Fault → Type 0
BreaksStub a f = (LacksStub a × (f ≡ no_stub)) ⊎ BreaksTenors a f

-- neither K45 nor K46 is broken
abbrev pub StubKept : StubAsked → Type 0
StubKept a = (f : Fault) → BreaksStub a f → ⊥

-- x is the broken rule, in the requested stream
pub record IsStubBroken (a : StubAsked) (x : Broken) : Type 0 where
  pub fault : Fault
  pub breaks : BreaksStub a fault
  pub is : x ≡ in_stream a.number fault

-- the rate of the row lies within all bounds within which the rates of the two tenors lie, and so between them
abbrev pub LiesAmongTwo : StubAsked → DerivedRow → Type 0
LiesAmongTwo a row =
    (stub : Stub) → HasStub a stub → (x low high : ℤ) → row.found ≡ Rate x →
    tenor_rate stub.source a.low ≡ Some low → tenor_rate stub.source a.high ≡ Some high →
    (least greatest : ℤ) → RateLiesBetween least greatest low → RateLiesBetween least greatest high → RateLiesBetween least greatest x

-- with the index and the tenor of the stub's `floatingRate` the row prints a fixing file that has exactly its rate
abbrev pub StubReadsBack : StubAsked → DerivedRow → Type 0
StubReadsBack a row = (stub : Stub) → HasStub a stub → AreFixings (row ∷ []) stub.tenor stub.source.index
