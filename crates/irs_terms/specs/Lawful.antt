-- Lawful terms: every value lies in the range that its element allows, and fits its leg.
use Rattle.std.specs.Prelude.{ℕ, List, [], ◌∷◌, codes, if◌then◌else◌, ◌≡◌, ◌≢◌, ◌-◌, ◌≤◌, length, get_or, All, IfSome}
use Rattle.std.specs.Prelude.{ℤ, pos, ◌≤ℤ◌, unsigned_abs, ◌⊎◌, Option, None, IsSome}
use Rattle.std.specs.List.{list_any}
use Rattle.std.specs.Str.{bytes_eq}
use Rattle.irs_base.specs.Days.{IsDay}
use Rattle.irs_base.specs.Limits.{most_centers, most_index, most_multiplier, most_name, most_notional, most_offset}
use Rattle.irs_base.specs.Limits.{most_observation_offset, most_rate, most_steps, most_streams}
use Rattle.irs_terms.specs.declared.frequency.Unit.TheVariants.{T}
use Rattle.irs_terms.specs.declared.frequency.Frequency.{Frequency}
use Rattle.irs_terms.specs.declared.codes.RollCode.{RollCode}
use Rattle.irs_terms.specs.declared.codes.RollCode.TheVariants.{Dom}
use Rattle.irs_terms.specs.declared.adjustments.Offset.{Offset}
use Rattle.irs_terms.specs.declared.adjustments.Centers.{Centers}
use Rattle.irs_terms.specs.declared.adjustments.Centers.TheVariants.{Listed}
use Rattle.irs_terms.specs.declared.adjustments.AdjustableDate.{AdjustableDate}
use Rattle.irs_terms.specs.declared.step_list.StepValues.{StepValues}
use Rattle.irs_terms.specs.declared.dates.PayTerms.{PayTerms}
use Rattle.irs_terms.specs.declared.dates.FixTerms.{FixTerms}
use Rattle.irs_terms.specs.declared.dates.ResetTerms.{ResetTerms}
use Rattle.irs_terms.specs.declared.amounts.FloatTerms.{FloatTerms}
use Rattle.irs_terms.specs.declared.amounts.Leg.{Leg}
use Rattle.irs_terms.specs.declared.amounts.Leg.TheVariants.{Fixed, Floating}
use Rattle.irs_terms.specs.declared.amounts.StubRate.{StubRate}
use Rattle.irs_terms.specs.declared.amounts.StubRate.TheVariants.{Index, Fixed as FixedStub}
use Rattle.irs_terms.specs.declared.amounts.StubTerms.{StubTerms}
use Rattle.irs_terms.specs.declared.currency.Currency.{Currency}
use Rattle.irs_terms.specs.declared.parameters.CalculationParameters.{CalculationParameters}
use Rattle.irs_terms.specs.declared.parameters.ObservationOffset.{ObservationOffset}
use Rattle.irs_terms.specs.declared.parameters.ObservationOffset.TheVariants.{Absent as NoOffset, Shift, Lookback}
use Rattle.irs_terms.specs.declared.parameters.ObservationOffset.TheVariants.{Lockout}
use Rattle.irs_terms.specs.declared.stream.Stream.{Stream}
use Rattle.irs_terms.specs.declared.stream_list.Swap.{Swap}
use Rattle.irs_terms.specs.declared.codes.CompCode.TheVariants.{Simple}
use Rattle.irs_terms.specs.declared.codes.Treatment.TheVariants.{AsIs}

-- ---- how many decimals the amounts of a currency have

-- the currencies without decimals
abbrev pub without_decimals : List (List ℕ)
without_decimals = codes "JPY" ∷ codes "KRW" ∷ codes "CLP" ∷ codes "VND" ∷ codes "ISK" ∷ []

-- the currencies with three decimals
abbrev pub with_three_decimals : List (List ℕ)
with_three_decimals = codes "BHD" ∷ codes "KWD" ∷ codes "OMR" ∷ codes "JOD" ∷ codes "TND" ∷ []

-- every other currency has two
abbrev pub decimals_of : List ℕ → ℕ
decimals_of letters =
    if list_any (bytes_eq letters) without_decimals then 0 else
    (if list_any (bytes_eq letters) with_three_decimals then 3 else 2)

-- ---- lawful terms: every value lies in the range that its element allows

-- a multiplier from 1 to 999
abbrev pub IsLawfulFrequency : Frequency → Type 0
IsLawfulFrequency f = (1 ≤ f.count) × (f.count ≤ most_multiplier)

-- a tenor is a frequency and never the term
abbrev pub IsLawfulTenor : Frequency → Type 0
IsLawfulTenor f = IsLawfulFrequency f × (f.unit ≡ T → ⊥)

-- a day number from 1 to 30
abbrev pub IsLawfulRoll : RollCode → Type 0
IsLawfulRoll (Dom n) = (1 ≤ n) × (n ≤ 30)
IsLawfulRoll _ = Unit {0}

-- -60 to 60 days
abbrev pub IsLawfulOffset : Offset → Type 0
IsLawfulOffset o = unsigned_abs o.days ≤ most_offset

-- the name of a centre: 1 to 32 bytes from `!` to `~`
abbrev pub IsLawfulName : List ℕ → Type 0
IsLawfulName name = (1 ≤ length name) × (length name ≤ most_name) × All (λ b. (33 ≤ b) × (b ≤ 126)) name

-- 1 to 16 centres
abbrev pub IsLawfulNames : List (List ℕ) → Type 0
IsLawfulNames names = (1 ≤ length names) × (length names ≤ most_centers) × All IsLawfulName names

-- at most 16 names of centres
abbrev pub IsLawfulCenters : Centers → Type 0
IsLawfulCenters (Listed names) = IsLawfulNames names
IsLawfulCenters _ = Unit {0}

-- a day of the range, with lawful centres
abbrev pub IsLawfulAdjustableDate : AdjustableDate → Type 0
IsLawfulAdjustableDate d = IsDay d.day × IsLawfulCenters d.adj.centers

-- the index of a rate: 1 to 128 bytes, none of them a control byte, and no white space at its ends
abbrev pub IsLawfulIndex : List ℕ → Type 0
IsLawfulIndex index =
    (1 ≤ length index) × (length index ≤ most_index) × All (λ b. (32 ≤ b) × (b ≢ 127)) index × (get_or index 0 0 ≢ 32)
    × (get_or index (length index - 1) 0 ≢ 32)

-- 0 to 10^13, in units of 10^-4
abbrev pub IsNotional : ℤ → Type 0
IsNotional v = (pos 0 ≤ℤ v) × (v ≤ℤ pos most_notional)

-- at most 10 in size, in units of 10^-9
abbrev pub IsRate : ℤ → Type 0
IsRate v = unsigned_abs v ≤ most_rate

-- at most 4,000 steps, each on a day, and every value in the range of its kind
abbrev pub IsLawfulValues : (ℤ → Type 0) → StepValues → Type 0
IsLawfulValues InRange values =
    InRange values.initial × (length values.steps ≤ most_steps) × All (λ s. IsDay s.day × InRange s.value) values.steps

-- payment terms whose values lie in their ranges
pub record IsLawfulPay (p : PayTerms) : Type 0 where
  pub freq : IsLawfulFrequency p.freq
  pub first : IfSome p.first IsDay
  pub last : IfSome p.last IsDay
  pub offset : IsLawfulOffset p.offset
  pub centers : IsLawfulCenters p.adj.centers

-- terms of fixing dates whose values lie in their ranges
abbrev pub IsLawfulFix : FixTerms → Type 0
IsLawfulFix f = IsLawfulOffset f.offset × IsLawfulCenters f.adj.centers

-- terms of resets whose values lie in their ranges
pub record IsLawfulReset (r : ResetTerms) : Type 0 where
  pub fixing : IfSome r.fixing IsLawfulFix
  pub freq : IsLawfulFrequency r.freq
  pub centers : IsLawfulCenters r.adj.centers

-- 1 to 30 applicable business days
abbrev pub IsObservationDays : ℕ → Type 0
IsObservationDays n = (1 ≤ n) × (n ≤ most_observation_offset)

-- the days of an observation shift, a lookback or a lockout
abbrev pub IsLawfulObservationOffset : ObservationOffset → Type 0
IsLawfulObservationOffset NoOffset = Unit {0}
IsLawfulObservationOffset (Shift n) = IsObservationDays n
IsLawfulObservationOffset (Lookback n) = IsObservationDays n
IsLawfulObservationOffset (Lockout n) = IsObservationDays n

-- parameters of daily rates whose values lie in their ranges
pub record IsLawfulParameters (p : CalculationParameters) : Type 0 where
  pub offset : IsLawfulObservationOffset p.offset
  pub centers : IsLawfulNames p.centers

-- floating terms whose values lie in their ranges; a rate is rounded to at most 9 decimals
pub record IsLawfulFloat (f : FloatTerms) : Type 0 where
  pub index : IsLawfulIndex f.index
  pub tenor : IfSome f.tenor IsLawfulTenor
  pub multiplier : IsLawfulValues IsRate f.multiplier
  pub spread : IsLawfulValues IsRate f.spread
  pub initial_rate : IfSome f.initial_rate IsRate
  pub rounding : f.rounding.places ≤ 9
  pub parameters : IfSome f.parameters IsLawfulParameters

-- a leg whose rates lie in their range
abbrev pub IsLawfulLeg : Leg → Type 0
IsLawfulLeg (Fixed values) = IsLawfulValues IsRate values
IsLawfulLeg (Floating f) = IsLawfulFloat f

-- the rate of a stub: a lawful index and tenor, or a rate in its range
abbrev pub IsLawfulStubRate : StubRate → Type 0
IsLawfulStubRate (Index index tenor) = IsLawfulIndex index × IfSome tenor IsLawfulTenor
IsLawfulStubRate (FixedStub rate) = IsRate rate

-- lawful rates of both stubs, where they are given
abbrev pub IsLawfulStubs : StubTerms → Type 0
IsLawfulStubs s = IfSome s.initial IsLawfulStubRate × IfSome s.last IsLawfulStubRate

-- three capital letters
abbrev pub IsLawfulCurrency : Currency → Type 0
IsLawfulCurrency c = All (λ b. (65 ≤ b) × (b ≤ 90)) c.letters

-- a stream whose values lie in their ranges
pub record IsLawfulStream (s : Stream) : Type 0 where
  pub effective : IsLawfulAdjustableDate s.effective
  pub first_start : IfSome s.first_start IsLawfulAdjustableDate
  pub termination : IsLawfulAdjustableDate s.termination
  pub centers : IsLawfulCenters s.period_adj.centers
  pub first_regular : IfSome s.first_regular IsDay
  pub last_regular : IfSome s.last_regular IsDay
  pub freq : IsLawfulFrequency s.freq
  pub roll : IsLawfulRoll s.roll
  pub pay : IsLawfulPay s.pay
  pub reset : IfSome s.reset IsLawfulReset
  pub notional : IsLawfulValues IsNotional s.notional
  pub currency : IsLawfulCurrency s.currency
  pub leg : IsLawfulLeg s.leg
  pub stubs : IfSome s.stubs IsLawfulStubs

-- 1 to 8 lawful streams
abbrev pub IsLawfulSwap : Swap → Type 0
IsLawfulSwap swap = (1 ≤ length swap.streams) × (length swap.streams ≤ most_streams) × All IsLawfulStream swap.streams

-- ---- what goes with a fixed rate and what with a floating one

-- a floating stream has resetDates; a fixed one has none
abbrev pub FitsResets : Leg → Option ResetTerms → Type 0
FitsResets (Fixed rates) reset = reset ≡ None
FitsResets (Floating float) reset = IsSome reset

-- a fixed stream has no rates of stubs
abbrev pub FitsStubs : Leg → Option StubTerms → Type 0
FitsStubs (Fixed rates) stubs = stubs ≡ None
FitsStubs (Floating float) stubs = Unit {0}

-- K19 isn't broken: resets and rates of stubs go with the leg
pub record FitsLeg (s : Stream) : Type 0 where
  pub resets : FitsResets s.leg s.reset
  pub stubs : FitsStubs s.leg s.stubs

-- a rate that may compound: a floating one under NegativeInterestRateMethod, and no fixed one, nor a
-- floating one under ZeroInterestRateMethod
abbrev pub MayCompound : Leg → Type 0
MayCompound (Fixed rates) = ⊥
MayCompound (Floating float) = float.treatment ≡ AsIs

-- K21 isn't broken: amounts don't compound, or their rate may
abbrev pub FitsCompounding : Stream → Type 0
FitsCompounding s = (s.compounding ≡ Simple) ⊎ MayCompound s.leg
