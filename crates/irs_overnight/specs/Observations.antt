-- The observations of a calculation period, their factors, and the rate that is found.
use Rattle.std.specs.Prelude.{◌≡◌, ℕ, ◌-◌, ◌≤◌, List, Option, Some, None, ℤ, slice_get, ◌⊎◌, ◌<ℤ◌, ◌+◌, ◌==◌, [], ◌∷◌}
use Rattle.std.specs.Prelude.{length, ◌-ℤ◌, slice_index_or, if◌then◌else◌, ◌^◌, ◌<◌, take, pos, ◌+ℤ◌, ◌*ℤ◌}
use Rattle.std.specs.Prelude.{unsigned_abs}
use Rattle.irs_base.specs.Lists.{Lists, EachNumbered, day_at}
use Rattle.irs_base.specs.Limits.{most_rate, Rounded}
use Rattle.irs_base.specs.declared.rounding.Direction.TheVariants.{Nearest}
use Rattle.irs_terms.specs.declared.amounts.FloatTerms.{FloatTerms}
use Rattle.irs_terms.specs.declared.amounts.Leg.TheVariants.{Floating}
use Rattle.irs_terms.specs.declared.codes.DayCountCode.{DayCountCode}
use Rattle.irs_terms.specs.declared.codes.DayCountCode.TheVariants.{OneOne, ActActIsda, Act365Fixed, Act360, Thirty360}
use Rattle.irs_terms.specs.declared.codes.DayCountCode.TheVariants.{ThirtyE360, ThirtyE360Isda}
use Rattle.irs_terms.specs.declared.frequency.Frequency.{Frequency}
use Rattle.irs_terms.specs.declared.stream.Stream.{Stream}
use Rattle.irs_terms.specs.declared.stream_list.Swap.{Swap}
use Rattle.irs_calendar.specs.GoodDays.{DaySet, IsGood, Prev}
use Rattle.irs_resets.specs.Rates.{RateTable, rate_at}
use Rattle.irs_observed.specs.ObservedRates.{one_day, unit_rate}
use Rattle.irs_observed.specs.Observations.{LeavesCover}
use Rattle.irs_overnight.specs.declared.observations.Observation.{Observation}
use Rattle.irs_overnight.specs.declared.derived.Found.{Found}
use Rattle.irs_overnight.specs.declared.derived.Found.TheVariants.{Rate, Missing}
use Rattle.irs_overnight.specs.declared.periods.PeriodFault.{PeriodFault}
use Rattle.irs_overnight.specs.declared.periods.PeriodFault.TheVariants.{NoDays, OutOfRange}

-- ---- what daily rates are compounded from

-- the swap has a stream with that number, from 1, and it pays this floating rate, without calculationParameters
pub record PaysFloating (swap : Swap) (number : ℕ) (float : FloatTerms) : Type 0 where
  pub from_one : 1 ≤ number
  pub stream : Stream
  pub at : slice_get swap.streams (number - 1) ≡ Some stream
  pub pays : stream.leg ≡ Floating float
  pub plain : float.parameters ≡ None

-- the swap has a stream with that number, and it floats without calculationParameters
abbrev pub Floats : Swap → ℕ → Type 0
Floats swap number = (float : FloatTerms) × PaysFloating swap number float

-- the rates of an index and tenor, by the day on which they were observed
pub record RateLines : Type 0 where
  pub rates : RateTable
  pub index : List ℕ
  pub tenor : Option Frequency

-- the rate of that day; a line that isn't there has none
abbrev pub rate_by : RateLines → ℤ → Option ℤ
rate_by lines d = rate_at lines.rates lines.index (record { date = d; tenor = lines.tenor })

-- the days of the year by which simple interest is counted, of ACT/360 and ACT/365.FIXED
abbrev pub basis_of : DayCountCode → Option ℕ
basis_of OneOne = None
basis_of ActActIsda = None
basis_of Act365Fixed = Some 365
basis_of Act360 = Some 360
basis_of Thirty360 = None
basis_of ThirtyE360 = None
basis_of ThirtyE360Isda = None

-- the daily rates of an index
abbrev pub daily_lines : RateTable → List ℕ → RateLines
daily_lines rates index = record { rates = rates; index = index; tenor = Some one_day }

-- ---- the days of a calculation period from which daily rates hold

-- a daily rate holds from the first day s of the period, and from each business day after s and before its end e
abbrev pub Starts : DaySet → ℤ → ℤ → ℤ → Type 0
Starts set s e d = (d ≡ s) ⊎ ((s <ℤ d) × (d <ℤ e) × IsGood set d)

-- these days in order
abbrev pub AreStarts : DaySet → ℤ → ℤ → List ℤ → Type 0
AreStarts set s e u = Lists (Starts set s e) u

-- there is no business day at or before s in the cover, or a day of the period lies outside the cover
abbrev pub LacksDays : DaySet → ℤ → ℤ → Type 0
LacksDays set s e = LeavesCover set s e ⊎ ((q : ℤ) → Prev set s q → ⊥)

-- ---- the observations of a calculation period: each daily rate with the days for which it holds

-- the start after the one at place k, counted from 0, or the end after the last
abbrev pub next_start : List ℤ → ℤ → ℕ → ℤ
next_start u e k = slice_index_or u (k + 1) e

-- the rate that holds from the first start was observed on the day q, every later one on its start
abbrev pub observed_on : ℤ → List ℤ → ℕ → ℤ
observed_on q u k = if k == 0 then q else day_at u k

-- o is the observation of the start at place k: its weight is the number of days to the next start
abbrev pub IsRateObservation : RateLines → ℤ → List ℤ → ℤ → ℕ → Observation → Type 0
IsRateObservation lines q u e k o =
    o ≡ record {
      day = observed_on q u k;
      weight = next_start u e k -ℤ day_at u k;
      rate =
          rate_by lines (observed_on q u k);
    }

-- one observation for each start
pub record AreRatesObserved (lines : RateLines) (q : ℤ) (u : List ℤ) (e : ℤ) (os : List Observation) : Type 0 where
  pub many : length os ≡ length u
  pub each : EachNumbered (IsRateObservation lines q u e) 0 os

-- the observations of the period from s to e: the first on the last business day at or before s
pub record AreRateObservations (lines : RateLines) (set : DaySet) (s e : ℤ) (os : List Observation) : Type 0 where
  pub starts : List ℤ
  pub are_starts : AreStarts set s e starts
  pub first : ℤ
  pub previous : Prev set s first
  pub observed : AreRatesObserved lines first starts e os

-- this day where it has no rate, else what is found later
abbrev pub absent_or : Option ℤ → ℤ → Option ℤ → Option ℤ
absent_or None d later = Some d
absent_or (Some rate) d later = later

-- the day of the first observation without a rate
abbrev pub first_absent : List Observation → Option ℤ
first_absent [] = None
first_absent (o ∷ os) = absent_or o.rate o.day (first_absent os)

-- ---- daily rates compounded: the factors, in units of 10^-15, and the rate for the period, in units of 10^-9
-- The product and its rounding are our rule.

-- the factor 1
abbrev pub derived_one : ℤ
derived_one = pos (10 ^ 15)

-- no factor is greater in size
abbrev pub most_factor : ℕ
most_factor = 10 ^ 20

-- the factor f becomes g by simple interest at the rate over its days, by a year of basis days
pub record DerivedGrowsBy (basis : ℕ) (o : Observation) (f g : ℤ) : Type 0 where
  pub rate : ℤ
  pub observed : o.rate ≡ Some rate
  pub rounded : Rounded Nearest (f *ℤ (unit_rate basis +ℤ rate *ℤ o.weight)) (unit_rate basis) g

-- the factor f becomes g through the observations, one after another
abbrev pub DerivedGrows : ℕ → List Observation → ℤ → ℤ → Type 0
DerivedGrows basis [] f g = g ≡ f
DerivedGrows basis (o ∷ os) f g = (h : ℤ) × DerivedGrowsBy basis o f h × DerivedGrows basis os h g

-- g is the factor after the first observations
abbrev pub DerivedReaches : ℕ → List Observation → ℕ → ℤ → Type 0
DerivedReaches basis os count g = DerivedGrows basis (take count os) derived_one g

-- a factor passes its limit
pub record DerivedFactorPasses (basis : ℕ) (os : List Observation) : Type 0 where
  pub count : ℕ
  pub within : count ≤ length os
  pub factor : ℤ
  pub reaches : DerivedReaches basis os count factor
  pub passes : most_factor < unsigned_abs factor

-- x is the rate that gives the last factor by simple interest over the days of the period
pub record IsDerivedRate (basis : ℕ) (days : ℤ) (os : List Observation) (x : ℤ) : Type 0 where
  pub factor : ℤ
  pub grows : DerivedGrows basis os derived_one factor
  pub rounded : Rounded Nearest ((factor -ℤ derived_one) *ℤ pos basis) (pos (10 ^ 6) *ℤ days) x

-- the rate passes 10 in size
pub record RatePasses (basis : ℕ) (days : ℤ) (os : List Observation) : Type 0 where
  pub rate : ℤ
  pub is_compounded : IsDerivedRate basis days os rate
  pub passes : most_rate < unsigned_abs rate

-- every daily rate is there, and a factor or the rate passes its limit
pub record DerivedPassesLimit (basis : ℕ) (days : ℤ) (os : List Observation) : Type 0 where
  pub known : first_absent os ≡ None
  pub passes : DerivedFactorPasses basis os ⊎ RatePasses basis days os

-- ---- what is found for a calculation period: its rate, or the first day whose daily rate is missing; and how it fails

-- what observations of a period of this number of days give, by a year of `basis` days
abbrev pub IsFound : ℕ → ℤ → List Observation → Found → Type 0
IsFound basis days os (Rate x) = IsDerivedRate basis days os x
IsFound basis days os (Missing d) = first_absent os ≡ Some d

-- a period from s to e: its daily rates, and the days of the year by which they count
pub record DailyPeriod : Type 0 where
  pub basis : ℕ
  pub lines : RateLines
  pub days : DaySet
  pub start : ℤ
  pub end : ℤ

-- the period from one day to another, by these daily rates
abbrev pub derived_period : ℕ → RateLines → DaySet → ℤ → ℤ → DailyPeriod
derived_period basis lines days start end = record { basis = basis; lines = lines; days = days; start = start; end = end }

-- what its daily rates give
pub record FindsRate (p : DailyPeriod) (found : Found) : Type 0 where
  pub observations : List Observation
  pub are : AreRateObservations p.lines p.days p.start p.end observations
  pub is : IsFound p.basis (p.end -ℤ p.start) observations found

-- its daily rates are there, and a factor or the rate passes its limit
pub record PassesRange (p : DailyPeriod) : Type 0 where
  pub observations : List Observation
  pub are : AreRateObservations p.lines p.days p.start p.end observations
  pub passes : DerivedPassesLimit p.basis (p.end -ℤ p.start) observations

-- the period fails in this way
abbrev pub PeriodFails : PeriodFault → DailyPeriod → Type 0
PeriodFails NoDays p = LacksDays p.days p.start p.end
PeriodFails OutOfRange p = PassesRange p
