-- The averages of a stream of a swap, and their rules.
use Rattle.std.specs.Prelude.{◌≡◌, ◌↔◌, ℕ, ◌+◌, ◌*◌, ◌<◌, nat_lt, if◌then◌else◌, List, length, ℤ, pos, ◌+ℤ◌, ◌-ℤ◌, ◌<ℤ◌}
use Rattle.std.specs.Prelude.{[], ◌∷◌, None, IfSome, All, unwrap_or, ◌*ℤ◌, ◌≤ℤ◌, Some, ◌-◌, ◌⊎◌, ◌≤◌, slice_get}
use Rattle.irs_base.specs.Lists.{EachNumbered, day_at}
use Rattle.irs_base.specs.Limits.{Rounded}
use Rattle.irs_base.specs.declared.rounding.Direction.TheVariants.{Nearest}
use Rattle.irs_terms.specs.Elements.{reset_dates}
use Rattle.irs_base.specs.Outcomes.{First}
use Rattle.irs_terms.specs.Faults.{fault_at, in_stream}
use Rattle.irs_terms.specs.declared.places.Fault.{Fault}
use Rattle.irs_terms.specs.declared.places.Rule.TheVariants.{K43}
use Rattle.irs_terms.specs.declared.places.Broken.{Broken}
use Rattle.irs_terms.specs.declared.amounts.FloatTerms.{FloatTerms}
use Rattle.irs_terms.specs.declared.results.Reset.{Reset}
use Rattle.irs_calendar.specs.GoodDays.{DaySet, Prev}
use Rattle.irs_resets.specs.Rates.{RateTable}
use Rattle.irs_resets.specs.Resets.{IsPeriod}
use Rattle.irs_schedule.specs.Parts.{Part}
use Rattle.irs_overnight.specs.Observations.{RateLines, rate_by, first_absent, PaysFloating}
use Rattle.irs_overnight.specs.declared.observations.Observation.{Observation}
use Rattle.irs_overnight.specs.declared.derived.Found.{Found}
use Rattle.irs_overnight.specs.declared.derived.Found.TheVariants.{Rate, Missing}
use Rattle.irs_overnight.specs.Overnight.{fixing_at, FixingNotAfter, fixing_not_after_at, derived_before}
use Rattle.irs_overnight.specs.Overnight.{OvernightAsked, IsAsked}
use Rattle.irs_overnight.specs.declared.derived.DerivedRow.{DerivedRow}
use Rattle.irs_overnight.specs.Texts.{AreFixings}
use Rattle.irs_average.specs.declared.means.Mean.{Mean}
use Rattle.irs_average.specs.declared.means.Mean.TheVariants.{Plain, Weighted}

-- ---- the observations of a calculation period for an average: one every `step` days from its start

-- the day k steps after the start of the period
abbrev pub step_day : ℤ → ℕ → ℕ → ℤ
step_day s step k = s +ℤ pos (k * step)

-- where the days of observation k of n end: on the day of the next one, or with the period after the last
abbrev pub step_end : ℤ → ℤ → ℕ → ℕ → ℕ → ℤ
step_end s e step n k = if nat_lt (k + 1) n then step_day s step (k + 1) else e

-- observation k of n, counted from 0. It was made on the last business day at or before the day k steps after the
-- start. Its weight is the number of days to its end, and its rate is that of its own day
pub record IsSample (lines : RateLines) (set : DaySet) (s e : ℤ) (step n k : ℕ) (o : Observation) : Type 0 where
  pub previous : Prev set (step_day s step k) o.day
  pub weight : o.weight ≡ step_end s e step n k -ℤ step_day s step k
  pub rate : o.rate ≡ rate_by lines o.day

-- the observations of the period from s to e: one for each step whose day is before e
pub record AreSamples (lines : RateLines) (set : DaySet) (step : ℕ) (s e : ℤ) (os : List Observation) : Type 0 where
  pub many : (k : ℕ) → k < length os ↔ step_day s step k <ℤ e
  pub each : EachNumbered (IsSample lines set s e step (length os)) 0 os

-- for a step of the period there is no business day in the cover at or before its day
pub record LacksSample (set : DaySet) (step : ℕ) (s e : ℤ) : Type 0 where
  pub count : ℕ
  pub before_end : step_day s step count <ℤ e
  pub none : (q : ℤ) → Prev set (step_day s step count) q → ⊥

-- ---- the two means of the rates that were observed in a calculation period, in units of 10^-9

-- the rate of an observation, where it is there
abbrev pub rate_or_zero : Observation → ℤ
rate_or_zero o = unwrap_or o.rate (pos 0)

-- what an observation adds: its rate, by the weighted mean once for each day of its weight
abbrev pub counted_rate : Mean → Observation → ℤ
counted_rate Plain o = rate_or_zero o
counted_rate Weighted o = rate_or_zero o *ℤ o.weight

-- a sum over observations
abbrev pub sum_over : (Observation → ℤ) → List Observation → ℤ
sum_over f [] = pos 0
sum_over f (o ∷ os) = f o +ℤ sum_over f os

-- what the sum is divided by: the number of observations, by the weighted mean the days of the period
abbrev pub divisor : Mean → ℤ → List Observation → ℤ
divisor Plain days os = pos (length os)
divisor Weighted days os = days

-- x is the mean of the rates observed in a period of this number of days, each of which is there
pub record IsMean (kind : Mean) (days : ℤ) (os : List Observation) (x : ℤ) : Type 0 where
  pub known : first_absent os ≡ None
  pub rounded : Rounded Nearest (sum_over (counted_rate kind) os) (divisor kind days os) x

-- the rate lies between these bounds
abbrev pub RateLiesBetween : ℤ → ℤ → ℤ → Type 0
RateLiesBetween least greatest x = (least ≤ℤ x) × (x ≤ℤ greatest)

-- x lies within all bounds within which the rates of the observations lie, and so between the least and the
-- greatest of them
abbrev pub LiesAmong : List Observation → ℤ → Type 0
LiesAmong os x =
    (least greatest : ℤ) → All (λ o. IfSome o.rate (RateLiesBetween least greatest)) os → RateLiesBetween least greatest x

-- ---- what the rates observed in a calculation period give: their mean, or the first day whose rate is missing

-- what observations of a period of this number of days give
abbrev pub IsMeanFound : Mean → ℤ → List Observation → Found → Type 0
IsMeanFound kind days os (Rate x) = IsMean kind days os x
IsMeanFound kind days os (Missing d) = first_absent os ≡ Some d

-- a period from s to e, with the mean, the days from one observation to the next, the rates and the business days
pub record MeanPeriod : Type 0 where
  pub kind : Mean
  pub step : ℕ
  pub lines : RateLines
  pub days : DaySet
  pub start : ℤ
  pub end : ℤ

-- what its rates give
pub record FindsMean (p : MeanPeriod) (found : Found) : Type 0 where
  pub observations : List Observation
  pub are : AreSamples p.lines p.days p.step p.start p.end observations
  pub is : IsMeanFound p.kind (p.end -ℤ p.start) observations found

-- ---- what averages are worked out from

-- the rates of a stream's own index and tenor
abbrev pub own_lines : RateTable → FloatTerms → RateLines
own_lines rates float = record { rates = rates; index = float.index; tenor = float.tenor }

-- the mean, and the days from one observation to the next; the business days of reset dates, and the rates
pub record Averaging : Type 0 where
  pub kind : Mean
  pub step : ℕ
  pub days : DaySet
  pub lines : RateLines

-- how rates are averaged, from these parts
abbrev pub averaging_by : Mean → ℕ → DaySet → RateLines → Averaging
averaging_by kind step days lines = record { kind = kind; step = step; days = days; lines = lines }

-- the adjusted boundaries of the calculation periods, their resets, and how rates are averaged in them
pub record MeanSource : Type 0 where
  pub adjusted : List ℤ
  pub resets : List Reset
  pub by : Averaging

-- what the averages of a stream of a schedule are worked out from
abbrev pub mean_source : Part → Averaging → MeanSource
mean_source part by = record { adjusted = part.adjusted; resets = part.resets; by = by }

-- the period from one day to another, averaged this way
abbrev pub mean_period : Averaging → ℤ → ℤ → MeanPeriod
mean_period by start end =
    record { kind = by.kind; step = by.step; lines = by.lines; days = by.days; start = start; end = end }

-- period i goes from adjusted boundary i - 1 to adjusted boundary i
abbrev pub mean_period_at : MeanSource → ℕ → MeanPeriod
mean_period_at source i = mean_period source.by (day_at source.adjusted (i - 1)) (day_at source.adjusted i)

-- ---- the averages of a stream, one for each calculation period

-- the row of period i
pub record IsMeanRow (source : MeanSource) (i : ℕ) (row : DerivedRow) : Type 0 where
  pub stands : IsPeriod source.adjusted i
  pub period : row.period ≡ i
  pub fixing : row.fixing ≡ fixing_at source.resets i
  pub finds : FindsMean (mean_period_at source i) row.found

-- one row for each period, in order
pub record AreMeans (source : MeanSource) (rows : List DerivedRow) : Type 0 where
  pub many : length rows + 1 ≡ length source.adjusted
  pub each : EachNumbered (IsMeanRow source) 1 rows

-- ---- the rules of averages: K41 of fixing dates, and K43 of the days of observations

-- an observation of the period has no day
abbrev pub LacksSampleDay : MeanPeriod → Type 0
LacksSampleDay p = LacksSample p.days p.step p.start p.end

-- K43 of the period with that number
abbrev pub lacking_at : ℕ → Fault
lacking_at number = fault_at K43 reset_dates number

-- K41: the fixing date of a period isn't after that of the period before it
pub record BreaksOrder (source : MeanSource) (f : Fault) : Type 0 where
  pub number : ℕ
  pub not_after : FixingNotAfter source.resets number
  pub is : f ≡ fixing_not_after_at number

-- K43: an observation of a period has no day
pub record BreaksSamples (source : MeanSource) (f : Fault) : Type 0 where
  pub number : ℕ
  pub period : IsPeriod source.adjusted number
  pub lacks : LacksSampleDay (mean_period_at source number)
  pub is : f ≡ lacking_at number

-- the rules that are broken, K41 and K43
abbrev pub BreaksMeans : MeanSource → Fault → Type 0
BreaksMeans source f = BreaksOrder source f ⊎ BreaksSamples source f

-- ---- the averages of a stream of a swap, and the first broken rule

-- the most days from one observation to the next: 999 weeks
abbrev pub most_step : ℕ
most_step = 6_993

-- the stream, the schedule, the business days and the rates; the mean, and the days from one observation to the next
pub record AverageAsked : Type 0 where
  pub of : OvernightAsked
  pub kind : Mean
  pub step : ℕ

-- a request for averages, of these parts
abbrev pub averaged : OvernightAsked → Mean → ℕ → AverageAsked
averaged of kind step = record { of = of; kind = kind; step = step }

-- the request for the stream is as for compounded rates, and a step has 1 to 6,993 days
pub record IsAverageAsked (a : AverageAsked) : Type 0 where
  pub stream : IsAsked a.of
  pub some : 1 ≤ a.step
  pub few : a.step ≤ most_step

-- what the averages of the stream are worked out from
pub record HasMeanSource (a : AverageAsked) (source : MeanSource) : Type 0 where
  pub float : FloatTerms
  pub pays : PaysFloating a.of.swap a.of.number float
  pub part : Part
  pub at : slice_get a.of.parts (a.of.number - 1) ≡ Some part
  pub is : source ≡ mean_source part (averaging_by a.kind a.step a.of.days (own_lines a.of.rates float))

-- the averages of the stream
pub record IsAverage (a : AverageAsked) (rows : List DerivedRow) : Type 0 where
  pub source : MeanSource
  pub has : HasMeanSource a source
  pub are : AreMeans source rows

-- K41 or K43 is broken
pub record BreaksAverage (a : AverageAsked) (f : Fault) : Type 0 where
  pub source : MeanSource
  pub has : HasMeanSource a source
  pub breaks : BreaksMeans source f

-- neither K41 nor K43 is broken
abbrev pub AverageKept : AverageAsked → Type 0
AverageKept a = (f : Fault) → BreaksAverage a f → ⊥

-- x is the first that is broken: the lowest K41, else the lowest K43
pub record IsFirstOfAverage (a : AverageAsked) (x : Broken) : Type 0 where
  pub fault : Fault
  pub first : First derived_before (BreaksAverage a) fault
  pub is : x ≡ in_stream a.of.number fault

-- each average lies between the least and the greatest rate of the observations of its period
abbrev pub LieAmong : AverageAsked → List DerivedRow → Type 0
LieAmong a rows =
    (source : MeanSource) → HasMeanSource a source →
    (k : ℕ) (row : DerivedRow) (x : ℤ) → slice_get rows k ≡ Some row → row.found ≡ Rate x →
    let p : MeanPeriod = mean_period_at source row.period in
    (os : List Observation) → AreSamples p.lines p.days p.step p.start p.end os → LiesAmong os x

-- with the index and the tenor of the stream the rows print a fixing file that has exactly their rates
abbrev pub AverageReadsBack : AverageAsked → List DerivedRow → Type 0
AverageReadsBack a rows =
    (float : FloatTerms) → PaysFloating a.of.swap a.of.number float → AreFixings rows float.tenor float.index
