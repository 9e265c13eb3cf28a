-- Daily rates, and the observed rate of a calculation period that they give.
use Rattle.std.specs.Prelude.{◌≡◌, ℕ, List, [], ◌∷◌, Option, Some, IsSome, ℤ, ◌*◌, ◌^◌, ◌<◌, ◌≤◌, length, take, pos}
use Rattle.std.specs.Prelude.{◌+ℤ◌, ◌*ℤ◌, unsigned_abs, ◌+◌, ◌-◌, None, ◌<ℤ◌, ◌-ℤ◌, IfSome, ◌≤ℤ◌}
use Rattle.irs_base.specs.Lists.{Every}
use Rattle.irs_base.specs.Limits.{Rounded, rounded}
use Rattle.irs_base.specs.declared.rounding.Direction.TheVariants.{Nearest}
use Rattle.irs_base.specs.Days.{all_days}
use Rattle.irs_terms.specs.declared.frequency.Frequency.{Frequency}
use Rattle.irs_terms.specs.declared.frequency.Unit.TheVariants.{D}
use Rattle.irs_terms.specs.declared.amounts.Rounding.{Rounding}
use Rattle.irs_resets.specs.Rates.{RateTable, SlotRates, rate_at, rate_of}
use Rattle.irs_observed.specs.declared.observation.Observation.{Observation}
use Rattle.irs_observed.specs.Observations.{total_weight}
use Rattle.irs_observed.specs.declared.method.DailyRateMethod.{DailyRateMethod}
use Rattle.irs_observed.specs.declared.method.DailyRateMethod.TheVariants.{Compounding, Averaging}
use Rattle.irs_observed.specs.declared.method.YearDays.{YearDays}
use Rattle.irs_observed.specs.declared.method.YearDays.TheVariants.{Days360, Days365}

-- ---- daily rates, and a number that each observation in turn changes by its daily rate

-- 1D: the tenor of daily rates
abbrev pub one_day : Frequency
one_day = record { count = 1; unit = D }

-- rates in units of 10^-9, by the day on which they are observed
abbrev pub DailyRates : Type 0
DailyRates = ℤ → Option ℤ

-- the daily rates among the rates of an index
abbrev pub rates_by : Option SlotRates → DailyRates
rates_by rates d = rate_of rates (record { date = d; tenor = Some one_day })

-- the daily rates of an index
abbrev pub daily_rates : RateTable → List ℕ → DailyRates
daily_rates rates index d = rate_at rates index (record { date = d; tenor = Some one_day })

-- each observation has its rate
abbrev pub AreKnown : DailyRates → List Observation → Type 0
AreKnown daily os = Every (λ o. IsSome (daily o.observed)) os

-- f becomes g through the observations, one after another, each by this step
abbrev pub Through : (Observation → ℤ → ℤ → Type 0) → List Observation → ℤ → ℤ → Type 0
Through Step [] f g = g ≡ f
Through Step (o ∷ os) f g = (h : ℤ) × Step o f h × Through Step os h g

-- ---- daily rates compounded: the factors, in units of a precision

-- the number of decimals of a factor, and the greatest factor in size, in units of the last of them
pub record Precision : Type 0 where
  pub decimals : ℕ
  pub most : ℕ

-- the factor 1
abbrev pub one_factor : Precision → ℤ
one_factor p = pos (10 ^ p.decimals)

-- the rate 1 for a year of that many days
abbrev pub unit_rate : ℕ → ℤ
unit_rate basis = pos (10 ^ 9 * basis)

-- the factor f becomes g by simple interest at the daily rate over the weight, by a year of basis days. It is
-- rounded in its own units, so that one relation serves every precision
pub record GrowsBy (basis : ℕ) (daily : DailyRates) (o : Observation) (f g : ℤ) : Type 0 where
  pub rate : ℤ
  pub is_rate : daily o.observed ≡ Some rate
  pub rounded : Rounded Nearest (f *ℤ (unit_rate basis +ℤ rate *ℤ pos o.weight)) (unit_rate basis) g

-- the factor f becomes g through the observations
abbrev pub Grows : ℕ → DailyRates → List Observation → ℤ → ℤ → Type 0
Grows basis daily os f g = Through (GrowsBy basis daily) os f g

-- g is the factor after the first observations
abbrev pub Reaches : Precision → ℕ → DailyRates → List Observation → ℕ → ℤ → Type 0
Reaches p basis daily os count g = Grows basis daily (take count os) (one_factor p) g

-- a factor passes its limit
pub record FactorPasses (p : Precision) (basis : ℕ) (daily : DailyRates) (os : List Observation) : Type 0 where
  pub count : ℕ
  pub within : count ≤ length os
  pub factor : ℤ
  pub reaches : Reaches p basis daily os count factor
  pub passes : p.most < unsigned_abs factor

-- ---- the observed rate of a calculation period, a fraction, and what is worked out of it

-- the days of a year
abbrev pub days_of_year : YearDays → ℕ
days_of_year Days360 = 360
days_of_year Days365 = 365

-- factors have 18 decimals, and none is above 10^4 in size
abbrev pub rate_precision : Precision
rate_precision = record { decimals = 18; most = 10 ^ 22 }

-- the rate numerator / denominator, 1 being 100 per cent
pub record RateFraction : Type 0 where
  pub numerator : ℤ
  pub denominator : ℤ

-- the sum f becomes g with the daily rate times the weight
pub record AddsBy (daily : DailyRates) (o : Observation) (f g : ℤ) : Type 0 where
  pub rate : ℤ
  pub is_rate : daily o.observed ≡ Some rate
  pub sum : g ≡ f +ℤ rate *ℤ pos o.weight

-- x is the rate that gives the last factor by simple interest over the days of the observation period
pub record IsCompounded (basis : ℕ) (daily : DailyRates) (os : List Observation) (x : RateFraction) : Type 0 where
  pub factor : ℤ
  pub grows : Grows basis daily os (one_factor rate_precision) factor
  pub numerator : x.numerator ≡ (factor -ℤ one_factor rate_precision) *ℤ pos basis
  pub denominator : x.denominator ≡ one_factor rate_precision *ℤ pos (total_weight os)

-- x is the average of the daily rates by their weights
pub record IsAveraged (daily : DailyRates) (os : List Observation) (x : RateFraction) : Type 0 where
  pub sums : Through (AddsBy daily) os (pos 0) x.numerator
  pub denominator : x.denominator ≡ pos (10 ^ 9) *ℤ pos (total_weight os)

-- x is the observed rate by the daily rates of the observations, not rounded
abbrev pub IsObservedRate : DailyRateMethod → DailyRates → List Observation → RateFraction → Type 0
IsObservedRate (Compounding year) daily os x = IsCompounded (days_of_year year) daily os x
IsObservedRate Averaging daily os x = IsAveraged daily os x

-- each daily rate is there, and a factor passes its limit
pub record CompoundsPast (basis : ℕ) (daily : DailyRates) (os : List Observation) : Type 0 where
  pub known : AreKnown daily os
  pub passes : FactorPasses rate_precision basis daily os

-- with averaging there are no factors, so none passes it
abbrev pub PassesLimit : DailyRateMethod → DailyRates → List Observation → Type 0
PassesLimit (Compounding year) daily os = CompoundsPast (days_of_year year) daily os
PassesLimit Averaging daily os = ⊥

-- the observed rate, or none where a daily rate is absent
abbrev pub IsRateOrAbsent : DailyRateMethod → DailyRates → List Observation → Option RateFraction → Type 0
IsRateOrAbsent method daily os None = AreKnown daily os → ⊥
IsRateOrAbsent method daily os (Some x) = IsObservedRate method daily os x

-- the greatest observed rate in size: (10^4 + 1) * 365
abbrev pub most_observed : ℕ
most_observed = 3_650_365

-- the bounds of an observed rate
pub record IsBounded (x : RateFraction) : Type 0 where
  pub above : pos 0 <ℤ x.denominator
  pub denominator : unsigned_abs x.denominator ≤ 10 ^ 18 * all_days
  pub numerator : unsigned_abs x.numerator ≤ 4 * 10 ^ 24
  pub size : unsigned_abs x.numerator ≤ most_observed * unsigned_abs x.denominator

-- the greatest rate of a period in size, in units of 10^-9, with a multiplier and a spread of at most 10
abbrev pub most_period_rate : ℕ
most_period_rate = (most_observed + 1) * 10 ^ 10

-- z is the rate as a whole number of 10^-9
abbrev pub IsPrintedRate : RateFraction → ℤ → Type 0
IsPrintedRate x z = Rounded Nearest (pos (10 ^ 9) *ℤ x.numerator) x.denominator z

-- r is the multiplier times the rate, plus the spread, rounded once to the decimals. All three are in units
-- of 10^-9
pub record IsPeriodRate (x : RateFraction) (multiplier spread : ℤ) (rounding : Rounding) (r : ℤ) : Type 0 where
  pub whole : ℤ
  pub rounded : Rounded rounding.dir (multiplier *ℤ x.numerator +ℤ spread *ℤ x.denominator)
      (pos (10 ^ (9 - rounding.places)) *ℤ x.denominator) whole
  pub scaled : r ≡ whole *ℤ pos (10 ^ (9 - rounding.places))

-- the same as a function
abbrev pub period_rate_at : RateFraction → ℤ → ℤ → Rounding → ℤ
period_rate_at x multiplier spread rounding =
    rounded rounding.dir (multiplier *ℤ x.numerator +ℤ spread *ℤ x.denominator)
    (pos (10 ^ (9 - rounding.places)) *ℤ x.denominator) *ℤ pos (10 ^ (9 - rounding.places))

-- ---- what holds of every observed rate

-- each daily rate of the observations meets P
abbrev pub EachRate : DailyRates → (ℤ → Type 0) → List Observation → Type 0
EachRate daily P os = Every (λ o. IfSome (daily o.observed) P) os

-- where each daily rate is 0 the observed rate is
abbrev pub ZeroGivesZero : DailyRateMethod → DailyRates → List Observation → Type 0
ZeroGivesZero method daily os =
    (x : RateFraction) → IsObservedRate method daily os x → EachRate daily (λ r. r ≡ pos 0) os → x.numerator ≡ pos 0

-- with one member the printed observed rate is its daily rate
abbrev pub OneGivesItself : DailyRateMethod → DailyRates → List Observation → Type 0
OneGivesItself method daily os =
    (o : Observation) (r z : ℤ) (x : RateFraction) → os ≡ o ∷ [] → daily o.observed ≡ Some r → IsObservedRate method daily os x
    → IsPrintedRate x z → z ≡ r

-- the average is not below a number that no daily rate is below
abbrev pub NotBelow : DailyRates → List Observation → Type 0
NotBelow daily os =
    (low : ℤ) (x : RateFraction) → IsAveraged daily os x → EachRate daily (λ r. low ≤ℤ r) os
    → (low *ℤ x.denominator) ≤ℤ (pos (10 ^ 9) *ℤ x.numerator)

-- nor above one that no daily rate is above
abbrev pub NotAbove : DailyRates → List Observation → Type 0
NotAbove daily os =
    (high : ℤ) (x : RateFraction) → IsAveraged daily os x → EachRate daily (λ r. r ≤ℤ high) os
    → (pos (10 ^ 9) *ℤ x.numerator) ≤ℤ (high *ℤ x.denominator)
