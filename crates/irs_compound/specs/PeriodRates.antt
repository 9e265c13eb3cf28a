-- The rates of a period, with the values that are in force.
use Rattle.std.specs.Prelude.{◌≡◌, ℤ, ◌≤ℤ◌, ◌<ℤ◌, int_lt, if◌then◌else◌, List, [], ◌∷◌, All, Contains, Option, None}
use Rattle.std.specs.Prelude.{Some, ℕ, ◌+◌, ◌-◌, ◌*◌, ◌^◌, pos, ◌+ℤ◌, ◌*ℤ◌, option_map}
use Rattle.irs_base.specs.Limits.{most_rate, Rounded, rounded}
use Rattle.irs_terms.specs.declared.step_list.Step.{Step}
use Rattle.irs_terms.specs.declared.step_list.StepValues.{StepValues}
use Rattle.irs_terms.specs.declared.amounts.Rounding.{Rounding}
use Rattle.irs_terms.specs.declared.amounts.FloatTerms.{FloatTerms}
use Rattle.irs_terms.specs.declared.amounts.Leg.{Leg}
use Rattle.irs_terms.specs.declared.amounts.Leg.TheVariants.{Fixed, Floating}
use Rattle.irs_terms.specs.declared.codes.Treatment.{Treatment}
use Rattle.irs_terms.specs.declared.codes.Treatment.TheVariants.{AsIs, ZeroFloor}
use Rattle.irs_observed.specs.ObservedRates.{RateFraction, IsPeriodRate, period_rate_at}
use Rattle.irs_observed.specs.declared.overnight_rate.OvernightRate.{OvernightRate}
use Rattle.irs_observed.specs.declared.overnight_rate.OvernightRate.TheVariants.{Stated, Known, Absent, OutOfRange}
use Rattle.irs_compound.specs.declared.periods.Rates.{Rates}

-- ---- the value that a schedule of steps gives on a day

-- the step with the greatest date not after the day; none where each date is after it
abbrev pub LastOf : List Step → ℤ → Option Step → Type 0
LastOf steps d None = All (λ t. d <ℤ t.day) steps
LastOf steps d (Some s) = Contains steps s × (s.day ≤ℤ d) × All (λ t. t.day ≤ℤ d → t.day ≤ℤ s.day) steps

-- the value of a step, or the initial value where there is none
abbrev pub value_of : Option Step → ℤ → ℤ
value_of None initial = initial
value_of (Some s) initial = s.value

-- v is the value in force on day d
pub record InForce (values : StepValues) (d v : ℤ) : Type 0 where
  pub last : Option Step
  pub last_is : LastOf values.steps d last
  pub value_is : v ≡ value_of last values.initial

-- the later of a step and another, the first of the two where they have one date
abbrev pub later_step : Option Step → Step → Step
later_step None step = step
later_step (Some s) step = if int_lt s.day step.day then step else s

-- one more step is looked at; one after the day d doesn't count
abbrev pub counted_step : ℤ → Option Step → Step → Option Step
counted_step d last step = if int_lt d step.day then last else Some (later_step last step)

-- the steps are looked at from first to last
abbrev pub last_from : ℤ → Option Step → List Step → Option Step
last_from d last [] = last
last_from d last (s ∷ ss) = last_from d (counted_step d last s) ss

-- the value in force as a function
unfoldable pub value_in_force : StepValues → ℤ → ℤ
value_in_force values d = value_of (last_from d None values.steps) values.initial

-- ---- the rates of a period

-- an exact rate in units of 10^-18, rounded once to its places, in units of 10^-9
pub record RateAt (rounding : Rounding) (exact rate : ℤ) : Type 0 where
  pub whole : ℤ
  pub rounds : Rounded rounding.dir exact (pos (10 ^ (18 - rounding.places))) whole
  pub scales : rate ≡ whole *ℤ pos (10 ^ (9 - rounding.places))

-- the treatment of a rounded rate: it stays, but under ZeroInterestRateMethod a rate below 0 becomes 0
abbrev pub Treats : Treatment → ℤ → ℤ → Type 0
Treats AsIs rounded_rate rate = rate ≡ rounded_rate
Treats ZeroFloor rounded_rate rate =
    (pos 0 ≤ℤ rounded_rate → rate ≡ rounded_rate) × (rounded_rate <ℤ pos 0 → rate ≡ pos 0)

-- the rates of a period by the multiplier and spread in force on its unadjusted start and the observed rate.
-- The base rate is the multiplier times the observed rate, and the rate is that plus the spread. Each is
-- rounded once from its exact value. The treatment of a rate below 0 applies to the rounded rate, and the
-- base rate stays
pub record RatesOf (f : FloatTerms) (start observed : ℤ) (rates : Rates) : Type 0 where
  pub multiplier : ℤ
  pub spread : ℤ
  pub multiplies : InForce f.multiplier start multiplier
  pub adds : InForce f.spread start spread
  pub base : RateAt f.rounding (multiplier *ℤ observed) rates.base
  pub rounded_rate : ℤ
  pub rounds : RateAt f.rounding (multiplier *ℤ observed +ℤ spread *ℤ pos (10 ^ 9)) rounded_rate
  pub treats : Treats f.treatment rounded_rate rates.all_in

-- on a fixed stream both are the fixed rate in force
abbrev pub FixedRatesOf : StepValues → ℤ → Rates → Type 0
FixedRatesOf values start rates = InForce values start rates.base × (rates.all_in ≡ rates.base)

-- the rates of a period: on a fixed stream those of the rate in force, on a floating one those of the
-- observed rate. Without an observed rate a floating one has none
abbrev pub AreRates : Leg → ℤ → Option ℤ → Option Rates → Type 0
AreRates (Fixed values) start observed None = ⊥
AreRates (Fixed values) start observed (Some rates) = FixedRatesOf values start rates
AreRates (Floating float) start None None = Unit {0}
AreRates (Floating float) start None (Some rates) = ⊥
AreRates (Floating float) start (Some observed) None = ⊥
AreRates (Floating float) start (Some observed) (Some rates) = RatesOf float start observed rates

-- a rounded rate as a function
abbrev pub rate_by_rounding : Rounding → ℤ → ℤ
rate_by_rounding rounding exact =
    rounded rounding.dir exact (pos (10 ^ (18 - rounding.places))) *ℤ pos (10 ^ (9 - rounding.places))

-- a rounded rate by its treatment as a function
abbrev pub treated : Treatment → ℤ → ℤ
treated AsIs rate = rate
treated ZeroFloor rate = if int_lt rate (pos 0) then pos 0 else rate

-- multiplier times observed, in units of 10^-18
abbrev pub exact_base : FloatTerms → ℤ → ℤ → ℤ
exact_base f start observed = value_in_force f.multiplier start *ℤ observed

-- the rates as a function
unfoldable pub rates_of : FloatTerms → ℤ → ℤ → Rates
rates_of f start observed = record {
  base = rate_by_rounding f.rounding (exact_base f start observed);
  all_in = treated f.treatment
      (rate_by_rounding f.rounding (exact_base f start observed +ℤ value_in_force f.spread start *ℤ pos (10 ^ 9)));
}

-- the rates of a fixed stream as a function
unfoldable pub fixed_rates_of : StepValues → ℤ → Rates
fixed_rates_of values start = record { base = value_in_force values start; all_in = value_in_force values start }

-- the rates by the leg as a function
abbrev pub leg_rates : Leg → ℤ → Option ℤ → Option Rates
leg_rates (Fixed values) start observed = Some (fixed_rates_of values start)
leg_rates (Floating float) start observed = option_map (rates_of float start) observed

-- the size of a rounded rate, in units of 10^-9: ten times the greatest rate, and the greatest spread
abbrev pub most_rounded_rate : ℕ
most_rounded_rate = 10 * most_rate + most_rate

-- ---- the rates of a period of a stream with calculation parameters

-- the rates of a period by the multiplier and spread in force on its unadjusted start and the fraction x. The
-- base rate is the multiplier times x, and the rate is that plus the spread. Each is rounded once from its
-- exact value. The treatment of a rate below 0 applies to the rounded rate, and the base rate stays
pub record RatesOver (f : FloatTerms) (start : ℤ) (x : RateFraction) (rates : Rates) : Type 0 where
  pub multiplier : ℤ
  pub spread : ℤ
  pub multiplies : InForce f.multiplier start multiplier
  pub adds : InForce f.spread start spread
  pub base : IsPeriodRate x multiplier (pos 0) f.rounding rates.base
  pub rounded_rate : ℤ
  pub rounds : IsPeriodRate x multiplier spread f.rounding rounded_rate
  pub treats : Treats f.treatment rounded_rate rates.all_in

-- the rates of a period in which a compounded factor passes its limit are above the greatest rate
abbrev pub out_of_range : Rates
out_of_range = record { base = pos (most_rate + 1); all_in = pos (most_rate + 1) }

-- the rates by the leg of its stream and by the observed rate of the period, absent where that isn't known
abbrev pub AreRatesBy : Leg → ℤ → OvernightRate → Option Rates → Type 0
AreRatesBy (Fixed values) start r rates = AreRates (Fixed values) start None rates
AreRatesBy (Floating f) start (Stated observed) rates = AreRates (Floating f) start (Some observed) rates
AreRatesBy (Floating f) start (Known x) None = ⊥
AreRatesBy (Floating f) start (Known x) (Some rates) = RatesOver f start x rates
AreRatesBy (Floating f) start Absent rates = rates ≡ None
AreRatesBy (Floating f) start OutOfRange rates = rates ≡ Some out_of_range

-- the rates of a period: by the observed rate of its reset, and with calculation parameters by that of its daily rates
abbrev pub AreRatesIn : Leg → ℤ → Option ℤ → Option OvernightRate → Option Rates → Type 0
AreRatesIn leg start observed None rates = AreRates leg start observed rates
AreRatesIn leg start observed (Some r) rates = AreRatesBy leg start r rates

-- ---- the same by functions

-- the rates by a fraction
unfoldable pub rates_over : FloatTerms → ℤ → RateFraction → Rates
rates_over f start x = record {
  base = period_rate_at x (value_in_force f.multiplier start) (pos 0) f.rounding;
  all_in = treated f.treatment
      (period_rate_at x (value_in_force f.multiplier start) (value_in_force f.spread start) f.rounding);
}

-- the rates of a floating stream by the observed rate of the period
abbrev pub floating_rates_by : FloatTerms → ℤ → OvernightRate → Option Rates
floating_rates_by f start (Stated observed) = Some (rates_of f start observed)
floating_rates_by f start (Known x) = Some (rates_over f start x)
floating_rates_by f start Absent = None
floating_rates_by f start OutOfRange = Some out_of_range

-- the rates by the leg
abbrev pub overnight_rates_by : Leg → ℤ → OvernightRate → Option Rates
overnight_rates_by (Fixed values) start r = Some (fixed_rates_of values start)
overnight_rates_by (Floating f) start r = floating_rates_by f start r

-- the rates of a period
abbrev pub rates_in : Leg → ℤ → Option ℤ → Option OvernightRate → Option Rates
rates_in leg start observed None = leg_rates leg start observed
rates_in leg start observed (Some r) = overnight_rates_by leg start r

-- the fraction of a rate that is known has a denominator above 0
abbrev pub IsAbove : OvernightRate → Type 0
IsAbove (Stated observed) = Unit {0}
IsAbove (Known x) = pos 0 <ℤ x.denominator
IsAbove Absent = Unit {0}
IsAbove OutOfRange = Unit {0}
