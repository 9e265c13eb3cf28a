-- The rates of periods, with calculation parameters and without: how large they are, and what is observed at a place.
use Rattle.std.proofs.Common.{◌≡◌, ℕ, zero, suc, ◌+◌, ◌-◌, ◌*◌, ◌^◌, ◌<◌, ◌≤◌, ℤ, pos, ◌+ℤ◌, ◌*ℤ◌, unsigned_abs}
use Rattle.std.proofs.Common.{Bool, true, false, if◌then◌else◌, List, [], ◌∷◌, length, Option, Some, None, IfSome, IfNone}
use Rattle.std.proofs.Common.{option_and_then, option_map, slice_get, int_lt, refl, arith}
use Rattle.std.proofs.Math.Nat.{mul-le-mul}
use Rattle.std.proofs.lemmas.Int.{ints, unsigned_abs-mul}
use Rattle.std.proofs.lemmas.Option.{slice_get-get_or}
use Rattle.irs_base.specs.Lists.{Every}
use Rattle.irs_base.specs.Limits.{rounded}
use Rattle.irs_base.proofs.RoundingLaws.{rounded_is}
use Rattle.irs_terms.specs.Lawful.{IsLawfulFloat, IsLawfulLeg, IsRate}
use Rattle.irs_terms.specs.declared.amounts.FloatTerms.{FloatTerms}
use Rattle.irs_terms.specs.declared.amounts.Leg.{Leg}
use Rattle.irs_terms.specs.declared.amounts.Leg.TheVariants.{Fixed, Floating}
use Rattle.irs_terms.specs.declared.amounts.Rounding.{Rounding}
use Rattle.irs_terms.specs.declared.codes.Treatment.{Treatment}
use Rattle.irs_terms.specs.declared.codes.Treatment.TheVariants.{AsIs, ZeroFloor}
use Rattle.irs_terms.specs.declared.results.Reset.{Reset}
use Rattle.irs_resets.proofs.DatedResets.{observed_small}
use Rattle.irs_observed.specs.ObservedRates.{RateFraction, IsBounded, most_observed, most_period_rate, period_rate_at}
use Rattle.irs_observed.specs.OvernightRates.{HasBounds}
use Rattle.irs_observed.specs.declared.overnight_rate.OvernightRate.{OvernightRate}
use Rattle.irs_observed.specs.declared.overnight_rate.OvernightRate.TheVariants.{Stated, Known, Absent, OutOfRange}
use Rattle.irs_observed.proofs.SizeLemmas.{rounded_within, scaled_size, units_above, whole_size}
use Rattle.irs_compound.specs.PeriodRates.{value_in_force, floating_rates_by, overnight_rates_by, rates_in, rates_over}
use Rattle.irs_compound.specs.PeriodRates.{fixed_rates_of, leg_rates, rates_of, treated}
use Rattle.irs_compound.specs.declared.periods.Rates.{Rates}
use Rattle.irs_compound.proofs.OvernightSizes.{fixed_small, small_rates, stated_small}
use Rattle.irs_compound.proofs.PeriodSizes.{all_in_small}
use Rattle.irs_compound.proofs.RateSizes.{rate_size, value_within}
use Rattle.irs_schedule.specs.Parts.{is_daily, most_entry_rate, HasObserved, HasRates}

-- ---- the size of a rate

sum_size : (a b : ℤ) → unsigned_abs (a +ℤ b) ≤ unsigned_abs a + unsigned_abs b
sum_size a b = omega (arith, ints)

product_size : (a b : ℤ) (m : ℕ) → unsigned_abs a ≤ m → unsigned_abs (a *ℤ b) ≤ m * unsigned_abs b
product_size a b m h =
    let same : unsigned_abs b ≤ unsigned_abs b = omega arith in
    rw (unsigned_abs-mul a b) (mul-le-mul h same)

module _ (x : RateFraction) (bounded : IsBounded x) (multiplier spread : ℤ) (multiplies : IsRate multiplier)
    (adds : IsRate spread) where
  exact_size : unsigned_abs (multiplier *ℤ x.numerator +ℤ spread *ℤ x.denominator)
      ≤ most_period_rate * unsigned_abs x.denominator
  exact_size =
      let a = product_size multiplier x.numerator (10 ^ 10) multiplies in
      let b = product_size spread x.denominator (10 ^ 10) adds in
      let c = sum_size (multiplier *ℤ x.numerator) (spread *ℤ x.denominator) in
      let size = bounded.size in
      omega (arith, a, b, c, size)

  -- the rate by a fraction within its bounds
  fraction_small : (rounding : Rounding) → rounding.places ≤ 9
      → unsigned_abs (period_rate_at x multiplier spread rounding) ≤ most_period_rate
  fraction_small rounding few =
      let n = rounding.places in
      let exact = multiplier *ℤ x.numerator +ℤ spread *ℤ x.denominator in
      let units = pos (10 ^ (9 - n)) *ℤ x.denominator in
      let above = units_above (9 - n) x.denominator bounded.above in
      let whole = rounded rounding.dir exact units in
      let fits = whole_size n (unsigned_abs exact) x.denominator few bounded.above exact_size in
      let size : unsigned_abs whole ≤ (most_observed + 1) * 10 ^ (n + 1) =
      rounded_within rounding.dir exact units whole ((most_observed + 1) * 10 ^ (n + 1)) above fits
      (rounded_is rounding.dir exact units above) in
      rw (unsigned_abs-mul whole (pos (10 ^ (9 - n))))
      (scaled_size n (10 ^ (9 - n)) (unsigned_abs whole) few refl size)

-- a rate by its treatment isn't greater in size
treated_within : (treatment : Treatment) (rate : ℤ) (n : ℕ) → unsigned_abs rate ≤ n
    → unsigned_abs (treated treatment rate) ≤ n
treated_within AsIs rate n small = small
treated_within ZeroFloor rate n small =
    elim (int_lt rate (pos 0)) as (λ b. unsigned_abs (if b then pos 0 else rate) ≤ n) [
      | true ↦ omega arith
      | false ↦ small
    ]

-- the rate that a fraction gives
over_small : (f : FloatTerms) (start : ℤ) (x : RateFraction) → IsLawfulFloat f → IsBounded x
    → unsigned_abs (rates_over f start x).all_in ≤ most_period_rate
unfolding rates_over
over_small f start x lawful bounded =
    let multiplier = value_in_force f.multiplier start in
    let spread = value_in_force f.spread start in
    treated_within f.treatment (period_rate_at x multiplier spread f.rounding) most_period_rate
    (fraction_small x bounded multiplier spread (value_within IsRate f.multiplier start lawful.multiplier)
    (value_within IsRate f.spread start lawful.spread) f.rounding lawful.rounding)

floating_small : (f : FloatTerms) (start : ℤ) (r : OvernightRate) → IsLawfulFloat f → HasBounds r
    → IfSome (floating_rates_by f start r) (λ x. unsigned_abs x.all_in ≤ most_period_rate)
floating_small f start (Stated observed) lawful bounds =
    stated_small f start observed (rates_of f start observed) lawful bounds refl
floating_small f start (Known x) lawful bounds = over_small f start x lawful bounds
floating_small f start Absent lawful bounds = tt
floating_small f start OutOfRange lawful bounds = omega arith

overnight_small : (leg : Leg) (start : ℤ) (r : OvernightRate) → IsLawfulLeg leg → HasBounds r
    → IfSome (overnight_rates_by leg start r) (λ x. unsigned_abs x.all_in ≤ most_period_rate)
overnight_small (Fixed values) start r lawful bounds =
    fixed_small values start (fixed_rates_of values start) lawful refl
overnight_small (Floating f) start r lawful bounds = floating_small f start r lawful bounds

-- the rate of a period, with calculation parameters or without
pub rates_in_small : (leg : Leg) (start : ℤ) (observed : Option ℤ) (overnight : Option OvernightRate)
    → IsLawfulLeg leg → IfNone overnight (IfSome observed IsRate) → IfSome overnight HasBounds
    → IfSome (rates_in leg start observed overnight) (λ x. unsigned_abs x.all_in ≤ most_period_rate)
rates_in_small leg start observed None lawful fits bounds =
    small_rates (leg_rates leg start observed) (rate_size leg start observed lawful fits)
rates_in_small leg start observed (Some r) lawful fits bounds = overnight_small leg start r lawful bounds

mapped_small : (rates : Option Rates) → IfSome rates (λ x. unsigned_abs x.all_in ≤ most_period_rate)
    → IfSome (option_map (λ (x : Rates). x.all_in) rates) (λ (x : ℤ). unsigned_abs x ≤ most_period_rate)
mapped_small None h = tt
mapped_small (Some x) h = h

-- ---- what is observed at a place

-- what holds of each member holds of the one at a place, where there is one
has_at : {X : Type 0} (P : X → Type 0) (xs : List X) (j : ℕ) → Every P xs → IfSome (slice_get xs j) P
has_at P [] j h = tt
has_at P (x ∷ xs) zero h = h.0
has_at P (x ∷ xs) (suc j) h = has_at P xs j h.1

-- the observed rate of the reset at a place
abbrev observed_in : List Reset → ℕ → Option ℤ
observed_in resets j = option_and_then (λ (r : Reset). r.observed) (slice_get resets j)

fits_by : (daily : Bool) (count : ℕ) (resets : List Reset) (rates : List OvernightRate) (j : ℕ)
    → length rates ≡ (if daily then count else 0) → Every (HasObserved daily) resets → j < count
    → IfNone (slice_get rates j) (IfSome (observed_in resets j) IsRate)
fits_by true count resets rates j many observed low =
    let there = slice_get-get_or rates j Absent (omega (arith, many, low)) in
    rw there tt
fits_by false count resets [] j many observed low = observed_small resets j observed
fits_by false count resets (r ∷ rates) j many observed low = absurd (omega (arith, many))

small_by : (daily : Bool) (leg : Leg) (count : ℕ) (resets : List Reset) (rates : List OvernightRate) (start : ℤ) (j : ℕ)
    → IsLawfulLeg leg → length rates ≡ (if daily then count else 0) → Every HasBounds rates
    → Every (HasObserved daily) resets → j < count
    → IfSome (option_map (λ (x : Rates). x.all_in) (rates_in leg start (observed_in resets j) (slice_get rates j)))
    (λ (x : ℤ). unsigned_abs x ≤ most_entry_rate daily)
small_by true leg count resets rates start j lawful many bounds observed low =
    mapped_small (rates_in leg start (observed_in resets j) (slice_get rates j))
    (rates_in_small leg start (observed_in resets j) (slice_get rates j) lawful
    (fits_by true count resets rates j many observed low) (has_at HasBounds rates j bounds))
small_by false leg count resets [] start j lawful many bounds observed low =
    all_in_small leg start (observed_in resets j) lawful (observed_small resets j observed)
small_by false leg count resets (r ∷ rates) start j lawful many bounds observed low = absurd (omega (arith, many))

module _ (leg : Leg) (count : ℕ) (resets : List Reset) (rates : List OvernightRate) (h : HasRates leg count resets rates)
    (j : ℕ) where
  -- without calculation parameters what is observed for a period is a rate of at most 10
  pub observed_fits : j < count
      → IfNone (slice_get rates j) (IfSome (option_and_then (λ (r : Reset). r.observed) (slice_get resets j)) IsRate)
  observed_fits low = fits_by (is_daily leg) count resets rates j h.many h.observed low

  -- with them its observed rate is within its bounds
  pub overnight_fits : IfSome (slice_get rates j) HasBounds
  overnight_fits = has_at HasBounds rates j h.bounds

  -- the rate of a period is at most the greatest one
  pub entry_rate_small : (start : ℤ) → IsLawfulLeg leg → j < count
      → IfSome (option_map (λ (x : Rates). x.all_in)
      (rates_in leg start (option_and_then (λ (r : Reset). r.observed) (slice_get resets j)) (slice_get rates j)))
      (λ (x : ℤ). unsigned_abs x ≤ most_entry_rate (is_daily leg))
  entry_rate_small start lawful low =
      small_by (is_daily leg) leg count resets rates start j lawful h.many h.bounds h.observed low
