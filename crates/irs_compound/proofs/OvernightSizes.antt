-- How large the rates of a period are, with calculation parameters and without.
use Rattle.std.proofs.Common.{◌≡◌, ◌≤◌, ℤ, Option, Some, None, IfSome, subst, sym, arith, unsigned_abs}
use Rattle.irs_base.specs.Limits.{most_rate}
use Rattle.irs_terms.specs.Lawful.{IsLawfulFloat, IsLawfulValues, IsRate}
use Rattle.irs_terms.specs.declared.amounts.FloatTerms.{FloatTerms}
use Rattle.irs_terms.specs.declared.amounts.Leg.TheVariants.{Fixed, Floating}
use Rattle.irs_terms.specs.declared.step_list.StepValues.{StepValues}
use Rattle.irs_observed.specs.ObservedRates.{most_period_rate}
use Rattle.irs_observed.specs.OvernightRates.{HasBounds}
use Rattle.irs_observed.specs.declared.overnight_rate.OvernightRate.{OvernightRate}
use Rattle.irs_observed.specs.declared.overnight_rate.OvernightRate.TheVariants.{Stated, Known, Absent, OutOfRange}
use Rattle.irs_compound.specs.PeriodRates.{IsAbove, fixed_rates_of, most_rounded_rate, rates_of}
use Rattle.irs_compound.specs.declared.periods.Rates.{Rates}
use Rattle.irs_compound.proofs.RateSizes.{rate_size}

-- rates within the limit without parameters are within that with them
pub small_rates : (o : Option Rates) → IfSome o (λ r. unsigned_abs r.all_in ≤ most_rounded_rate)
    → IfSome o (λ r. unsigned_abs r.all_in ≤ most_period_rate)
small_rates None h = tt
small_rates (Some r) h = omega (arith, h)

-- a fixed rate keeps within the limit of a period's rate
pub fixed_small : (values : StepValues) (start : ℤ) (r : Rates) → IsLawfulValues IsRate values
    → r ≡ fixed_rates_of values start → unsigned_abs r.all_in ≤ most_period_rate
fixed_small values start r lawful e =
    let size : unsigned_abs (fixed_rates_of values start).all_in ≤ most_rounded_rate =
    rate_size (Fixed values) start None lawful tt in
    subst (λ (x : Rates). unsigned_abs x.all_in ≤ most_period_rate) (sym e) (omega (arith, size))

-- a rate by a stated observed rate keeps within the limit of a period's rate
pub stated_small : (f : FloatTerms) (start observed : ℤ) (r : Rates) → IsLawfulFloat f → unsigned_abs observed ≤ most_rate
    → r ≡ rates_of f start observed → unsigned_abs r.all_in ≤ most_period_rate
stated_small f start observed r lawful fits e =
    let size : unsigned_abs (rates_of f start observed).all_in ≤ most_rounded_rate =
    rate_size (Floating f) start (Some observed) lawful fits in
    subst (λ (x : Rates). unsigned_abs x.all_in ≤ most_period_rate) (sym e) (omega (arith, size))

-- a rate within its bounds has a denominator above 0
pub above_of : (r : OvernightRate) → HasBounds r → IsAbove r
above_of (Stated observed) h = tt
above_of (Known x) h = h.above
above_of Absent h = tt
above_of OutOfRange h = tt

-- so has a rate that may be absent
pub above_in : (o : Option OvernightRate) → IfSome o HasBounds → IfSome o IsAbove
above_in None h = tt
above_in (Some r) h = above_of r h
