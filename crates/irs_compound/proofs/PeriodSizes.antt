-- How large the days, the fraction and the rate of a period between days in range can be, and one denominator of all.
use Rattle.std.proofs.Common.{Bool, ℤ, pos, ◌-ℤ◌, ◌≤ℤ◌, ◌<ℤ◌, ◌≤◌, Option, Some, None, IfSome, option_map, arith}
use Rattle.std.proofs.Common.{unsigned_abs, All, List, [], ◌∷◌, length, subst, sym}
use Rattle.std.proofs.lemmas.List.Elements.{All-head}
use Rattle.irs_compound.specs.Amounts.{IsTermOver, denominator}
use Rattle.irs_compound.specs.declared.periods.PeriodTerm.{PeriodTerm}
use Rattle.jiff_core.proofs.SignedLemmas.{signed_arith}
use Rattle.irs_base.specs.Days.{IsDay}
use Rattle.irs_base.specs.Limits.{most_numerator}
use Rattle.irs_terms.specs.Lawful.{IsLawfulLeg, IsRate}
use Rattle.irs_terms.specs.declared.amounts.Leg.{Leg}
use Rattle.irs_terms.specs.declared.codes.DayCountCode.{DayCountCode}
use Rattle.irs_terms.specs.declared.codes.DayCountCode.TheVariants.{OneOne, ActActIsda, Act365Fixed, Act360, Thirty360}
use Rattle.irs_terms.specs.declared.codes.DayCountCode.TheVariants.{ThirtyE360, ThirtyE360Isda}
use Rattle.irs_daycount.specs.Fractions.{days_of, fraction_of}
use Rattle.irs_daycount.specs.Private.FractionLaws.{fraction_is}
use Rattle.irs_daycount.proofs.FractionBounds.{fraction_bounded}
use Rattle.irs_compound.proofs.RateSizes.{rate_size}
use Rattle.irs_compound.specs.PeriodRates.{most_rounded_rate, leg_rates}
use Rattle.irs_compound.specs.declared.periods.Rates.{Rates}

-- a numerator of a day count fraction in its range
abbrev IsSmall : ℤ → Type 0
IsSmall n = (pos 0 ≤ℤ n) × (n ≤ℤ pos most_numerator)

module _ (a b : ℤ) (last : Bool) (from : IsDay a) (to : IsDay b) (order : a <ℤ b) where
  -- a numerator is within its limit
  pub numerator_small : (code : DayCountCode)
      → (pos 0 ≤ℤ (fraction_of code a b last).num) × ((fraction_of code a b last).num ≤ℤ pos most_numerator)
  numerator_small code =
      let n = fraction_bounded code a b last (fraction_of code a b last) from to order
      (fraction_is code a b last order) in
      (n.0, let up = n.1 in omega (arith, signed_arith, from, to, up))

  elapsed_small : IsSmall (b -ℤ a)
  elapsed_small = (omega (arith, signed_arith, order), omega (arith, signed_arith, from, to))

  -- the days of a period are within their limit
  pub days_small : (code : DayCountCode)
      → (pos 0 ≤ℤ days_of code a b last) × (days_of code a b last ≤ℤ pos most_numerator)
  unfolding days_of fraction_of
  days_small OneOne = elapsed_small
  days_small ActActIsda = elapsed_small
  days_small Act365Fixed = elapsed_small
  days_small Act360 = elapsed_small
  days_small Thirty360 = numerator_small Thirty360
  days_small ThirtyE360 = numerator_small ThirtyE360
  days_small ThirtyE360Isda = numerator_small ThirtyE360Isda

all_in_by : (rates : Option Rates) → IfSome rates (λ r. unsigned_abs r.all_in ≤ most_rounded_rate)
    → IfSome (option_map (λ (r : Rates). r.all_in) rates) (λ (r : ℤ). unsigned_abs r ≤ most_rounded_rate)
all_in_by None h = tt
all_in_by (Some r) h = h

-- the whole rate by a lawful leg
pub all_in_small : (leg : Leg) (start : ℤ) (observed : Option ℤ) → IsLawfulLeg leg → IfSome observed IsRate
    → IfSome (option_map (λ (r : Rates). r.all_in) (leg_rates leg start observed))
    (λ (r : ℤ). unsigned_abs r ≤ most_rounded_rate)
all_in_small leg start observed lawful rate =
    all_in_by (leg_rates leg start observed) (rate_size leg start observed lawful rate)

-- periods with one denominator have that of the first
pub one_denominator_of : (den : ℤ) (ts : List PeriodTerm) → 1 ≤ length ts → All (IsTermOver den) ts
    → All (IsTermOver (denominator ts)) ts
one_denominator_of den [] some h = absurd (omega (arith, some))
one_denominator_of den (t ∷ ts) some h =
    subst (λ (d : ℤ). All (IsTermOver d) (t ∷ ts)) (sym (All-head (IsTermOver den) t ts h).2) h
