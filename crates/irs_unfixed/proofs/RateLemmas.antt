-- The rate of a calculation period isn't known exactly where its observed rate isn't.
use Rattle.std.proofs.Common.{◌≡◌, Option, Some, None, ℤ, refl}
use Rattle.std.specs.Prelude.{option_map}
use Rattle.irs_terms.specs.declared.amounts.FloatTerms.{FloatTerms}
use Rattle.irs_terms.specs.declared.amounts.Leg.{Leg}
use Rattle.irs_terms.specs.declared.amounts.Leg.TheVariants.{Fixed, Floating}
use Rattle.irs_observed.specs.declared.overnight_rate.OvernightRate.{OvernightRate}
use Rattle.irs_observed.specs.declared.overnight_rate.OvernightRate.TheVariants.{Stated, Known, Absent, OutOfRange}
use Rattle.irs_compound.specs.PeriodRates.{AreRatesIn, rates_in}
use Rattle.irs_compound.specs.declared.periods.Rates.{Rates}

-- the observed rate of a period of a floating stream isn't known: that of its reset, or that of its daily rates
pub data IsUnknown (leg : Leg) (observed : Option ℤ) (overnight : Option OvernightRate) : Type 0 where
  unobserved : (float : FloatTerms) → leg ≡ Floating float → overnight ≡ None → observed ≡ None
      → IsUnknown leg observed overnight
  absent : (float : FloatTerms) → leg ≡ Floating float → overnight ≡ Some Absent → IsUnknown leg observed overnight

-- a period without rates has none by the function either
pub rates_none : (leg : Leg) (start : ℤ) (observed : Option ℤ) (overnight : Option OvernightRate)
    → AreRatesIn leg start observed overnight None → rates_in leg start observed overnight ≡ None
rates_none (Fixed values) start observed None h = absurd h
rates_none (Floating float) start None None h = refl
rates_none (Floating float) start (Some rate) None h = absurd h
rates_none (Fixed values) start observed (Some r) h = absurd h
rates_none (Floating float) start observed (Some (Stated rate)) h = absurd h
rates_none (Floating float) start observed (Some (Known x)) h = absurd h
rates_none (Floating float) start observed (Some Absent) h = refl
rates_none (Floating float) start observed (Some OutOfRange) h = absurd (cc (h))

-- and then its observed rate isn't known
pub unknown_by : (leg : Leg) (start : ℤ) (observed : Option ℤ) (overnight : Option OvernightRate)
    → rates_in leg start observed overnight ≡ None → IsUnknown leg observed overnight
unknown_by (Fixed values) start observed None e = absurd (cc (e))
unknown_by (Floating float) start None None e = unobserved float refl refl refl
unknown_by (Floating float) start (Some rate) None e = absurd (cc (e))
unknown_by (Fixed values) start observed (Some r) e = absurd (cc (e))
unknown_by (Floating float) start observed (Some (Stated rate)) e = absurd (cc (e))
unknown_by (Floating float) start observed (Some (Known x)) e = absurd (cc (e))
unknown_by (Floating float) start observed (Some Absent) e = absent float refl refl
unknown_by (Floating float) start observed (Some OutOfRange) e = absurd (cc (e))

-- what is made of nothing alone is nothing
pub map_none : (o : Option Rates) → option_map (λ (r : Rates). r.all_in) o ≡ None → o ≡ None
map_none None e = refl
map_none (Some r) e = absurd (cc (e))
