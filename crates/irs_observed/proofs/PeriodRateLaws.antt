-- The rate of a period by a fraction is one, and the function gives it.
use Rattle.std.proofs.Common.{◌≡◌, ◌-◌, ◌^◌, ℤ, pos, ◌+ℤ◌, ◌*ℤ◌, ◌<ℤ◌, refl, ap, ◌∙◌}
use Rattle.irs_base.proofs.RoundingLaws.{rounded_is, rounded_value}
use Rattle.irs_base.specs.Limits.{rounded}
use Rattle.irs_terms.specs.declared.amounts.Rounding.{Rounding}
use Rattle.irs_observed.specs.ObservedRates.{RateFraction, IsPeriodRate, period_rate_at}
use Rattle.irs_observed.proofs.SizeLemmas.{units_above}

module _ (x : RateFraction) (above : pos 0 <ℤ x.denominator) (multiplier spread : ℤ) (rounding : Rounding) where
  -- the function gives the rate of a period
  pub period_rate_is : IsPeriodRate x multiplier spread rounding (period_rate_at x multiplier spread rounding)
  period_rate_is = record {
    whole = rounded rounding.dir (multiplier *ℤ x.numerator +ℤ spread *ℤ x.denominator)
        (pos (10 ^ (9 - rounding.places)) *ℤ x.denominator);
    rounded = rounded_is rounding.dir (multiplier *ℤ x.numerator +ℤ spread *ℤ x.denominator)
        (pos (10 ^ (9 - rounding.places)) *ℤ x.denominator) (units_above (9 - rounding.places) x.denominator above);
    scaled = refl;
  }

  -- it is the only one
  pub period_rate_value : (r : ℤ) → IsPeriodRate x multiplier spread rounding r
      → r ≡ period_rate_at x multiplier spread rounding
  period_rate_value r h =
      let whole = rounded_value rounding.dir (multiplier *ℤ x.numerator +ℤ spread *ℤ x.denominator)
      (pos (10 ^ (9 - rounding.places)) *ℤ x.denominator) h.whole
      (units_above (9 - rounding.places) x.denominator above) h.rounded in
      h.scaled ∙ ap (λ (w : ℤ). w *ℤ pos (10 ^ (9 - rounding.places))) whole
