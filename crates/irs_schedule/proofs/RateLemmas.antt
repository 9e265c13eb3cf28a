-- The resets of a stream with its observed rates: there is one outcome, and what they keep.
use Rattle.std.proofs.Common.{◌≡◌, ℕ, ◌-◌, List, [], ◌∷◌, length, Option, Some, None, true, false}
use Rattle.std.proofs.Common.{inl, zero, suc, refl, sym, ap, ap₂, ◌∙◌, IfSome, All, if◌then◌else◌}
use Rattle.std.specs.Prelude.{slice_get}
use Rattle.irs_base.specs.Days.{IsDay}
use Rattle.irs_base.specs.Lists.{Every}
use Rattle.irs_base.specs.Outcomes.{Determined, answered, refused}
use Rattle.irs_terms.specs.declared.places.Fault.{Fault}
use Rattle.irs_base.proofs.EveryLemmas.{every_all}
use Rattle.irs_terms.specs.Centers.{IsSaidReset}
use Rattle.irs_terms.specs.Lawful.{FitsLeg}
use Rattle.irs_terms.specs.declared.amounts.FloatTerms.{FloatTerms}
use Rattle.irs_terms.specs.declared.amounts.Leg.{Leg}
use Rattle.irs_terms.specs.declared.amounts.Leg.TheVariants.{Fixed, Floating}
use Rattle.irs_terms.specs.declared.dates.ResetTerms.{ResetTerms}
use Rattle.irs_terms.specs.declared.parameters.CalculationParameters.{CalculationParameters}
use Rattle.irs_terms.specs.declared.results.Reset.{Reset}
use Rattle.irs_calendar.specs.GoodDays.{DaySet}
use Rattle.irs_resets.specs.Resets.{resets_of, BreaksResets, HasSmallRate, ResetSource, source_period_count}
use Rattle.irs_resets.specs.Rates.{RateTable}
use Rattle.irs_resets.proofs.DatedResets.{resets_dated}
use Rattle.irs_resets.proofs.Outcomes.{resets_determined}
use Rattle.irs_resets.proofs.ResetLemmas.{many_by, resets_count}
use Rattle.irs_resets.proofs.ResetsThere.{InDays}
use Rattle.irs_resets.proofs.RowLemmas.{one_resets}
use Rattle.irs_observed.specs.OvernightRates.{AreOvernightRates, HasBounds, OvernightSource, HasOvernightResetsBy}
use Rattle.irs_observed.specs.OvernightRates.{HasPrintedRate, daily_source}
use Rattle.irs_observed.specs.declared.daily_resets.OvernightResets.{OvernightResets}
use Rattle.irs_observed.specs.declared.overnight_rate.OvernightRate.{OvernightRate}
use Rattle.irs_observed.specs.declared.overnight_rate.OvernightRate.TheVariants.{Stated, Known, Absent, OutOfRange}
use Rattle.irs_observed.proofs.OvernightOutcomes.{one_overnight, overnight_dated, overnight_determined, rates_above}
use Rattle.irs_compound.specs.PeriodRates.{IsAbove}
use Rattle.irs_schedule.specs.Parts.{is_daily, is_floating, HasRates, resets_alone, resets_by, resets_in}
use Rattle.irs_schedule.specs.Schedules.{AreResetsBy, AreResetsIn, rate_in}

-- resets and rates by their lists
abbrev pub with_rates : List Reset → List OvernightRate → OvernightResets
with_rates resets rates = record { resets = resets; rates = rates }

-- ---- one outcome

module _ (source : ResetSource) (applicable : DaySet) (fix : RateTable) where
  alone_by : Determined (resets_of source fix) → Determined (resets_alone source fix)
  alone_by (answered rows one none) =
      answered (with_rates rows []) (record {
        is = (one.is, refl);
        only = λ x h. ap₂ with_rates (one.only x.resets h.0) h.1;
      }) none
  alone_by (refused f one none) = refused f one (λ x h. none x.resets h.0)

  are_by : (float : FloatTerms) (parameters : Option CalculationParameters) (x : OvernightResets)
      → (resets_by float parameters source applicable fix).Answers x
      → AreResetsBy float parameters source applicable fix x
  are_by float None x h = (h.0.1, h.1)
  are_by float (Some parameters) x h = h.1

  -- resets that are answered are those of the stream
  pub resets_are : (leg : Leg) (x : OvernightResets) → (resets_in leg source applicable fix).Answers x
      → AreResetsIn leg source applicable fix x
  resets_are (Fixed values) x h = (h.0.1, h.1)
  resets_are (Floating float) x h = are_by float float.parameters x h

  free_by : (float : FloatTerms) (parameters : Option CalculationParameters) (x : OvernightResets)
      → (resets_by float parameters source applicable fix).Answers x → (f : Fault) → BreaksResets source f → ⊥
  free_by float None x h f breaks = h.0.0 f breaks
  free_by float (Some parameters) x h f breaks = h.0 f (inl breaks)

  -- and no rule of reset dates and fixing dates is broken
  pub resets_free : (leg : Leg) (x : OvernightResets) → (resets_in leg source applicable fix).Answers x → (f : Fault)
      → BreaksResets source f → ⊥
  resets_free (Fixed values) x h f breaks = h.0.0 f breaks
  resets_free (Floating float) x h f breaks = free_by float float.parameters x h f breaks

  one_by : (float : FloatTerms) (parameters : Option CalculationParameters) (x y : OvernightResets)
      → AreResetsBy float parameters source applicable fix x → AreResetsBy float parameters source applicable fix y
      → x ≡ y
  one_by float None x y h k = ap₂ with_rates (one_resets source fix x.resets y.resets h.0 k.0) (h.1 ∙ sym k.1)
  one_by float (Some parameters) x y h k =
      one_overnight (daily_source source applicable float parameters) fix x y h k

  -- a stream has one list of resets with one of observed rates
  pub one_resets_in : (leg : Leg) (x y : OvernightResets) → AreResetsIn leg source applicable fix x
      → AreResetsIn leg source applicable fix y → x ≡ y
  one_resets_in (Fixed values) x y h k =
      ap₂ with_rates (one_resets source fix x.resets y.resets h.0 k.0) (h.1 ∙ sym k.1)
  one_resets_in (Floating float) x y h k = one_by float float.parameters x y h k

  module _ (fits : FitsLeg source.stream) (said : IsSaidReset source.stream) (range : InDays source.days) where
    determined_by : (float : FloatTerms) (parameters : Option CalculationParameters) → source.stream.leg ≡ Floating float
        → Determined (resets_by float parameters source applicable fix)
    determined_by float None e = alone_by (resets_determined source fix fits said range)
    determined_by float (Some parameters) e =
        overnight_determined (daily_source source applicable float parameters) fix float e fits said range

    -- a stream has its resets with its observed rates, or one first broken rule
    pub resets_in_determined : (leg : Leg) → source.stream.leg ≡ leg → Determined (resets_in leg source applicable fix)
    resets_in_determined (Fixed values) e = alone_by (resets_determined source fix fits said range)
    resets_in_determined (Floating float) e = determined_by float float.parameters e

  -- ---- how many, and their dates

  by_many : (leg : Leg) (rows : List Reset) → many_by source fix rows leg ≡ (if is_floating leg then source_period_count source else 0)
  by_many (Fixed values) rows = refl
  by_many (Floating float) rows = refl

  alone_many : (rows : List Reset) → length rows ≡ many_by source fix rows source.stream.leg
      → length rows ≡ (if is_floating source.stream.leg then source_period_count source else 0)
  alone_many rows h = h ∙ by_many source.stream.leg rows

  overnight_many : (reset : Option ResetTerms) (rs : List OvernightRate) (rows : List Reset)
      → HasOvernightResetsBy reset source rs rows → length rows ≡ source_period_count source
  overnight_many None rs rows h = absurd h
  overnight_many (Some t) rs rows h = h.many

  many_of : (float : FloatTerms) (parameters : Option CalculationParameters) (x : OvernightResets)
      → source.stream.leg ≡ Floating float → AreResetsBy float parameters source applicable fix x
      → length x.resets ≡ source_period_count source
  many_of float None x e h =
      resets_count source fix x.resets h.0 ∙ by_many source.stream.leg x.resets
      ∙ ap (λ (leg : Leg). if is_floating leg then source_period_count source else 0) e
  many_of float (Some parameters) x e h = overnight_many source.stream.reset x.rates x.resets h.resets

  -- one for each period where the stream floats, none where its rate is fixed
  pub resets_many : (leg : Leg) (x : OvernightResets) → source.stream.leg ≡ leg
      → AreResetsIn leg source applicable fix x → length x.resets ≡ (if is_floating leg then source_period_count source else 0)
  resets_many (Fixed values) x e h =
      resets_count source fix x.resets h.0 ∙ by_many source.stream.leg x.resets
      ∙ ap (λ (leg : Leg). if is_floating leg then source_period_count source else 0) e
  resets_many (Floating float) x e h = many_of float float.parameters x e h

  module _ (range : InDays source.days) where
    dated_of : (float : FloatTerms) (parameters : Option CalculationParameters) (x : OvernightResets)
        → AreResetsBy float parameters source applicable fix x
        → Every (λ (r : Reset). IsDay r.reset × IsDay r.fixing) x.resets
    dated_of float None x h = resets_dated source fix range x.resets h.0
    dated_of float (Some parameters) x h =
        overnight_dated source fix range x.rates source.stream.reset x.resets h.resets

    -- their dates are days of the range
    pub resets_in_dated : (leg : Leg) (x : OvernightResets) → AreResetsIn leg source applicable fix x
        → Every (λ (r : Reset). IsDay r.reset × IsDay r.fixing) x.resets
    resets_in_dated (Fixed values) x h = resets_dated source fix range x.resets h.0
    resets_in_dated (Floating float) x h = dated_of float float.parameters x h

-- ---- the denominators of rates that are known

-- every rate that is known has a denominator above 0
abbrev pub AreAbove : List OvernightRate → Type 0
AreAbove rates = (i : ℕ) → IfSome (rate_in rates i) IsAbove

none_above : (rates : List OvernightRate) → rates ≡ [] → AreAbove rates
none_above rates e i = rw e tt

module _ (source : OvernightSource) (fix : RateTable) (rates : List OvernightRate)
    (are : AreOvernightRates source fix rates) where
  some_above : (k : ℕ) (o : Option OvernightRate) → slice_get rates k ≡ o → IfSome o IsAbove
  some_above k None at = tt
  some_above k (Some (Stated rate)) at = tt
  some_above k (Some (Known x)) at = rates_above source fix rates k x are at
  some_above k (Some Absent) at = tt
  some_above k (Some OutOfRange) at = tt

module _ (source : ResetSource) (applicable : DaySet) (fix : RateTable) where
  above_by : (float : FloatTerms) (parameters : Option CalculationParameters) (x : OvernightResets)
      → AreResetsBy float parameters source applicable fix x → AreAbove x.rates
  above_by float None x h = none_above x.rates h.1
  above_by float (Some parameters) x h =
      λ i. some_above (daily_source source applicable float parameters).rates fix x.rates h.rates (i - 1)
      (rate_in x.rates i) refl

  -- the observed rates of a stream have denominators above 0
  pub resets_above : (leg : Leg) (x : OvernightResets) → AreResetsIn leg source applicable fix x → AreAbove x.rates
  resets_above (Fixed values) x h = none_above x.rates h.1
  resets_above (Floating float) x h = above_by float float.parameters x h

above_one : (r : OvernightRate) → HasBounds r → IsAbove r
above_one (Stated rate) h = tt
above_one (Known x) h = h.above
above_one Absent h = tt
above_one OutOfRange h = tt

every_above : (rates : List OvernightRate) (k : ℕ) → Every HasBounds rates → IfSome (slice_get rates k) IsAbove
every_above [] k h = tt
every_above (r ∷ rates) zero h = above_one r h.0
every_above (r ∷ rates) (suc k) h = every_above rates k h.1

-- rates within their bounds have denominators above 0
pub bounds_above : (rates : List OvernightRate) → Every HasBounds rates → AreAbove rates
bounds_above rates h = λ i. every_above rates (i - 1) h

-- ---- the bounds of rates

-- without calculation parameters the bounds are those of the resets
pub alone_rates : (leg : Leg) (many : ℕ) (resets : List Reset) (rates : List OvernightRate) → is_daily leg ≡ false
    → rates ≡ [] → All HasSmallRate resets → HasRates leg many resets rates
alone_rates leg many resets rates e none small = record {
  many = rw (e, none) refl;
  bounds = rw none tt;
  observed = rw e (every_all HasSmallRate resets small);
}

-- with them they are those of observed rates
pub overnight_rates : (leg : Leg) (float : FloatTerms) (parameters : CalculationParameters) (many : ℕ)
    (resets : List Reset) (rates : List OvernightRate) → leg ≡ Floating float → float.parameters ≡ Some parameters
    → length rates ≡ many → All HasBounds rates → All HasPrintedRate resets → HasRates leg many resets rates
overnight_rates leg float parameters many resets rates e given count bounds printed =
    let daily : is_daily leg ≡ true = rw (e, given) refl in
    record {
      many = rw daily count;
      bounds = every_all HasBounds rates bounds;
      observed = rw daily (every_all HasPrintedRate resets printed);
    }
