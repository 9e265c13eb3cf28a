-- The rows of one period: what its kind and its observations give.
use Rattle.std.proofs.Common.{◌≡◌, inl, inr, ℕ, List, [], ◌∷◌, Result, Ok, Err, sym, subst, ap₂, ℤ}
use Rattle.irs_base.specs.Outcomes.{IfStopped, Meets}
use Rattle.irs_base.specs.declared.stopped.Stopped.{Stopped}
use Rattle.irs_base.specs.declared.stopped.Stopped.TheVariants.{Broken as OfBroken, Memory as OfMemory}
use Rattle.irs_resets.specs.Rates.{RateTable}
use Rattle.irs_resets.specs.Resets.{IsPeriod}
use Rattle.irs_resets.specs.declared.observed.PeriodKind.{PeriodKind}
use Rattle.irs_resets.proofs.KindLaws.{one_kind}
use Rattle.irs_observed.specs.ObservedRates.{DailyRates, daily_rates, PassesLimit}
use Rattle.irs_observed.specs.Observations.{ObservedPeriod, LacksObservations, AreObservations}
use Rattle.irs_observed.specs.OvernightRates.{IsKindIn, OvernightSource, period_of, source_periods, HasOwnRate}
use Rattle.irs_observed.specs.OvernightRates.{StatesRate}
use Rattle.irs_observed.specs.declared.method.DailyRateMethod.{DailyRateMethod}
use Rattle.irs_observed.specs.declared.observation.NoObservations.{NoObservations}
use Rattle.irs_observed.specs.declared.observation.Observation.{Observation}
use Rattle.irs_observed.proofs.OutcomeLemmas.{one_observations}
use Rattle.irs_daily.specs.ObservedRows.{HasNoDailyRows, HasNoRows}
use Rattle.irs_daily.specs.Private.FactorSteps.{daily_rows_of, period_rows_of, rows_by_of}
use Rattle.irs_daily.specs.declared.periods.PeriodRows.{PeriodRows}
use Rattle.irs_daily.specs.declared.rows.NoRowsWhy.{NoRowsWhy}
use Rattle.irs_daily.specs.declared.rows.NoRowsWhy.TheVariants.{Unobserved, OutOfRange}
use Rattle.irs_daily.specs.declared.rows.ObservedRow.TheVariants.{Stub}

-- ---- daily rates

module _ (method : DailyRateMethod) (daily : DailyRates) (p : ObservedPeriod) (i : ℕ) (os : List Observation)
    (none : (why : NoObservations) → LacksObservations p why → ⊥) (are : AreObservations p os) where
  none_daily : (PassesLimit method daily os → ⊥) → (why : NoRowsWhy) → HasNoDailyRows method daily p why → ⊥
  none_daily kept (Unobserved why) h = none why h
  none_daily kept OutOfRange h =
      kept (subst (λ (x : List Observation). PassesLimit method daily x)
      (one_observations p h.observations os h.are_observations are) h.passes)

  why_daily : (why : NoRowsWhy) → why ≡ OutOfRange → PassesLimit method daily os → HasNoDailyRows method daily p why
  why_daily why is passes =
      subst (HasNoDailyRows method daily p) (sym is)
      (record { observations = os; are_observations = are; passes = passes })

  stops_daily : (e : Stopped NoRowsWhy) → IfStopped e (rows_by_of method daily i os).Refuses
      → IfStopped e (HasNoDailyRows method daily p)
  stops_daily (OfBroken why) h = why_daily why h.0 h.1
  stops_daily OfMemory h = tt

  -- what is right for the observations of a period is right for it
  pub daily_meets : (r : Result PeriodRows (Stopped NoRowsWhy)) → Meets (rows_by_of method daily i os) r
      → Meets (daily_rows_of method daily p i) r
  daily_meets (Ok r) h = (none_daily h.0, record { observations = os; are_observations = are; are_rows = h.1 })
  daily_meets (Err e) h = stops_daily e h

-- ---- a period by its kind

module _ (source : OvernightSource) (rates : RateTable) (i : ℕ) (kind : PeriodKind) (is : IsKindIn source i kind) where
  -- a stub with a rate of its own has one row, and there is no reason against it
  pub own_rows : (rate : ℤ) → StatesRate kind source.stream.stubs rate → (r : PeriodRows) → r.head ≡ Stub i → r.days ≡ []
      → (period_rows_of source rates i).Answers r
  own_rows rate states r head days = (
    λ why h. h.daily (
      rate,
      subst (λ (k : PeriodKind). StatesRate k source.stream.stubs rate)
          (sym (one_kind source.stream source.span (source_periods source) i h.kind kind h.is_kind is)) states,
    ),
    record { kind = kind; is_kind = is; are_rows = inl ((rate, states), ap₂ ◌∷◌ head days) },
  )

  module _ (daily : HasOwnRate kind source.stream.stubs → ⊥) where
    stops_period : IsPeriod source.adjusted i → (e : Stopped NoRowsWhy)
        → IfStopped e (HasNoDailyRows source.method (daily_rates rates source.index) (period_of source i))
        → IfStopped e (HasNoRows source rates i)
    stops_period period (OfBroken why) h =
        record { period = period; kind = kind; is_kind = is; daily = daily; none = h }
    stops_period period OfMemory h = tt

    -- what is right for the daily rates of a period is right for it
    pub period_meets : IsPeriod source.adjusted i → (r : Result PeriodRows (Stopped NoRowsWhy))
        → Meets (daily_rows_of source.method (daily_rates rates source.index) (period_of source i) i) r
        → Meets (period_rows_of source rates i) r
    period_meets period (Ok r) h =
        (λ why g. h.0 why g.none, record { kind = kind; is_kind = is; are_rows = inr (daily, h.1) })
    period_meets period (Err e) h = stops_period period e h
