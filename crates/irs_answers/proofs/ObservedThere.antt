-- There is a list of the days that each rate of a stream with calculation parameters is made of.
use Rattle.std.proofs.Common.{◌≡◌, inl, inr, ℕ, ◌-◌, List, [], ◌∷◌, Option, Some, None, ℤ, refl, arith}
use Rattle.irs_base.specs.Outcomes.{Determined, answered, refused}
use Rattle.irs_base.proofs.MemberLemmas.{numbered_there}
use Rattle.irs_terms.specs.declared.results.Span.{Span}
use Rattle.irs_resets.specs.Rates.{RateTable}
use Rattle.irs_resets.specs.Resets.{IsPeriod}
use Rattle.irs_resets.specs.declared.observed.PeriodKind.{PeriodKind}
use Rattle.irs_resets.proofs.KindLaws.{kind_there}
use Rattle.irs_observed.specs.ObservedRates.{DailyRates, PassesLimit, daily_rates}
use Rattle.irs_observed.specs.OvernightRates.{HasOwnRate, IsKindIn, IsRateBy, OvernightSource, observations_of}
use Rattle.irs_observed.specs.OvernightRates.{period_of}
use Rattle.irs_observed.specs.OvernightRates.{source_periods}
use Rattle.irs_observed.specs.Private.OvernightRates.{own_rate_of}
use Rattle.irs_observed.specs.declared.method.DailyRateMethod.{DailyRateMethod}
use Rattle.irs_observed.specs.declared.method.DailyRateMethod.TheVariants.{Averaging, Compounding}
use Rattle.irs_observed.specs.declared.observation.Observation.{Observation}
use Rattle.irs_observed.specs.declared.overnight_rate.OvernightRate.{OvernightRate}
use Rattle.irs_observed.specs.declared.overnight_rate.OvernightRate.TheVariants.{Absent, Known, OutOfRange, Stated}
use Rattle.irs_observed.proofs.OriginLemmas.{own_states, states_own}
use Rattle.irs_observed.proofs.OutcomeLemmas.{observations_determined}
use Rattle.irs_observed.proofs.OvernightThere.{rate_by_there}
use Rattle.irs_daily.specs.ObservedRows.{AreObservedRows, AreRowsOf, HasNoDailyRows, HasNoRows, IsFactorOrAbsent}
use Rattle.irs_daily.specs.ObservedRows.{day_rows}
use Rattle.irs_daily.specs.ObservedRows.{joined_rows}
use Rattle.irs_daily.specs.declared.rows.NoRowsWhy.{NoRowsWhy}
use Rattle.irs_daily.specs.declared.rows.NoRowsWhy.TheVariants.{OutOfRange as PassedLimit, Unobserved}
use Rattle.irs_daily.specs.declared.rows.ObservedRow.{ObservedRow}
use Rattle.irs_daily.specs.declared.rows.ObservedRow.TheVariants.{Daily, Stub}
use Rattle.irs_schedule.specs.Parts.{Part}
use Rattle.irs_answers.specs.Tasks.{Accruing, AreRowsIn, DailyStream, IsDailyAt, source_in}
use Rattle.irs_answers.specs.Private.Outcomes.{IsAccruing}
use Rattle.irs_answers.proofs.AccrueLemmas.{part_at}
use Rattle.irs_answers.proofs.ObservedLemmas.{has_rows, has_span, part_within}

-- observations that pass no limit have a factor, or lack a daily rate
factor_of : (method : DailyRateMethod) (daily : DailyRates) (os : List Observation) (r : OvernightRate)
    → IsRateBy method daily os r → (PassesLimit method daily os → ⊥)
    → (f : Option ℤ) × IsFactorOrAbsent method daily os f
factor_of method daily os (Stated rate) h kept = absurd h
factor_of (Compounding year) daily os (Known x) h kept = (Some h.1.factor, h.1.grows)
factor_of Averaging daily os (Known x) h kept = (Some x.numerator, h.1.sums)
factor_of method daily os Absent h kept = (None, h.1)
factor_of method daily os OutOfRange h kept = absurd (kept h)

module _ (source : OvernightSource) (rates : RateTable)
    (none : (i : ℕ) (why : NoRowsWhy) → HasNoRows source rates i why → ⊥) where
  module _ (i : ℕ) (period : IsPeriod source.adjusted i) (kind : PeriodKind) (is : IsKindIn source i kind) where
    abbrev daily : DailyRates
    daily = daily_rates rates source.index

    module _ (takes : HasOwnRate kind source.stream.stubs → ⊥) where
      lacks_none : (why : NoRowsWhy) → HasNoDailyRows source.method daily (period_of source i) why → ⊥
      lacks_none why lacks =
          none i why (record { period = period; kind = kind; is_kind = is; daily = takes; none = lacks })

      daily_by : Determined (observations_of (period_of source i))
          → (rows : List ObservedRow) × AreRowsOf source rates i rows
      daily_by (answered os only free) =
          let are = only.is.1 in
          let r = rate_by_there source.method daily os in
          let factor = factor_of source.method daily os r.0 r.1 (λ passes.
          lacks_none PassedLimit (record { observations = os; are_observations = are; passes = passes })) in (
            Daily (record { number = i; method = source.method; factor = factor.0 }) ∷ day_rows daily i os,
            record {
              kind = kind;
              is_kind = is;
              are_rows = inr (
                takes,
                record {
                  observations = os;
                  are_observations = are;
                  are_rows = record { factor = factor.0; is_factor = factor.1; is = refl };
                },
              );
            },
          )
      daily_by (refused why only free) = absurd (lacks_none (Unobserved why) only.is.0)

    rows_by : (o : Option ℤ) → own_rate_of kind source.stream.stubs ≡ o
        → (rows : List ObservedRow) × AreRowsOf source rates i rows
    rows_by (Some own) e =
        let states = own_states kind source.stream.stubs own e in
        (Stub i ∷ [], record { kind = kind; is_kind = is; are_rows = inl ((own, states), refl) })
    rows_by None e =
        daily_by (λ h. let there = states_own kind source.stream.stubs h.0 h.1 in cc (e, there))
        (observations_determined (period_of source i))

  rows_of : (i : ℕ) → IsPeriod source.adjusted i → (rows : List ObservedRow) × AreRowsOf source rates i rows
  rows_of i period =
      let kind = kind_there source.stream source.span (source_periods source) i in
      rows_by i period kind.0 kind.1 (own_rate_of kind.0 source.stream.stubs) refl

  -- where no period is without rows there is a list of them
  pub list_there : (rows : List ObservedRow) × AreObservedRows source rates rows
  list_there =
      let there = numbered_there (AreRowsOf source rates) (source_periods source) 1
      (λ k low high. rows_of k (low, omega (arith, low, high))) in
      (joined_rows there.0, record { parts = there.0; many = there.1; each = there.2; is = refl })

-- so there is one for a stream of a schedule
pub rows_there : (x : Accruing) (parts : List Part) → IsAccruing x parts → (n : ℕ) (y : DailyStream)
    → IsDailyAt x.swap n y → (rows : List ObservedRow) × AreRowsIn n x parts y rows
rows_there x parts h n y is =
    let i : ℕ = n - 1 in
    let part = part_at parts i (part_within x parts h i y.stream is.at) in
    let p : Part = part.0 in
    let found = has_span x parts h i y.stream is.at p part.1 in
    let span : Span = found.0 in
    let rows = list_there (source_in x.cal y span p) x.table
    (λ j why. has_rows x parts h i y.stream is.at p part.1 y.float y.parameters is.pays is.has span found.1.1.regular j
    why) in
    (rows.0, record { part = p; there = part.1; span = span; regular = found.1.1.regular; are = rows.1 })
