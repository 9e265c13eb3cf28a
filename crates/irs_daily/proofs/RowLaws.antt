-- The observed rates of a stream and its rows: each period that has the one has the other.
use Rattle.std.proofs.Common.{◌≡◌, inl, inr, ℕ, ◌+◌, List, [], ◌∷◌, Option, Some, None, ℤ, refl, sym, subst, ◌∙◌, ap}
use Rattle.std.proofs.Common.{ap₂, arith}
use Rattle.irs_base.specs.Lists.{EachNumbered, Every}
use Rattle.irs_base.proofs.MemberLemmas.{numbered_has}
use Rattle.irs_resets.specs.Rates.{RateTable}
use Rattle.irs_resets.specs.declared.observed.PeriodKind.{PeriodKind}
use Rattle.irs_resets.proofs.KindLaws.{one_kind}
use Rattle.irs_observed.specs.ObservedRates.{DailyRates, daily_rates, RateFraction, IsObservedRate, PassesLimit}
use Rattle.irs_observed.specs.OvernightRates.{AreOvernightRates, IsOvernightRate, IsRateBy, IsRateOf, OvernightSource}
use Rattle.irs_observed.specs.OvernightRates.{period_of, source_periods, HasOwnRate}
use Rattle.irs_observed.specs.Private.OvernightRates.{NoneLacks}
use Rattle.irs_observed.specs.declared.method.DailyRateMethod.{DailyRateMethod}
use Rattle.irs_observed.specs.declared.method.DailyRateMethod.TheVariants.{Compounding, Averaging}
use Rattle.irs_observed.specs.declared.observation.Observation.{Observation}
use Rattle.irs_observed.specs.declared.overnight_rate.OvernightRate.{OvernightRate}
use Rattle.irs_observed.specs.declared.overnight_rate.OvernightRate.TheVariants.{Stated, Known, Absent, OutOfRange}
use Rattle.irs_observed.proofs.FirstOvernight.{none_lacks_at}
use Rattle.irs_observed.proofs.OutcomeLemmas.{one_observations}
use Rattle.irs_daily.specs.Laws.{NoneOutOfRange, RatesHaveRows, RowsShowRates, Show, rate_of_factor, rows_with}
use Rattle.irs_daily.specs.ObservedRows.{AreRowsBy, AreRowsOfKind, HasNoRows, PassesFactorLimit, IsFactor}
use Rattle.irs_daily.specs.ObservedRows.{IsFactorOrAbsent}
use Rattle.irs_daily.specs.declared.rows.NoRowsWhy.{NoRowsWhy}
use Rattle.irs_daily.specs.declared.rows.NoRowsWhy.TheVariants.{Unobserved, OutOfRange as PassedLimit}
use Rattle.irs_daily.specs.declared.rows.ObservedRow.{ObservedRow}
use Rattle.irs_daily.proofs.OneList.{one_or_absent}

-- ---- where there are rates there are rows

numbered_both : {X : Type 0} (P : ℕ → X → Type 0) (Q : X → Type 0) (n : ℕ) (xs : List X) → EachNumbered P n xs → Every Q xs
    → EachNumbered (λ k x. P k x × Q x) n xs
numbered_both P Q n [] h k = tt
numbered_both P Q n (x ∷ xs) h k = ((h.0, k.0), numbered_both P Q (n + 1) xs h.1 k.1)

-- a rate that isn't out of range passes no limit
kept_by : (method : DailyRateMethod) (daily : DailyRates) (os : List Observation) (r : OvernightRate)
    → IsRateBy method daily os r → (r ≡ OutOfRange → ⊥) → PassesLimit method daily os → ⊥
kept_by method daily os (Stated rate) h within past = h
kept_by method daily os (Known x) h within past = h.0 past
kept_by method daily os Absent h within past = h.0 past
kept_by method daily os OutOfRange h within past = within refl

module _ (source : OvernightSource) (rates : RateTable) where
  kept_of : (i : ℕ) (kind : PeriodKind) (r : OvernightRate)
      → IsRateOf source (daily_rates rates source.index) i kind r → (r ≡ OutOfRange → ⊥)
      → (HasOwnRate kind source.stream.stubs → ⊥)
      → PassesFactorLimit source.method (daily_rates rates source.index) (period_of source i) → ⊥
  kept_of i kind r (inl own) within daily past = daily (own.0, own.1)
  kept_of i kind r (inr h) within daily past =
      let over = h.1 in
      let same = one_observations (period_of source i) past.observations over.observations past.are_observations
      over.are_observations in
      kept_by source.method (daily_rates rates source.index) over.observations r over.is_rate within
      (subst (λ (os : List Observation). PassesLimit source.method (daily_rates rates source.index) os) same past.passes)

  kept_at : (i : ℕ) (r : OvernightRate) → IsOvernightRate source rates i r → (r ≡ OutOfRange → ⊥)
      → HasNoRows source rates i PassedLimit → ⊥
  kept_at i r is within h =
      let same = one_kind source.stream source.span (source_periods source) i is.kind h.kind is.is_kind h.is_kind in
      kept_of i h.kind r
      (subst (λ (k : PeriodKind). IsRateOf source (daily_rates rates source.index) i k r) same is.is_rate) within h.daily
      h.none

  rows_there : (rs : List OvernightRate) → NoneLacks source → AreOvernightRates source rates rs → NoneOutOfRange rs → (i : ℕ)
      (why : NoRowsWhy) → HasNoRows source rates i why → ⊥
  rows_there rs none are within i (Unobserved why) h =
      none i why
      (record { period = h.period; kind = h.kind; is_kind = h.is_kind; daily = h.daily; lacks = h.none })
  rows_there rs none are within i PassedLimit h =
      let many = are.many in
      let low = h.period.0 in
      let high = h.period.1 in
      let at = numbered_has (λ k r. IsOvernightRate source rates k r × (r ≡ OutOfRange → ⊥)) 1 rs i
      (numbered_both (IsOvernightRate source rates) (λ (r : OvernightRate). r ≡ OutOfRange → ⊥) 1 rs are.each within) low
      (omega (arith, many, low, high)) in
      kept_at i at.0 at.1.0 at.1.1 h

  pub rates_have_rows : RatesHaveRows source rates
  rates_have_rows rs answers within i why h = rows_there rs (none_lacks_at source answers.0) answers.1 within i why h

-- ---- the rows show the rates

same_fraction : (x y : RateFraction) → x.numerator ≡ y.numerator → x.denominator ≡ y.denominator → x ≡ y
same_fraction x y a b = ap₂ (λ (n d : ℤ). record { numerator = n; denominator = d }) a b

-- the factor of a rate
factor_of : (method : DailyRateMethod) (daily : DailyRates) (os : List Observation) (x : RateFraction)
    → IsObservedRate method daily os x → (f : ℤ) × IsFactor method daily os f × (x ≡ rate_of_factor method os f)
factor_of (Compounding year) daily os x h =
    (h.factor, h.grows, same_fraction x (rate_of_factor (Compounding year) os h.factor) h.numerator h.denominator)
factor_of Averaging daily os x h =
    (x.numerator, h.sums, same_fraction x (rate_of_factor Averaging os x.numerator) refl h.denominator)

module _ (source : OvernightSource) (daily : DailyRates) (i : ℕ) (os : List Observation) (rows : List ObservedRow) where
  -- the rows with a factor that is known otherwise
  rows_of_factor : (f : Option ℤ) → IsFactorOrAbsent source.method daily os f → AreRowsBy source.method daily i os rows
      → rows ≡ rows_with source daily i f os
  rows_of_factor f is h =
      let same = one_or_absent source.method daily os h.factor f h.is_factor is in
      h.is ∙ ap (λ (g : Option ℤ). rows_with source daily i g os) same

  show_by : (r : OvernightRate) → IsRateBy source.method daily os r → AreRowsBy source.method daily i os rows
      → Show source daily i rows r
  show_by (Stated rate) by h = absurd by
  show_by (Known x) by h =
      let f = factor_of source.method daily os x by.1 in (f.0, os, rows_of_factor (Some f.0) f.1 h, f.2)
  show_by Absent by h = (os, rows_of_factor None by.1 h)
  show_by OutOfRange by h = tt

show_of : (source : OvernightSource) (daily : DailyRates) (i : ℕ) (kind : PeriodKind) (rows : List ObservedRow)
    (r : OvernightRate) → IsRateOf source daily i kind r → AreRowsOfKind source daily i kind rows
    → Show source daily i rows r
show_of source daily i kind rows r (inl own) (inl h) = subst (Show source daily i rows) (sym own.2) h.1
show_of source daily i kind rows r (inl own) (inr h) = absurd (h.0 (own.0, own.1))
show_of source daily i kind rows r (inr over) (inl h) = absurd (over.0 h.0)
show_of source daily i kind rows r (inr over) (inr h) =
    let same = one_observations (period_of source i) h.1.observations over.1.observations h.1.are_observations
    over.1.are_observations in
    show_by source daily i over.1.observations rows r over.1.is_rate
    (subst (λ (os : List Observation). AreRowsBy source.method daily i os rows) same h.1.are_rows)

-- the rows of each period show its observed rate
pub rows_show_rates : (source : OvernightSource) (rates : RateTable) → RowsShowRates source rates
rows_show_rates source rates i r rows is h =
    let daily : DailyRates = daily_rates rates source.index in
    let same = one_kind source.stream source.span (source_periods source) i h.kind is.kind h.is_kind is.is_kind in
    show_of source daily i is.kind rows r is.is_rate
    (subst (λ (k : PeriodKind). AreRowsOfKind source daily i k rows) same h.are_rows)
