-- A stream has one list of rows.
use Rattle.std.proofs.Common.{◌≡◌, inl, inr, ℕ, List, [], ◌∷◌, Option, Some, None, IsSome, ℤ, pos, refl, sym, subst, ◌∙◌, ap}
use Rattle.std.proofs.Common.{◌+ℤ◌, ◌*ℤ◌}
use Rattle.irs_base.proofs.MemberLemmas.{one_numbered}
use Rattle.irs_resets.specs.Rates.{RateTable}
use Rattle.irs_resets.specs.declared.observed.PeriodKind.{PeriodKind}
use Rattle.irs_resets.proofs.KindLaws.{one_kind}
use Rattle.irs_observed.specs.ObservedRates.{AreKnown, DailyRates, Through, daily_rates, GrowsBy, one_factor, AddsBy}
use Rattle.irs_observed.specs.ObservedRates.{days_of_year, rate_precision}
use Rattle.irs_observed.specs.Observations.{ObservedPeriod}
use Rattle.irs_observed.specs.OvernightRates.{OvernightSource, period_of, source_periods}
use Rattle.irs_observed.specs.declared.method.DailyRateMethod.{DailyRateMethod}
use Rattle.irs_observed.specs.declared.method.DailyRateMethod.TheVariants.{Compounding, Averaging}
use Rattle.irs_observed.specs.declared.observation.Observation.{Observation}
use Rattle.irs_observed.proofs.FactorLemmas.{one_grown}
use Rattle.irs_observed.proofs.OutcomeLemmas.{one_observations}
use Rattle.irs_observed.proofs.ThroughLemmas.{one_through}
use Rattle.irs_daily.specs.ObservedRows.{AreDailyRows, AreObservedRows, AreRowsBy, AreRowsOf, AreRowsOfKind, day_rows}
use Rattle.irs_daily.specs.ObservedRows.{joined_rows, IsFactor, IsFactorOrAbsent}
use Rattle.irs_daily.specs.declared.rows.ObservedRow.{ObservedRow}
use Rattle.irs_daily.specs.declared.rows.ObservedRow.TheVariants.{Daily}
use Rattle.irs_daily.proofs.Growths.{some_days}

-- ---- one factor

some_is : (a b : ℤ) → Some a ≡ Some b → a ≡ b
some_is a b e = cc

some_of : (r : ℤ) (o : Option ℤ) → o ≡ Some r → IsSome o
some_of r o e = subst IsSome (sym e) refl

one_sum : (daily : DailyRates) (o : Observation) (f g h : ℤ) → AddsBy daily o f g → AddsBy daily o f h → g ≡ h
one_sum daily o f g h a b =
    let same : a.rate ≡ b.rate = some_is a.rate b.rate (sym a.is_rate ∙ b.is_rate) in
    a.sum ∙ ap (λ (r : ℤ). f +ℤ r *ℤ pos o.weight) same ∙ sym b.sum

-- observations have at most one factor
pub one_factor_by : (method : DailyRateMethod) (daily : DailyRates) (os : List Observation) (f g : ℤ)
    → IsFactor method daily os f → IsFactor method daily os g → f ≡ g
one_factor_by (Compounding year) daily os f g a b =
    one_grown rate_precision (days_of_year year) (some_days year) daily os (one_factor rate_precision) f g a b
one_factor_by Averaging daily os f g a b = one_through (AddsBy daily) (one_sum daily) os (pos 0) f g a b

-- through observations that each take a rate all rates are known
pub known_through : (Step : Observation → ℤ → ℤ → Type 0) (daily : DailyRates)
    → ((o : Observation) (f g : ℤ) → Step o f g → IsSome (daily o.observed)) → (os : List Observation) (f g : ℤ)
    → Through Step os f g → AreKnown daily os
known_through Step daily takes [] f g h = tt
known_through Step daily takes (o ∷ os) f g h =
    (takes o f h.0 h.1, known_through Step daily takes os h.0 g h.2)

-- where observations have a factor, each of their daily rates is known
pub known_by : (method : DailyRateMethod) (daily : DailyRates) (os : List Observation) (f : ℤ) → IsFactor method daily os f
    → AreKnown daily os
known_by (Compounding year) daily os f h =
    known_through (GrowsBy (days_of_year year) daily) daily
    (λ o f g by. some_of by.rate (daily o.observed) by.is_rate) os (one_factor rate_precision) f h
known_by Averaging daily os f h =
    known_through (AddsBy daily) daily (λ o f g by. some_of by.rate (daily o.observed) by.is_rate) os (pos 0) f h

-- observations have at most one factor, absent or not
pub one_or_absent : (method : DailyRateMethod) (daily : DailyRates) (os : List Observation) (f g : Option ℤ)
    → IsFactorOrAbsent method daily os f → IsFactorOrAbsent method daily os g → f ≡ g
one_or_absent method daily os None None a b = refl
one_or_absent method daily os None (Some g) a b = absurd (a (known_by method daily os g b))
one_or_absent method daily os (Some f) None a b = absurd (b (known_by method daily os f a))
one_or_absent method daily os (Some f) (Some g) a b = ap Some (one_factor_by method daily os f g a b)

-- ---- one list a period

one_by : (method : DailyRateMethod) (daily : DailyRates) (i : ℕ) (os : List Observation) (a b : List ObservedRow)
    → AreRowsBy method daily i os a → AreRowsBy method daily i os b → a ≡ b
one_by method daily i os a b h k =
    let same = one_or_absent method daily os h.factor k.factor h.is_factor k.is_factor in
    h.is
    ∙ ap (λ (f : Option ℤ). Daily (record { number = i; method = method; factor = f }) ∷ day_rows daily i os) same
    ∙ sym k.is

one_daily : (method : DailyRateMethod) (daily : DailyRates) (p : ObservedPeriod) (i : ℕ) (a b : List ObservedRow)
    → AreDailyRows method daily p i a → AreDailyRows method daily p i b → a ≡ b
one_daily method daily p i a b h k =
    let same = one_observations p h.observations k.observations h.are_observations k.are_observations in
    one_by method daily i k.observations a b
    (subst (λ (os : List Observation). AreRowsBy method daily i os a) same h.are_rows) k.are_rows

one_of_kind : (source : OvernightSource) (daily : DailyRates) (i : ℕ) (kind : PeriodKind) (a b : List ObservedRow)
    → AreRowsOfKind source daily i kind a → AreRowsOfKind source daily i kind b → a ≡ b
one_of_kind source daily i kind a b (inl h) (inl k) = h.1 ∙ sym k.1
one_of_kind source daily i kind a b (inl h) (inr k) = absurd (k.0 h.0)
one_of_kind source daily i kind a b (inr h) (inl k) = absurd (h.0 k.0)
one_of_kind source daily i kind a b (inr h) (inr k) =
    one_daily source.method daily (period_of source i) i a b h.1 k.1

module _ (source : OvernightSource) (rates : RateTable) where
  one_of : (i : ℕ) (a b : List ObservedRow) → AreRowsOf source rates i a → AreRowsOf source rates i b → a ≡ b
  one_of i a b h k =
      let same = one_kind source.stream source.span (source_periods source) i h.kind k.kind h.is_kind k.is_kind in
      let daily : DailyRates = daily_rates rates source.index in
      one_of_kind source daily i k.kind a b
      (subst (λ (kind : PeriodKind). AreRowsOfKind source daily i kind a) same h.are_rows) k.are_rows

  -- ---- one list

  pub one_list : (a b : List ObservedRow) → AreObservedRows source rates a → AreObservedRows source rates b → a ≡ b
  one_list a b h k =
      let parts = one_numbered (AreRowsOf source rates) one_of 1 h.parts k.parts (h.many ∙ sym k.many) h.each k.each in
      h.is ∙ ap joined_rows parts ∙ sym k.is
