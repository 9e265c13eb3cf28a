-- A period of a stream with calculation parameters has one observed rate, or lacks observations.
use Rattle.std.proofs.Common.{◌≡◌, ◌⊎◌, inl, inr, ℕ, zero, suc, ◌^◌, ◌<◌, ◌≤◌, List, [], ◌∷◌, length, take, Option, Some, None, IsSome, ℤ, pos}
use Rattle.std.proofs.Common.{◌+ℤ◌, ◌-ℤ◌, ◌*ℤ◌, ◌<ℤ◌, refl, sym, subst, ◌∙◌, ap, ap₂, arith, rules}
use Rattle.std.specs.Prelude.{unsigned_abs}
use Rattle.std.proofs.lemmas.Bool.{cases_lt}
use Rattle.jiff_core.proofs.SignedLemmas.{signed_arith}
use Rattle.irs_base.specs.Lists.{IsRising, Member, EachNumbered}
use Rattle.irs_base.specs.Outcomes.{First, Determined, answered, refused}
use Rattle.irs_base.specs.Private.Order.{IsDecided}
use Rattle.irs_base.proofs.RoundingLaws.{nearest_exists}
use Rattle.irs_terms.specs.declared.parameters.ObservationOffset.{ObservationOffset}
use Rattle.irs_calendar.specs.GoodDays.{DaySet}
use Rattle.irs_resets.specs.Resets.{IsPeriod}
use Rattle.irs_resets.specs.Rates.{RateTable}
use Rattle.irs_resets.specs.declared.observed.PeriodKind.{PeriodKind}
use Rattle.irs_resets.proofs.KindLaws.{kind_there, one_kind}
use Rattle.irs_observed.specs.ObservedRates.{AreKnown, DailyRates, Through, daily_rates, FactorPasses, Grows, Precision}
use Rattle.irs_observed.specs.ObservedRates.{Reaches, one_factor, unit_rate, AddsBy, RateFraction, IsAveraged}
use Rattle.irs_observed.specs.ObservedRates.{IsCompounded, IsObservedRate, days_of_year, rate_precision}
use Rattle.irs_observed.specs.Observations.{ObservedPeriod, LacksObservations, reported_before, uncovered}
use Rattle.irs_observed.specs.Observations.{AreObservations, IsObservation, lockout_days, total_weight}
use Rattle.irs_observed.specs.OvernightRates.{observations_of, IsKindIn, IsOvernightRate, IsRateBy, IsRateOf}
use Rattle.irs_observed.specs.OvernightRates.{IsRateOver, LacksAt, OvernightSource, period_of, source_periods}
use Rattle.irs_observed.specs.OvernightRates.{HasOwnRate, StatesRate}
use Rattle.irs_observed.specs.Private.OvernightRates.{own_rate_of}
use Rattle.irs_observed.specs.declared.method.DailyRateMethod.{DailyRateMethod}
use Rattle.irs_observed.specs.declared.method.DailyRateMethod.TheVariants.{Compounding, Averaging}
use Rattle.irs_observed.specs.declared.method.YearDays.{YearDays}
use Rattle.irs_observed.specs.declared.method.YearDays.TheVariants.{Days360, Days365}
use Rattle.irs_observed.specs.declared.observation.NoObservations.{NoObservations}
use Rattle.irs_observed.specs.declared.observation.NoObservations.TheVariants.{FewMembers, NoDay}
use Rattle.irs_observed.specs.declared.observation.Observation.{Observation}
use Rattle.irs_observed.specs.declared.overnight_rate.OvernightRate.{OvernightRate}
use Rattle.irs_observed.specs.declared.overnight_rate.OvernightRate.TheVariants.{Stated, Known, Absent, OutOfRange}
use Rattle.irs_observed.proofs.FactorLemmas.{one_grown, year_above}
use Rattle.irs_observed.proofs.ListLemmas.{rises_to}
use Rattle.irs_observed.proofs.OriginLemmas.{own_states, states_own}
use Rattle.irs_observed.proofs.OutcomeLemmas.{observations_determined, one_observations}
use Rattle.irs_observed.proofs.ThroughLemmas.{one_through}

-- ---- daily rates

some_is : (a b : ℤ) → Some a ≡ Some b → a ≡ b
some_is a b e = cc

some_rate : (x : Option ℤ) → IsSome x → (r : ℤ) × (x ≡ Some r)
some_rate None h = absurd (search rules)
some_rate (Some r) h = (r, refl)

is_some_of : (x : Option ℤ) (r : ℤ) → x ≡ Some r → IsSome x
is_some_of None r e = absurd (cc)
is_some_of (Some s) r e = refl

decides_one : (x : Option ℤ) → IsDecided (IsSome x)
decides_one None = inr (λ h. search rules)
decides_one (Some r) = inl refl

module _ (daily : DailyRates) where
  decides_known : (os : List Observation) → IsDecided (AreKnown daily os)
  decides_known [] = inl tt
  decides_known (o ∷ os) = elim (decides_one (daily o.observed)) [
    | inr not ↦ inr (λ h. not h.0)
    | inl some ↦ elim (decides_known os) [
      | inl all ↦ inl (some, all)
      | inr not ↦ inr (λ h. not h.1)
    ]
  ]

  known_take : (n : ℕ) (os : List Observation) → AreKnown daily os → AreKnown daily (take n os)
  known_take zero [] known = tt
  known_take (suc n) [] known = tt
  known_take zero (o ∷ os) known = tt
  known_take (suc n) (o ∷ os) known = (known.0, known_take n os known.1)

  -- ---- sums

  known_of_sums : (os : List Observation) (f g : ℤ) → Through (AddsBy daily) os f g → AreKnown daily os
  known_of_sums [] f g p = tt
  known_of_sums (o ∷ os) f g p = (is_some_of (daily o.observed) p.1.rate p.1.is_rate, known_of_sums os p.0 g p.2)

  sums_there : (os : List Observation) (f : ℤ) → AreKnown daily os → (g : ℤ) × Through (AddsBy daily) os f g
  sums_there [] f known = (f, refl)
  sums_there (o ∷ os) f known =
      let rate = some_rate (daily o.observed) known.0 in
      let next = f +ℤ rate.0 *ℤ pos o.weight in
      let rest = sums_there os next known.1 in
      (rest.0, (next, record { rate = rate.0; is_rate = rate.1; sum = refl }, rest.1))

  one_sum : (o : Observation) (f g h : ℤ) → AddsBy daily o f g → AddsBy daily o f h → g ≡ h
  one_sum o f g h a b =
      let same : a.rate ≡ b.rate = some_is a.rate b.rate (sym a.is_rate ∙ b.is_rate) in
      a.sum ∙ ap (λ (r : ℤ). f +ℤ r *ℤ pos o.weight) same ∙ sym b.sum

  -- ---- factors

  module _ (basis : ℕ) (some : 1 ≤ basis) where
    known_of_factors : (os : List Observation) (f g : ℤ) → Grows basis daily os f g → AreKnown daily os
    known_of_factors [] f g p = tt
    known_of_factors (o ∷ os) f g p =
        (is_some_of (daily o.observed) p.1.rate p.1.is_rate, known_of_factors os p.0 g p.2)

    grown_there : (os : List Observation) (f : ℤ) → AreKnown daily os → (g : ℤ) × Grows basis daily os f g
    grown_there [] f known = (f, refl)
    grown_there (o ∷ os) f known =
        let rate = some_rate (daily o.observed) known.0 in
        let next = nearest_exists (f *ℤ (unit_rate basis +ℤ rate.0 *ℤ pos o.weight)) (unit_rate basis)
        (year_above basis some) in
        let rest = grown_there os next.0 known.1 in
        (rest.0, (next.0, record { rate = rate.0; is_rate = rate.1; rounded = next.1 }, rest.1))

    module _ (p : Precision) (os : List Observation) (known : AreKnown daily os) where
      -- no factor up to this number of observations passes
      abbrev NonePasses : ℕ → Type 0
      NonePasses n = (k : ℕ) (g : ℤ) → k ≤ n → Reaches p basis daily os k g → p.most < unsigned_abs g → ⊥

      passes_at : (k : ℕ) → k ≤ length os
          → FactorPasses p basis daily os ⊎ ((g : ℤ) → Reaches p basis daily os k g → p.most < unsigned_abs g → ⊥)
      passes_at k within =
          let there = grown_there (take k os) (one_factor p) (known_take k os known) in
          elim (cases_lt p.most (unsigned_abs there.0)) [
            | inl past ↦
                inl (record { count = k; within = within; factor = there.0; reaches = there.1; passes = past })
            | inr kept ↦ inr (λ g reaches past.
                let same : g ≡ there.0 =
                one_grown p basis some daily (take k os) (one_factor p) g there.0 reaches there.1 in
                let size : unsigned_abs g ≡ unsigned_abs there.0 = ap unsigned_abs same in
                omega (arith, kept, past, size))
          ]

      passes_below : (n : ℕ) → n ≤ length os → FactorPasses p basis daily os ⊎ NonePasses n
      passes_below zero within = elim (passes_at zero within) [
        | inl passes ↦ inl passes
        | inr none ↦ inr (λ k g low reaches past.
            let first : k ≡ 0 = omega (arith, low) in
            none g (subst (λ (j : ℕ). Reaches p basis daily os j g) first reaches) past)
      ]
      passes_below (suc n) within = elim (passes_below n (omega (arith, within))) [
        | inl passes ↦ inl passes
        | inr before ↦ elim (passes_at (suc n) within) [
          | inl passes ↦ inl passes
          | inr none ↦ inr (λ k g low reaches past. elim (cases_lt k (suc n)) [
            | inl less ↦ before k g (omega (arith, less)) reaches past
            | inr more ↦
                let last : k ≡ suc n = omega (arith, low, more) in
                none g (subst (λ (j : ℕ). Reaches p basis daily os j g) last reaches) past
          ])
        ]
      ]

      decides_passes : IsDecided (FactorPasses p basis daily os)
      decides_passes = elim (passes_below (length os) (omega arith)) [
        | inl passes ↦ inl passes
        | inr none ↦ inr (λ h. none h.count h.factor h.within h.reaches h.passes)
      ]

year_some : (year : YearDays) → 1 ≤ days_of_year year
year_some Days360 = omega arith
year_some Days365 = omega arith

same_fraction : (x y : RateFraction) → x.numerator ≡ y.numerator → x.denominator ≡ y.denominator → x ≡ y
same_fraction x y n d =
    let make : ℤ → ℤ → RateFraction = λ a b. record { numerator = a; denominator = b } in
    ap₂ make n d

-- ---- the rate by observations

known_of_rate : (method : DailyRateMethod) (daily : DailyRates) (os : List Observation) (x : RateFraction)
    → IsObservedRate method daily os x → AreKnown daily os
known_of_rate (Compounding year) daily os x is =
    known_of_factors daily (days_of_year year) (year_some year) os (one_factor rate_precision) is.factor is.grows
known_of_rate Averaging daily os x is = known_of_sums daily os (pos 0) x.numerator is.sums

-- daily rates give one observed rate
pub one_fraction : (method : DailyRateMethod) (daily : DailyRates) (os : List Observation) (x y : RateFraction)
    → IsObservedRate method daily os x → IsObservedRate method daily os y → x ≡ y
one_fraction (Compounding year) daily os x y a b =
    let same = one_grown rate_precision (days_of_year year) (year_some year) daily os (one_factor rate_precision) a.factor
    b.factor a.grows b.grows in
    same_fraction x y
    (a.numerator ∙ ap (λ (f : ℤ). (f -ℤ one_factor rate_precision) *ℤ pos (days_of_year year)) same ∙ sym b.numerator)
    (a.denominator ∙ sym b.denominator)
one_fraction Averaging daily os x y a b =
    same_fraction x y
    (one_through (AddsBy daily) (one_sum daily) os (pos 0) x.numerator y.numerator a.sums b.sums)
    (a.denominator ∙ sym b.denominator)

module _ (method : DailyRateMethod) (daily : DailyRates) (os : List Observation) where
  -- observations give one rate
  pub one_rate_by : (r s : OvernightRate) → IsRateBy method daily os r → IsRateBy method daily os s → r ≡ s
  one_rate_by (Stated rate) s h k = absurd h
  one_rate_by (Known x) (Stated rate) h k = absurd k
  one_rate_by (Known x) (Known y) h k = ap Known (one_fraction method daily os x y h.1 k.1)
  one_rate_by (Known x) Absent h k = absurd (k.1 (known_of_rate method daily os x h.1))
  one_rate_by (Known x) OutOfRange h k = absurd (h.0 k)
  one_rate_by Absent (Stated rate) h k = absurd k
  one_rate_by Absent (Known y) h k = absurd (h.1 (known_of_rate method daily os y k.1))
  one_rate_by Absent Absent h k = refl
  one_rate_by Absent OutOfRange h k = absurd (h.0 k)
  one_rate_by OutOfRange (Stated rate) h k = absurd k
  one_rate_by OutOfRange (Known y) h k = absurd (k.0 h)
  one_rate_by OutOfRange Absent h k = absurd (k.0 h)
  one_rate_by OutOfRange OutOfRange h k = refl

compounded_there : (year : YearDays) (daily : DailyRates) (os : List Observation)
    → (r : OvernightRate) × IsRateBy (Compounding year) daily os r
compounded_there year daily os = elim (decides_known daily os) [
  | inr not ↦ (Absent, (λ h. not h.known, not))
  | inl known ↦
      let basis = days_of_year year in
      let some = year_some year in
      elim (decides_passes daily basis some rate_precision os known) [
        | inl passes ↦ (OutOfRange, record { known = known; passes = passes })
        | inr none ↦
            let factor = grown_there daily basis some os (one_factor rate_precision) known in
            let x : RateFraction = record {
              numerator = (factor.0 -ℤ one_factor rate_precision) *ℤ pos basis;
              denominator = one_factor rate_precision *ℤ pos (total_weight os);
            } in
            let is : IsCompounded basis daily os x =
            record { factor = factor.0; grows = factor.1; numerator = refl; denominator = refl } in
            (Known x, (λ h. none h.passes, is))
      ]
]

averaged_there : (daily : DailyRates) (os : List Observation) → (r : OvernightRate) × IsRateBy Averaging daily os r
averaged_there daily os = elim (decides_known daily os) [
  | inr not ↦ (Absent, (λ h. h, not))
  | inl known ↦
      let sum = sums_there daily os (pos 0) known in
      let x : RateFraction = record {
        numerator = sum.0;
        denominator = pos (10 ^ 9) *ℤ pos (total_weight os);
      } in
      let is : IsAveraged daily os x = record { sums = sum.1; denominator = refl } in
      (Known x, (λ h. h, is))
]

-- and they give some rate
pub rate_by_there : (method : DailyRateMethod) (daily : DailyRates) (os : List Observation)
    → (r : OvernightRate) × IsRateBy method daily os r
rate_by_there (Compounding year) daily os = compounded_there year daily os
rate_by_there Averaging daily os = averaged_there daily os

-- ---- the rate of a period

-- the first of observations has a weight
first_weight : (offset : ObservationOffset) (set : DaySet) (u : List ℤ) (b : ℤ) → IsRising u
    → ((d : ℤ) → Member d u → d <ℤ b) → 0 < length u → (os : List Observation) → length os ≡ length u
    → EachNumbered (IsObservation offset set u b) 0 os → 0 < total_weight os
first_weight offset set u b rising below some [] many each = absurd (omega (arith, some, many))
first_weight offset set u b rising below some (o ∷ os) many each =
    let rises = rises_to u b 0 rising below some in
    let day = each.0.day in
    let weight = each.0.weight in
    omega (arith, signed_arith, rises, day, weight)

-- a period that lacks nothing observes some day
some_weight : (p : ObservedPeriod) (os : List Observation) → AreObservations p os
    → ((why : NoObservations) → LacksObservations p why → ⊥) → 0 < total_weight os
some_weight p os h none = elim (cases_lt (lockout_days p.offset) (length h.members)) [
  | inr few ↦ absurd (none FewMembers (record {
    from = h.from;
    to = h.to;
    period = h.period;
    covered = λ leaves. none NoDay (uncovered (record { from = h.from; to = h.to; period = h.period; leaves = leaves }));
    members = h.members;
    are_members = h.are_members;
    few = omega (arith, few);
  }))
  | inl enough ↦ first_weight p.offset p.days h.members h.to h.are_members.rising
      (λ d m. (h.are_members.sound d m).1) (omega (arith, enough)) os h.observed.many h.observed.each
]

-- a period has one rate by its daily rates
pub one_rate_over : (method : DailyRateMethod) (daily : DailyRates) (p : ObservedPeriod) (r s : OvernightRate)
    → IsRateOver method daily p r → IsRateOver method daily p s → r ≡ s
one_rate_over method daily p r s h k =
    let same = one_observations p h.observations k.observations h.are_observations k.are_observations in
    one_rate_by method daily k.observations r s
    (subst (λ (os : List Observation). IsRateBy method daily os r) same h.is_rate) k.is_rate

module _ (source : OvernightSource) (rates : RateTable) (i : ℕ) where
  one_rate_of : (kind : PeriodKind) (r s : OvernightRate) → IsRateOf source (daily_rates rates source.index) i kind r
      → IsRateOf source (daily_rates rates source.index) i kind s → r ≡ s
  one_rate_of kind r s (inl h) (inl k) =
      let a = states_own kind source.stream.stubs h.0 h.1 in
      let b = states_own kind source.stream.stubs k.0 k.1 in
      let same : h.0 ≡ k.0 = some_is h.0 k.0 (sym a ∙ b) in
      h.2 ∙ ap Stated same ∙ sym k.2
  one_rate_of kind r s (inl h) (inr k) = absurd (k.0 (h.0, h.1))
  one_rate_of kind r s (inr h) (inl k) = absurd (h.0 (k.0, k.1))
  one_rate_of kind r s (inr h) (inr k) =
      one_rate_over source.method (daily_rates rates source.index) (period_of source i) r s h.1 k.1

  -- a period has one observed rate
  pub one_rate_at : (r s : OvernightRate) → IsOvernightRate source rates i r → IsOvernightRate source rates i s → r ≡ s
  one_rate_at r s h k =
      let same : h.kind ≡ k.kind =
      one_kind source.stream source.span (source_periods source) i h.kind k.kind h.is_kind k.is_kind in
      one_rate_of k.kind r s
      (subst (λ (kind : PeriodKind). IsRateOf source (daily_rates rates source.index) i kind r) same h.is_rate)
      k.is_rate

  -- it has a rate, or lacks observations: too few members, or else a day
  pub data RateOrReason : Type 0 where
    rate : (r : OvernightRate) → IsOvernightRate source rates i r → ((why : NoObservations) → LacksAt source i why → ⊥)
        → RateOrReason
    few : LacksAt source i FewMembers → RateOrReason
    no_day : LacksAt source i NoDay → (LacksAt source i FewMembers → ⊥) → RateOrReason

  module _ (period : IsPeriod source.adjusted i) (kind : PeriodKind) (is : IsKindIn source i kind) where
    with_own : (own : ℤ) → StatesRate kind source.stream.stubs own → RateOrReason
    with_own own states =
        rate (Stated own) (record { kind = kind; is_kind = is; is_rate = inl (own, states, refl) })
        (λ why h.
        let same = one_kind source.stream source.span (source_periods source) i h.kind kind h.is_kind is in
        h.daily (own, subst (λ (k : PeriodKind). StatesRate k source.stream.stubs own) (sym same) states))

    module _ (daily : HasOwnRate kind source.stream.stubs → ⊥) where
      lacks_so : (why : NoObservations) → LacksObservations (period_of source i) why → LacksAt source i why
      lacks_so why lacks =
          record { period = period; kind = kind; is_kind = is; daily = daily; lacks = lacks }

      with_reason : (why : NoObservations) → First reported_before (LacksObservations (period_of source i)) why → RateOrReason
      with_reason FewMembers first = few (lacks_so FewMembers first.0)
      with_reason NoDay first =
          no_day (lacks_so NoDay first.0) (λ h. let e = first.1 FewMembers h.lacks in absurd (cc))

      with_outcome : Determined (observations_of (period_of source i)) → RateOrReason
      with_outcome (answered os only none) =
          let by = rate_by_there source.method (daily_rates rates source.index) os in
          rate by.0
          (record {
            kind = kind;
            is_kind = is;
            is_rate = inr (
              daily,
              record {
                observations = os;
                are_observations = only.is.1;
                some = some_weight (period_of source i) os only.is.1 only.is.0;
                is_rate = by.1;
              },
            );
          })
          (λ why h. only.is.0 why h.lacks)
      with_outcome (refused why only none) = with_reason why only.is

    by_own : (o : Option ℤ) → own_rate_of kind source.stream.stubs ≡ o → RateOrReason
    by_own (Some own) e = with_own own (own_states kind source.stream.stubs own e)
    by_own None e =
        with_outcome (λ h. let there = states_own kind source.stream.stubs h.0 h.1 in cc (e, there))
        (observations_determined (period_of source i))

  -- which of them is decided
  pub rate_or_reason : IsPeriod source.adjusted i → RateOrReason
  rate_or_reason period =
      let kind = kind_there source.stream source.span (source_periods source) i in
      by_own period kind.0 kind.1 (own_rate_of kind.0 source.stream.stubs) refl

-- the fraction of a rate that is known has a denominator above 0
pub known_above : (method : DailyRateMethod) (daily : DailyRates) (p : ObservedPeriod) (x : RateFraction)
    → IsRateOver method daily p (Known x) → pos 0 <ℤ x.denominator
known_above (Compounding year) daily p x h =
    let some = h.some in
    let denominator = h.is_rate.1.denominator in
    omega (arith, signed_arith, some, denominator)
known_above Averaging daily p x h =
    let some = h.some in
    let denominator = h.is_rate.1.denominator in
    omega (arith, signed_arith, some, denominator)

-- and so has that of a period
pub known_rate_above : (source : OvernightSource) (rates : RateTable) (i : ℕ) (x : RateFraction)
    → IsOvernightRate source rates i (Known x) → pos 0 <ℤ x.denominator
known_rate_above source rates i x h = elim h.is_rate [
  | inl stated ↦ let e : Known x ≡ Stated stated.0 = stated.2 in absurd (cc)
  | inr over ↦ known_above source.method (daily_rates rates source.index) (period_of source i) x over.1
]
