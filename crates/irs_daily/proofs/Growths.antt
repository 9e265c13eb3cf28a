-- What is known of a factor after the first observations, and how one more changes it.
use Rattle.std.proofs.Common.{◌≡◌, ℕ, ◌+◌, ◌*◌, ◌^◌, ◌<◌, ◌≤◌, List, length, take, Option, Some, None, IsSome, ℤ, pos}
use Rattle.std.proofs.Common.{refl, sym, subst, arith}
use Rattle.std.specs.Prelude.{get_or, unsigned_abs}
use Rattle.irs_observed.specs.ObservedRates.{AreKnown, DailyRates, Through, FactorPasses, GrowsBy, one_factor, AddsBy}
use Rattle.irs_observed.specs.ObservedRates.{days_of_year, rate_precision}
use Rattle.irs_observed.specs.Observations.{HasWeights, total_weight}
use Rattle.irs_observed.specs.declared.method.DailyRateMethod.{DailyRateMethod}
use Rattle.irs_observed.specs.declared.method.DailyRateMethod.TheVariants.{Compounding, Averaging}
use Rattle.irs_observed.specs.declared.method.YearDays.{YearDays}
use Rattle.irs_observed.specs.declared.method.YearDays.TheVariants.{Days360, Days365}
use Rattle.irs_observed.specs.declared.observation.Observation.{Observation}
use Rattle.irs_observed.proofs.FactorLemmas.{Compounds, compounds_more, compounds_none, grows_all, none_passes, passes_at}
use Rattle.irs_observed.proofs.ThroughLemmas.{absent_at, every_all, every_more, through_all, through_more, total_first}
use Rattle.irs_observed.proofs.ThroughLemmas.{total_more}
use Rattle.irs_daily.specs.Private.FactorSteps.{IsGrowthOf, IsNext, IsStepped, StepsBy, first_factor, most_factor}
use Rattle.irs_daily.specs.declared.growth.Growth.{Growth}
use Rattle.irs_daily.specs.declared.growth.Growth.TheVariants.{Known, Passed, Absent}

-- the sum over the first observations
pub record Sums (daily : DailyRates) (os : List Observation) (k : ℕ) (f : ℤ) : Type 0 where
  pub through : Through (AddsBy daily) (take k os) (pos 0) f
  pub size : unsigned_abs f ≤ 10 ^ 10 * total_weight (take k os)

-- the factor or the sum after the first observations, and no factor so far passes the limit
abbrev pub Follows : DailyRateMethod → DailyRates → List Observation → ℕ → ℤ → Type 0
Follows (Compounding year) daily os k f = Compounds rate_precision (days_of_year year) daily os k f
Follows Averaging daily os k f = Sums daily os k f

-- a factor passes the limit; no sum does
abbrev pub PassesBy : DailyRateMethod → DailyRates → List Observation → Type 0
PassesBy (Compounding year) daily os = FactorPasses rate_precision (days_of_year year) daily os
PassesBy Averaging daily os = ⊥

-- what is known after the first observations
abbrev pub IsGrown : DailyRateMethod → DailyRates → List Observation → ℕ → Growth → Type 0
IsGrown method daily os k (Known f) = AreKnown daily (take k os) × Follows method daily os k f
IsGrown method daily os k Passed = AreKnown daily (take k os) × PassesBy method daily os
IsGrown method daily os k Absent = AreKnown daily os → ⊥

-- a year has a day or more
pub some_days : (year : YearDays) → 1 ≤ days_of_year year
some_days Days360 = omega arith
some_days Days365 = omega arith

-- what is known before the first observation
pub grown_none : (method : DailyRateMethod) (daily : DailyRates) (os : List Observation) (g : Growth)
    → g ≡ Known (first_factor method) → IsGrown method daily os 0 g
grown_none (Compounding year) daily os g e =
    let within : unsigned_abs (one_factor rate_precision) ≤ rate_precision.most = omega arith in
    subst (IsGrown (Compounding year) daily os 0) (sym e)
    (tt, compounds_none rate_precision (days_of_year year) (some_days year) daily os within)
grown_none Averaging daily os g e =
    subst (IsGrown Averaging daily os 0) (sym e) (tt, record { through = refl; size = omega arith })

some_of : (r : ℤ) (o : Option ℤ) → o ≡ Some r → IsSome o
some_of r o e = subst IsSome (sym e) refl

module _ (daily : DailyRates) (os : List Observation) (k : ℕ) (o : Observation) (low : k < length os)
    (is : get_or os k o ≡ o) where
  -- one more rate is known
  known_more : (r : ℤ) → daily o.observed ≡ Some r → AreKnown daily (take k os) → AreKnown daily (take (k + 1) os)
  known_more r rate known =
      every_more (λ (x : Observation). IsSome (daily x.observed)) os k o low is known (some_of r (daily o.observed) rate)

  grows : (year : YearDays) (r : ℤ) → daily o.observed ≡ Some r → (f g : ℤ) → StepsBy (Compounding year) r o.weight f g
      → GrowsBy (days_of_year year) daily o f g
  grows year r rate f g step = record { rate = r; is_rate = rate; rounded = step }

  -- the next factor keeps the limit
  follows_more : (method : DailyRateMethod) (r : ℤ) → daily o.observed ≡ Some r → (f g : ℤ)
      → StepsBy method r o.weight f g → unsigned_abs g ≤ most_factor → Follows method daily os k f
      → Follows method daily os (k + 1) g
  follows_more (Compounding year) r rate f g step within h =
      compounds_more rate_precision (days_of_year year) (some_days year) daily os k f g o low is
      (grows year r rate f g step) h within
  follows_more Averaging r rate f g step within h =
      let size = h.size in
      let more = total_more os k o low is in
      let grown = step.1 in
      record {
        through = through_more (AddsBy daily) os k o (pos 0) f g low is h.through
            (record { rate = r; is_rate = rate; sum = step.0 });
        size = omega (arith, size, more, grown);
      }

  -- the next factor passes it
  passes_next : (method : DailyRateMethod) → HasWeights os → (r : ℤ) → daily o.observed ≡ Some r → (f g : ℤ)
      → StepsBy method r o.weight f g → most_factor < unsigned_abs g → Follows method daily os k f
      → PassesBy method daily os
  passes_next (Compounding year) weights r rate f g step past h =
      passes_at rate_precision (days_of_year year) (some_days year) daily os k f g o low is
      (grows year r rate f g step) h past
  passes_next Averaging weights r rate f g step past h =
      let size = h.size in
      let more = total_more os k o low is in
      let first = total_first os (k + 1) in
      let few = weights.few in
      let grown = step.1 in
      omega (arith, size, more, first, few, grown, past)

  stepped_more : (method : DailyRateMethod) → HasWeights os → (r : ℤ) → daily o.observed ≡ Some r → (f : ℤ)
      (after : Growth) → AreKnown daily (take k os) → Follows method daily os k f → IsStepped method r o.weight f after
      → IsGrown method daily os (k + 1) after
  stepped_more method weights r rate f (Known g) known h step =
      (known_more r rate known, follows_more method r rate f g step.0 step.1 h)
  stepped_more method weights r rate f Passed known h step =
      (known_more r rate known, passes_next method weights r rate f step.0 step.1 step.2 h)
  stepped_more method weights r rate f Absent known h step = absurd step

  -- what is known with one more rate
  with_rate : (method : DailyRateMethod) → HasWeights os → (r : ℤ) → daily o.observed ≡ Some r → (before after : Growth)
      → IsGrown method daily os k before → IsNext method (Some r) o.weight before after
      → IsGrown method daily os (k + 1) after
  with_rate method weights r rate (Known f) after h next = stepped_more method weights r rate f after h.0 h.1 next
  with_rate method weights r rate Passed after h next =
      subst (IsGrown method daily os (k + 1)) (sym next) (known_more r rate h.0, h.1)
  with_rate method weights r rate Absent after h next = subst (IsGrown method daily os (k + 1)) (sym next) h

  by_rate : (method : DailyRateMethod) → HasWeights os → (rate : Option ℤ) → daily o.observed ≡ rate
      → (before after : Growth) → IsGrown method daily os k before → IsNext method rate o.weight before after
      → IsGrown method daily os (k + 1) after
  by_rate method weights (Some r) rate before after h next = with_rate method weights r rate before after h next
  by_rate method weights None rate before after h next =
      subst (IsGrown method daily os (k + 1)) (sym next) (absent_at daily os k o low is rate)

  -- what is known with one more observation
  pub grown_more : (method : DailyRateMethod) → HasWeights os → (rate : Option ℤ) → rate ≡ daily o.observed
      → (before after : Growth) → IsGrown method daily os k before → IsNext method rate o.weight before after
      → IsGrown method daily os (k + 1) after
  grown_more method weights rate e before after h next = by_rate method weights rate (sym e) before after h next

-- what is known after all observations
pub grown_all : (method : DailyRateMethod) (daily : DailyRates) (os : List Observation) (k : ℕ) (g : Growth)
    → length os ≤ k → IsGrown method daily os k g → IsGrowthOf method daily os g
grown_all (Compounding year) daily os k (Known f) all h =
    let basis = days_of_year year in (
      λ past. none_passes rate_precision basis (some_days year) daily os k f all h.1 past.passes,
      grows_all rate_precision basis (some_days year) daily os k f all h.1,
    )
grown_all Averaging daily os k (Known f) all h =
    (λ past. past, through_all (AddsBy daily) os k (pos 0) f all h.1.through)
grown_all (Compounding year) daily os k Passed all h =
    record { known = every_all (λ (x : Observation). IsSome (daily x.observed)) os k all h.0; passes = h.1 }
grown_all Averaging daily os k Passed all h = absurd h.1
grown_all method daily os k Absent all h = h
