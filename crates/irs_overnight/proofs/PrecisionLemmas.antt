-- The observed rate and the derived rate of one period: they have the same members, weights and rates, and are near.
use Rattle.std.proofs.Common.{◌≡◌, inl, inr, ℕ, zero, suc, ◌+◌, ◌-◌, ◌*◌, ◌^◌, ◌<◌, ◌≤◌, min, List, [], ◌∷◌, length}
use Rattle.std.proofs.Common.{Option, Some, None, IfSome, ℤ, pos, ◌+ℤ◌, ◌-ℤ◌, ◌*ℤ◌, ◌≤ℤ◌, ◌<ℤ◌, ◌⊎◌, refl, sym, subst}
use Rattle.std.proofs.Common.{◌∙◌, ap, arith}
use Rattle.std.specs.Prelude.{unsigned_abs}
use Rattle.std.proofs.lemmas.Bool.{cases_lt}
use Rattle.std.proofs.lemmas.List.{take_all}
use Rattle.jiff_core.proofs.SignedLemmas.{signed_arith}
use Rattle.irs_base.specs.Days.{IsDay}
use Rattle.irs_base.specs.Lists.{EachNumbered, Pairs, day_at}
use Rattle.irs_base.specs.Limits.{Rounded}
use Rattle.irs_base.specs.declared.rounding.Direction.TheVariants.{Nearest}
use Rattle.irs_base.proofs.Decided.{order_of}
use Rattle.irs_base.proofs.RoundingLaws.{rounded_is}
use Rattle.irs_base.proofs.Rising.{one_rising}
use Rattle.irs_terms.specs.declared.parameters.ObservationOffset.{ObservationOffset}
use Rattle.irs_terms.specs.declared.parameters.ObservationOffset.TheVariants.{Absent}
use Rattle.irs_calendar.specs.GoodDays.{DaySet, IsGood, Prev}
use Rattle.irs_adjust.specs.Private.ConventionLaws.{one_prev, prev_stays}
use Rattle.irs_resets.specs.Rates.{RateTable}
use Rattle.irs_observed.specs.ObservedRates.{DailyRates, daily_rates, Grows as GrowsFine, GrowsBy as GrowsFineBy}
use Rattle.irs_observed.specs.ObservedRates.{one_factor as one_fine, RateFraction, IsObservedRate, days_of_year}
use Rattle.irs_observed.specs.ObservedRates.{rate_precision, EachRate, unit_rate}
use Rattle.irs_observed.specs.Observations.{observed_period, AreObserved as AreObservedFine}
use Rattle.irs_observed.specs.Observations.{IsObservation as IsObserved, total_weight, AreMembers, IsPeriodMember}
use Rattle.irs_observed.specs.Observations.{member_or_end}
use Rattle.irs_observed.specs.OvernightRates.{IsOvernightRate, IsRateOver, OvernightSource, period_of, printed_rate}
use Rattle.irs_observed.specs.declared.method.DailyRateMethod.{DailyRateMethod}
use Rattle.irs_observed.specs.declared.method.DailyRateMethod.TheVariants.{Compounding}
use Rattle.irs_observed.specs.declared.method.YearDays.{YearDays}
use Rattle.irs_observed.specs.declared.method.YearDays.TheVariants.{Days360, Days365}
use Rattle.irs_observed.specs.declared.observation.Observation.{Observation as Observed}
use Rattle.irs_observed.specs.declared.overnight_rate.OvernightRate.TheVariants.{Known, Stated}
use Rattle.irs_observed.proofs.ListLemmas.{at_or_end, member_place, past_end, rises_to}
use Rattle.irs_observed.proofs.WalkLemmas.{first_member, good_later, good_member}
use Rattle.irs_overnight.specs.Overnight.{derived_period_at, DerivedSource, IsDerivedRow}
use Rattle.irs_overnight.specs.Observations.{DerivedGrows, DerivedGrowsBy, derived_one, FindsRate, derived_period}
use Rattle.irs_overnight.specs.Observations.{AreRateObservations, AreRatesObserved, IsRateObservation, next_start}
use Rattle.irs_overnight.specs.Observations.{observed_on, RateLines, daily_lines, rate_by, AreStarts, Starts}
use Rattle.irs_overnight.specs.TwoPrecisions.{AgreeAsPrinted, AgreeInStream, AgreeUnrounded, AreNear, CompoundedPeriod}
use Rattle.irs_overnight.specs.TwoPrecisions.{StartsBeforeItEnds, IsObservedIn, IsOneStream, StaysLow}
use Rattle.irs_overnight.specs.TwoPrecisions.{compounded_period}
use Rattle.irs_overnight.specs.TwoPrecisions.{up_to_ten, with_parameters, without_parameters}
use Rattle.irs_overnight.specs.declared.derived.DerivedRow.{DerivedRow}
use Rattle.irs_overnight.specs.declared.derived.Found.{Found}
use Rattle.irs_overnight.specs.declared.derived.Found.TheVariants.{Rate}
use Rattle.irs_overnight.specs.declared.observations.Observation.{Observation}
use Rattle.irs_overnight.proofs.PeriodLemmas.{some_basis}
use Rattle.irs_overnight.proofs.TwoProducts.{Close, Near, Stays, near_by, near_fractions, near_printed, stays_next}
use Rattle.irs_overnight.proofs.TwoProducts.{stays_one}

-- ---- the same members

-- the members of a period are the days from which its daily rates hold
same_members : (set : DaySet) (s e : ℤ) (u v : List ℤ) → s <ℤ e → AreMembers set s e u → AreStarts set s e v → v ≡ u
same_members set s e u v order members starts =
    one_rising v u starts.rising members.rising (λ d m. members.complete d (as_member d (starts.sound d m)))
    (λ d m. starts.complete d (as_start d (members.sound d m)))
  where
    as_member : (d : ℤ) → Starts set s e d → IsPeriodMember set s e d
    as_member d (inl first) =
        (omega (arith, signed_arith, first), omega (arith, signed_arith, first, order), inl first)
    as_member d (inr later) = let low = later.0 in (omega (arith, signed_arith, low), later.1, inr later.2)

    by_order : (d : ℤ) → s ≤ℤ d → d <ℤ e → IsGood set d → (d ≡ s) ⊎ (s <ℤ d) → Starts set s e d
    by_order d low high good (inl here) = inl here
    by_order d low high good (inr later) = inr (later, high, good)

    at_or_after : (d : ℤ) → s ≤ℤ d → (d ≡ s) ⊎ (s <ℤ d)
    at_or_after d low = elim (order_of s d) [
      | inl before ↦ inr before
      | inr (inl after) ↦ absurd (omega (arith, signed_arith, low, after))
      | inr (inr same) ↦ inl (sym same)
    ]

    as_start : (d : ℤ) → IsPeriodMember set s e d → Starts set s e d
    as_start d m = elim m.2 [
      | inl first ↦ inl first
      | inr good ↦ by_order d m.0 m.1 good (at_or_after d m.0)
    ]

-- ---- the same weights and rates

-- the two observations of a member
pub record Same (daily : DailyRates) (o : Observed) (p : Observation) : Type 0 where
  pub above : 0 < o.weight
  pub weight : p.weight ≡ pos o.weight
  pub rate : p.rate ≡ daily o.observed

own_place : (k n : ℕ) → k < n → min k (n - 1 - 0) ≡ k
own_place k n h = omega (arith, h)

module _ (set : DaySet) (rates : RateTable) (index : List ℕ) (s e q : ℤ) (u : List ℤ) (members : AreMembers set s e u)
    (previous : Prev set s q) where
  observed_at : (k : ℕ) (o : ℤ) → k < length u → Prev set (day_at u k) o → o ≡ observed_on q u k
  observed_at zero o low prev =
      let first = first_member set s e u members low in
      one_prev set s o q (subst (λ (d : ℤ). Prev set d o) first prev) previous
  observed_at (suc k) o low prev =
      let good = good_member set s e u members (suc k) (omega arith) low in
      one_prev set (day_at u (suc k)) o (day_at u (suc k)) prev (prev_stays set (day_at u (suc k)) good)
      ∙ sym (good_later q u k)

  same_at : (k : ℕ) (o : Observed) (p : Observation) → k < length u → IsObserved Absent set u e k o
      → IsRateObservation (daily_lines rates index) q u e k p → Same (daily_rates rates index) o p
  same_at k o p low is are =
      let rises = rises_to u e k members.rising (λ d m. (members.sound d m).1) low in
      let one : suc k ≡ k + 1 = omega arith in
      let next : day_at u k <ℤ member_or_end u e (k + 1) =
      subst (λ (j : ℕ). day_at u k <ℤ member_or_end u e j) one rises in
      let day = is.day in
      let weight = is.weight in
      let looks : Prev set (day_at u k) o.observed =
      subst (λ (j : ℕ). Prev set (day_at u j) o.observed) (own_place k (length u) low) is.observed in
      let seen = observed_at k o.observed low looks in
      let long : p.weight ≡ next_start u e k -ℤ day_at u k = ap (λ (x : Observation). x.weight) are in
      let found : p.rate ≡ rate_by (daily_lines rates index) (observed_on q u k) =
      ap (λ (x : Observation). x.rate) are in
      record {
        above = omega (arith, signed_arith, next, day, weight);
        weight = omega (arith, signed_arith, long, day, weight);
        rate = found ∙ ap (daily_rates rates index) (sym seen);
      }

  pub same_each : (k : ℕ) (os : List Observed) (ps : List Observation) → k + length os ≡ length u
      → k + length ps ≡ length u → EachNumbered (IsObserved Absent set u e) k os
      → EachNumbered (IsRateObservation (daily_lines rates index) q u e) k ps → Pairs (Same (daily_rates rates index)) os ps
  same_each k [] [] many long each all = tt
  same_each k [] (p ∷ ps) many long each all = absurd (omega (arith, many, long))
  same_each k (o ∷ os) [] many long each all = absurd (omega (arith, many, long))
  same_each k (o ∷ os) (p ∷ ps) many long each all = (
    same_at k o p (omega (arith, many)) each.0 all.0,
    same_each (k + 1) os ps (omega (arith, many)) (omega (arith, long)) each.1 all.1,
  )

  total_from : (k : ℕ) (os : List Observed) → k + length os ≡ length u → EachNumbered (IsObserved Absent set u e) k os
      → member_or_end u e k +ℤ pos (total_weight os) ≡ e
  total_from k [] many each =
      let all : k ≡ length u = omega (arith, many) in
      let at : member_or_end u e k ≡ e = subst (λ (j : ℕ). member_or_end u e j ≡ e) (sym all) (past_end u e) in
      omega (arith, signed_arith, at)
  total_from k (o ∷ os) many each =
      let at = at_or_end u e k (omega (arith, many)) in
      let day = each.0.day in
      let weight = each.0.weight in
      let rest = total_from (k + 1) os (omega (arith, many)) each.1 in
      omega (arith, signed_arith, at, day, weight, rest)

-- ---- the products

-- what holds of the rate that is there
rate_meets : (P : ℤ → Type 0) (found : Option ℤ) (r : ℤ) → IfSome found P → found ≡ Some r → P r
rate_meets P None r h e = absurd (cc)
rate_meets P (Some x) r h e = let same : x ≡ r = cc in subst P same h

same_found : (a b : ℤ) (found : Option ℤ) → found ≡ Some a → found ≡ Some b → a ≡ b
same_found a b found h k = cc

module _ (basis : ℕ) (some : 0 < 10 ^ 9 * basis) (daily : DailyRates) where
  stays_step : (o : Observed) (p : Observation) (v : ℕ) (f g h k : ℤ) → Same daily o p → v ≤ 10 ^ 15
      → IfSome (daily o.observed) (λ r. pos 0 ≤ℤ r) → Stays v f g → GrowsFineBy basis daily o f h → DerivedGrowsBy basis p g k
      → Stays (v + o.weight) h k
  stays_step o p v f g h k same few low s fine coarse =
      let rate = same_found fine.rate coarse.rate (daily o.observed) fine.is_rate (sym same.rate ∙ coarse.observed) in
      let days : Rounded Nearest (g *ℤ (unit_rate basis +ℤ coarse.rate *ℤ pos o.weight)) (unit_rate basis) k =
      subst (λ (w : ℤ). Rounded Nearest (g *ℤ (unit_rate basis +ℤ coarse.rate *ℤ w)) (unit_rate basis) k) same.weight
      coarse.rounded in
      let by : Rounded Nearest (g *ℤ (unit_rate basis +ℤ fine.rate *ℤ pos o.weight)) (unit_rate basis) k =
      subst (λ (r : ℤ). Rounded Nearest (g *ℤ (unit_rate basis +ℤ r *ℤ pos o.weight)) (unit_rate basis) k) (sym rate)
      days in
      stays_next (10 ^ 9 * basis) o.weight v some same.above few fine.rate f g h k
      (rate_meets (λ r. pos 0 ≤ℤ r) (daily o.observed) fine.rate low fine.is_rate) s fine.rounded by

  pub stays_through : (os : List Observed) (ps : List Observation) (v : ℕ) (f g h k : ℤ) → Pairs (Same daily) os ps
      → v + total_weight os ≤ 10 ^ 15 → EachRate daily (λ r. pos 0 ≤ℤ r) os → Stays v f g
      → GrowsFine basis daily os f h → DerivedGrows basis ps g k → Stays (v + total_weight os) h k
  stays_through [] [] v f g h k pairs few low s fine coarse =
      let none : v ≡ v + 0 = omega arith in
      subst (λ (n : ℕ). Stays n h k) none
      (subst (λ (y : ℤ). Stays v h y) (sym coarse) (subst (λ (x : ℤ). Stays v x g) (sym fine) s))
  stays_through [] (p ∷ ps) v f g h k pairs few low s fine coarse = absurd pairs
  stays_through (o ∷ os) [] v f g h k pairs few low s fine coarse = absurd pairs
  stays_through (o ∷ os) (p ∷ ps) v f g h k pairs few low s fine coarse =
      let next = stays_step o p v f g fine.0 coarse.0 pairs.0 (omega (arith, few)) low.0 s fine.1 coarse.1 in
      let sum : v + o.weight + total_weight os ≡ v + (o.weight + total_weight os) = omega arith in
      subst (λ (n : ℕ). Stays n h k) sum
      (stays_through os ps (v + o.weight) fine.0 coarse.0 h k pairs.1 (omega (arith, few)) low.1 next fine.2 coarse.2)

-- ---- the rates

year_some : (year : YearDays) → 0 < 10 ^ 9 * days_of_year year
year_some Days360 = omega arith
year_some Days365 = omega arith

year_most : (year : YearDays) → days_of_year year ≤ 365
year_most Days360 = omega arith
year_most Days365 = omega arith

-- both products of a period, at the end
pub record Ends (p : CompoundedPeriod) (x : RateFraction) (g : ℤ) : Type 0 where
  pub weight : ℕ
  pub days : p.end -ℤ p.start ≡ pos weight
  pub some : 0 < weight
  pub fine : ℕ
  pub coarse : ℕ
  pub near : Near (days_of_year p.year) weight fine coarse
  pub numerator : x.numerator ≡ pos fine *ℤ pos (days_of_year p.year)
  pub denominator : x.denominator ≡ pos (10 ^ 18) *ℤ pos weight
  pub is_coarse : g -ℤ derived_one ≡ pos coarse

above_one : (f : ℤ) (n m : ℕ) → f ≡ pos n → m ≤ n → f -ℤ pos m ≡ pos (n - m)
above_one f n m is large = omega (arith, signed_arith, is, large)

split : (n m : ℕ) → m ≤ n → n ≡ m + (n - m)
split n m large = omega (arith, large)

some_members : (set : DaySet) (s e : ℤ) (u : List ℤ) → s <ℤ e → AreMembers set s e u → 0 < length u
some_members set s e u order members =
    let at = member_place s u (members.complete s (omega (arith, signed_arith), order, inl refl)) in
    let low = at.1 in
    omega (arith, low)

days_between : (a s e : ℤ) (w : ℕ) → a ≡ s → a +ℤ pos w ≡ e → e -ℤ s ≡ pos w
days_between a s e w same sum = omega (arith, signed_arith, same, sum)

few_days : (s e : ℤ) (w : ℕ) → IsDay s → IsDay e → e -ℤ s ≡ pos w → w ≤ 10 ^ 15
few_days s e w first last sum =
    let low = first.0 in
    let high = last.1 in
    omega (arith, signed_arith, low, high, sum)

some_days : (s e : ℤ) (w : ℕ) → s <ℤ e → e -ℤ s ≡ pos w → 0 < w
some_days s e w order sum = omega (arith, signed_arith, order, sum)

module _ (p : CompoundedPeriod) (has : StartsBeforeItEnds p) (low : StaysLow p) (x : RateFraction) (is : IsObservedIn p x)
    (ps : List Observation) (are : AreRateObservations (daily_lines p.rates p.index) p.days p.start p.end ps) (g : ℤ)
    (grows : DerivedGrows (days_of_year p.year) ps derived_one g) where
  abbrev members : List ℤ
  members = is.are_observations.members

  are_members : AreMembers p.days p.start p.end members
  are_members =
      subst (λ (b : ℤ). AreMembers p.days p.start b members) is.are_observations.period.to
      (subst (λ (a : ℤ). AreMembers p.days a is.are_observations.to members) is.are_observations.period.from
      is.are_observations.are_members)

  fine_observed : AreObservedFine Absent p.days members p.end is.observations
  fine_observed =
      subst (λ (b : ℤ). AreObservedFine Absent p.days members b is.observations) is.are_observations.period.to
      is.are_observations.observed

  coarse_observed : AreRatesObserved (daily_lines p.rates p.index) are.first members p.end ps
  coarse_observed =
      subst (λ (u : List ℤ). AreRatesObserved (daily_lines p.rates p.index) are.first u p.end ps)
      (same_members p.days p.start p.end members are.starts has.order are_members are.are_starts) are.observed

  pairs : Pairs (Same (daily_rates p.rates p.index)) is.observations ps
  pairs =
      let many = fine_observed.many in
      let long = coarse_observed.many in
      same_each p.days p.rates p.index p.start p.end are.first members are_members are.previous 0 is.observations ps
      (omega (arith, many)) (omega (arith, long)) fine_observed.each coarse_observed.each

  days : p.end -ℤ p.start ≡ pos (total_weight is.observations)
  days =
      let many = fine_observed.many in
      let some = some_members p.days p.start p.end members has.order are_members in
      let first = at_or_end members p.end 0 some ∙ first_member p.days p.start p.end members are_members some in
      let total = total_from p.days p.rates p.index p.start p.end are.first members are_members are.previous 0
      is.observations (omega (arith, many)) fine_observed.each in
      days_between (member_or_end members p.end 0) p.start p.end (total_weight is.observations) first total

  stays : Stays (0 + total_weight is.observations) is.is_rate.factor g
  stays =
      let few = few_days p.start p.end (total_weight is.observations) has.first has.last days in
      stays_through (days_of_year p.year) (year_some p.year) (daily_rates p.rates p.index) is.observations ps 0
      (one_fine rate_precision) derived_one is.is_rate.factor g pairs (omega (arith, few))
      (low.not_below is.observations is.are_observations) stays_one is.is_rate.grows grows

  small : stays.fine ≤ 10 ^ 19
  small = elim (cases_lt (10 ^ 19) stays.fine) [
    | inl past ↦ absurd (low.within is.observations is.are_observations (record {
      count = length is.observations;
      within = omega arith;
      factor = is.is_rate.factor;
      reaches = subst
          (λ (os : List Observed). GrowsFine (days_of_year p.year) (daily_rates p.rates p.index) os
          (one_fine up_to_ten) is.is_rate.factor)
          (sym (take_all (length is.observations) is.observations (omega arith))) is.is_rate.grows;
      passes = subst (λ (f : ℤ). 10 ^ 19 < unsigned_abs f) (sym stays.is_fine) past;
    }))
    | inr kept ↦ omega (arith, kept)
  ]

  near : Near (days_of_year p.year) (total_weight is.observations) (stays.fine - 10 ^ 18) (stays.coarse - 10 ^ 15)
  near =
      let fine = split stays.fine (10 ^ 18) stays.large in
      let coarse = split stays.coarse (10 ^ 15) stays.large_coarse in
      let none : 0 + total_weight is.observations ≡ total_weight is.observations = omega arith in
      near_by (days_of_year p.year) (total_weight is.observations) (stays.fine - 10 ^ 18) (stays.coarse - 10 ^ 15)
      (year_most p.year) (subst (λ (n : ℕ). n ≤ 10 ^ 19) fine small)
      (subst (λ (n : ℕ). Close (total_weight is.observations) (10 ^ 18 + (stays.fine - 10 ^ 18)) n) coarse
      (subst (λ (n : ℕ). Close (total_weight is.observations) n stays.coarse) fine
      (subst (λ (w : ℕ). Close w stays.fine stays.coarse) none stays.close)))

  pub ends : Ends p x g
  ends =
      let above = above_one is.is_rate.factor stays.fine (10 ^ 18) stays.is_fine stays.large in
      record {
        weight = total_weight is.observations;
        days = days;
        some = some_days p.start p.end (total_weight is.observations) has.order days;
        fine = stays.fine - 10 ^ 18;
        coarse = stays.coarse - 10 ^ 15;
        near = near;
        numerator = is.is_rate.numerator ∙ ap (λ (f : ℤ). f *ℤ pos (days_of_year p.year)) above;
        denominator = is.is_rate.denominator;
        is_coarse = above_one g stays.coarse (10 ^ 15) stays.is_coarse stays.large_coarse;
      }

-- fractions of these parts are near
near_of : (x y : RateFraction) (a b c d : ℤ) → x.numerator ≡ a → x.denominator ≡ b → y.numerator ≡ c → y.denominator ≡ d
    → AreNear (record { numerator = a; denominator = b }) (record { numerator = c; denominator = d }) → AreNear x y
near_of x y a b c d xn xd yn yd near =
    subst (λ (v : ℤ). AreNear x (record { numerator = y.numerator; denominator = v })) (sym yd)
    (subst (λ (v : ℤ). AreNear x (record { numerator = v; denominator = d })) (sym yn)
    (subst (λ (v : ℤ). AreNear (record { numerator = x.numerator; denominator = v })
    (record { numerator = c; denominator = d })) (sym xd)
    (subst (λ (v : ℤ). AreNear (record { numerator = v; denominator = b }) (record { numerator = c; denominator = d }))
    (sym xn) near)))

-- before they are rounded the two rates of a period are near
pub agree_unrounded : (p : CompoundedPeriod) → AgreeUnrounded p
agree_unrounded p has low x y is derived =
    let end = ends p has low x is derived.observations derived.are_observations derived.factor derived.grows in
    let basis = days_of_year p.year in
    near_of x y (pos end.fine *ℤ pos basis) (pos (10 ^ 18) *ℤ pos end.weight) (pos end.coarse *ℤ pos basis)
    (pos (10 ^ 15) *ℤ pos end.weight) end.numerator end.denominator
    (derived.numerator ∙ ap (λ (f : ℤ). f *ℤ pos basis) end.is_coarse)
    (derived.denominator ∙ ap (λ (d : ℤ). pos (10 ^ 15) *ℤ d) end.days)
    (near_fractions basis end.weight end.fine end.coarse end.some end.near)

-- as they are printed the two rates of a period differ by at most 1
pub agree_as_printed : (p : CompoundedPeriod) → AgreeAsPrinted p
agree_as_printed p has low x z r is shown finds =
    let end = ends p has low x is finds.observations finds.are finds.is.factor finds.is.grows in
    let basis = days_of_year p.year in
    let fine = subst (λ (d : ℤ). Rounded Nearest (pos (10 ^ 9) *ℤ (pos end.fine *ℤ pos basis)) d z) end.denominator
    (subst (λ (n : ℤ). Rounded Nearest (pos (10 ^ 9) *ℤ n) x.denominator z) end.numerator shown) in
    let coarse = subst (λ (d : ℤ). Rounded Nearest (pos end.coarse *ℤ pos basis) (pos (10 ^ 6) *ℤ d) r) end.days
    (subst (λ (f : ℤ). Rounded Nearest (f *ℤ pos basis) (pos (10 ^ 6) *ℤ (p.end -ℤ p.start)) r) end.is_coarse
    finds.is.rounded) in
    near_printed basis end.weight end.fine end.coarse end.some end.near z r fine coarse

-- ---- over a stream

-- with one member at least a fraction of daily rates has a denominator above 0
denominator_above : (year : YearDays) (daily : DailyRates) (os : List Observed) (x : RateFraction) → 0 < total_weight os
    → IsObservedRate (Compounding year) daily os x → pos 0 <ℤ x.denominator
denominator_above year daily os x some is =
    let above : pos 0 <ℤ (pos (10 ^ 18) *ℤ pos (total_weight os)) = omega (arith, signed_arith, some) in
    subst (λ (d : ℤ). pos 0 <ℤ d) (sym is.denominator) above

known_over : (source : OvernightSource) (rates : RateTable) (i : ℕ) (x : RateFraction)
    → IsOvernightRate source rates i (Known x)
    → IsRateOver source.method (daily_rates rates source.index) (period_of source i) (Known x)
known_over source rates i x is = elim is.is_rate [
  | inl stated ↦ absurd (not_stated x stated.0 stated.2)
  | inr over ↦ over.1
]
  where
    not_stated : (x : RateFraction) (rate : ℤ) → Known x ≡ Stated rate → ⊥
    not_stated x rate e = cc

module _ (observed : OvernightSource) (derived : DerivedSource) (rates : RateTable) (year : YearDays)
    (one : IsOneStream observed derived rates year) (i : ℕ) where
  over_absent : (x : RateFraction) → IsOvernightRate observed rates i (Known x)
      → IsRateOver (Compounding year) (daily_rates rates observed.index)
      (with_parameters (compounded_period observed rates year i)) (Known x)
  over_absent x is =
      subst (λ (o : ObservationOffset). IsRateOver (Compounding year) (daily_rates rates observed.index)
      (observed_period o observed.applicable (day_at observed.adjusted (i - 1)) (day_at observed.adjusted i)) (Known x))
      one.offset
      (subst (λ (m : DailyRateMethod). IsRateOver m (daily_rates rates observed.index) (period_of observed i) (Known x))
      one.method (known_over observed rates i x is))

  finds_over : (row : DerivedRow) (r : ℤ) → IsDerivedRow derived i row → row.found ≡ Rate r
      → FindsRate (without_parameters (compounded_period observed rates year i)) (Rate r)
  finds_over row r is found =
      let basis = some_basis is.basis (days_of_year year) (sym is.is_basis ∙ one.basis) in
      let a = subst (λ (f : Found). FindsRate (derived_period_at derived is.basis i) f) found is.finds in
      let b = subst (λ (n : ℕ). FindsRate (derived_period_at derived n i) (Rate r)) basis a in
      let c = subst (λ (u : List ℤ). FindsRate (derived_period (days_of_year year) derived.lines derived.days
      (day_at u (i - 1)) (day_at u i)) (Rate r)) one.adjusted b in
      let d = subst (λ (s : DaySet). FindsRate (derived_period (days_of_year year) derived.lines s
      (day_at observed.adjusted (i - 1)) (day_at observed.adjusted i)) (Rate r)) one.days c in
      subst (λ (l : RateLines). FindsRate (derived_period (days_of_year year) l observed.applicable
      (day_at observed.adjusted (i - 1)) (day_at observed.adjusted i)) (Rate r)) one.lines d

-- so do the rates of each period of a stream in both forms
pub agree_in_stream : (observed : OvernightSource) (derived : DerivedSource) (rates : RateTable) (year : YearDays)
    → AgreeInStream observed derived rates year
agree_in_stream observed derived rates year one i x row r has low is row_is found =
    let over = over_absent observed derived rates year one i x is in
    let rate = over.is_rate.1 in
    let above = denominator_above year (daily_rates rates observed.index) over.observations x over.some rate in
    agree_as_printed (compounded_period observed rates year i) has low x (printed_rate x) r
    (record { observations = over.observations; are_observations = over.are_observations; is_rate = rate })
    (rounded_is Nearest (pos (10 ^ 9) *ℤ x.numerator) x.denominator above)
    (finds_over observed derived rates year one i row r row_is found)
