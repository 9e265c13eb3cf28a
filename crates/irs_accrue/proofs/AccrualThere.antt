-- There is an accrual of a stream on each day.
use Rattle.std.proofs.Common.{◌≡◌, ◌⊎◌, inl, inr, ℕ, zero, suc, ◌+◌, ◌-◌, ◌*◌, ◌^◌, ◌<◌, ◌≤◌, List, [], ◌∷◌, length, Bool}
use Rattle.std.proofs.Common.{true, false, Option, Some, None, option_map, ℤ, pos, ◌-ℤ◌, ◌*ℤ◌, ◌<ℤ◌, ◌≤ℤ◌, refl, sym, ap}
use Rattle.std.proofs.Common.{subst, arith, unsigned_abs}
use Rattle.std.specs.Prelude.{get_or, int_lt, if◌then◌else◌}
use Rattle.std.proofs.lemmas.Bool.{cases_lt}
use Rattle.std.proofs.lemmas.Int.{by_lt_z}
use Rattle.std.proofs.lemmas.Option.{slice_get-get_or}
use Rattle.jiff_core.proofs.SignedLemmas.{signed_arith}
use Rattle.irs_base.specs.Limits.{most_rate}
use Rattle.irs_base.specs.Lists.{day_at}
use Rattle.irs_base.specs.Outcomes.{Determined, answered, refused}
use Rattle.irs_base.proofs.MemberLemmas.{some_is}
use Rattle.irs_base.proofs.RoundingLaws.{nearest_exists}
use Rattle.irs_base.specs.declared.line.Dec.{Dec}
use Rattle.irs_terms.specs.Lawful.{decimals_of}
use Rattle.irs_terms.specs.declared.amounts.FloatTerms.{FloatTerms}
use Rattle.irs_terms.specs.declared.amounts.Leg.{Leg}
use Rattle.irs_terms.specs.declared.amounts.Leg.TheVariants.{Fixed, Floating}
use Rattle.irs_terms.specs.declared.amounts.StubTerms.{StubTerms}
use Rattle.irs_terms.specs.declared.codes.DayCountCode.{DayCountCode}
use Rattle.irs_terms.specs.declared.codes.DayCountCode.TheVariants.{OneOne, ActActIsda, Act365Fixed, Act360, Thirty360}
use Rattle.irs_terms.specs.declared.codes.DayCountCode.TheVariants.{ThirtyE360, ThirtyE360Isda}
use Rattle.irs_terms.specs.declared.parameters.CalculationParameters.{CalculationParameters}
use Rattle.irs_terms.specs.declared.results.Frac.{Frac}
use Rattle.irs_terms.specs.declared.results.Span.{Span}
use Rattle.irs_terms.specs.declared.stream.Stream.{Stream}
use Rattle.irs_calendar.specs.GoodDays.{DaySet}
use Rattle.irs_periods.specs.Spans.{Regular}
use Rattle.irs_resets.proofs.KindLaws.{kind_there}
use Rattle.irs_resets.specs.Rates.{RateTable}
use Rattle.irs_resets.specs.declared.observed.PeriodKind.{PeriodKind}
use Rattle.irs_daycount.specs.Fractions.{days_of, denominator_of, fraction_of}
use Rattle.irs_daycount.specs.Private.FractionLaws.{days_is, fraction_is}
use Rattle.irs_observed.specs.ObservedRates.{DailyRates}
use Rattle.irs_observed.specs.Observations.{AreObservations, IsObservationPeriod, LacksObservations, LacksObservedDay}
use Rattle.irs_observed.specs.Observations.{ObservedPeriod, Shifts, no_period, total_weight, uncovered, unobserved as unseen}
use Rattle.irs_observed.specs.OvernightRates.{HasOwnRate, IsRateBefore, ends_by, observations_of, observed_until}
use Rattle.irs_observed.specs.Private.OvernightRates.{own_rate_of}
use Rattle.irs_observed.specs.declared.method.DailyRateMethod.{DailyRateMethod}
use Rattle.irs_observed.specs.declared.observation.NoObservations.{NoObservations}
use Rattle.irs_observed.specs.declared.observation.NoObservations.TheVariants.{FewMembers, NoDay}
use Rattle.irs_observed.specs.declared.observation.Observation.{Observation}
use Rattle.irs_observed.specs.declared.overnight_rate.OvernightRate.{OvernightRate}
use Rattle.irs_observed.specs.declared.overnight_rate.OvernightRate.TheVariants.{Absent}
use Rattle.irs_observed.proofs.ListLemmas.{rises_to}
use Rattle.irs_observed.proofs.OriginLemmas.{own_states, states_own}
use Rattle.irs_observed.proofs.OutcomeLemmas.{observations_determined}
use Rattle.irs_observed.proofs.OvernightThere.{rate_by_there}
use Rattle.irs_observed.proofs.PeriodLemmas.{one_shift}
use Rattle.irs_observed.proofs.WalkLemmas.{first_member}
use Rattle.irs_compound.specs.PeriodRates.{overnight_rates_by}
use Rattle.irs_compound.specs.Private.RateLaws.{overnight_are}
use Rattle.irs_compound.specs.declared.periods.Rates.{Rates}
use Rattle.irs_schedule.specs.Parts.{Part}
use Rattle.irs_schedule.specs.RowsOf.{dated_period, no_period as no_entry, period_at}
use Rattle.irs_schedule.specs.declared.entries.PeriodEntry.{PeriodEntry}
use Rattle.irs_schedule.specs.declared.views.CalculationPeriod.{CalculationPeriod}
use Rattle.irs_accrue.specs.Accruals.{CountedTo, HasRun, IsAccrual, IsAccrued, IsInterest, IsOutside, Runs}
use Rattle.irs_accrue.specs.DailyAccruals.{AccruesAs, AccruesDaily, DailyTerms, EarnsBefore, GivesRate, IsAccrualBy}
use Rattle.irs_accrue.specs.DailyAccruals.{IsAccrualOf, IsAccrualWith, IsDailyAccrual, before_first, daily_rates_of}
use Rattle.irs_accrue.specs.DailyAccruals.{daily_terms, method_of, no_amount_yet, observing, on_first, run_of, unobserved}
use Rattle.irs_accrue.specs.DailyAccruals.{whole_period}
use Rattle.irs_accrue.specs.declared.accruals.Accrual.{Accrual}
use Rattle.irs_accrue.specs.declared.accruals.Accrual.TheVariants.{Outside, Inside}
use Rattle.irs_accrue.proofs.OneAccrual.{IsAbove, den_above, scaled_above}
use Rattle.irs_accrue.proofs.OneDaily.{has_denominator}

-- ---- days and fraction

-- days that have run, and their fraction
abbrev Share : (ℤ → Frac → Type 0) → Type 0
Share P = (days : ℤ) × ((frac : Frac) × P days frac)

counted_there : (code : DayCountCode) (s d : ℤ) → Share (CountedTo code s d)
counted_there code s d =
    by_lt_z s d
    (λ (l : s <ℤ d). (
      days_of code s d false,
      (
        fraction_of code s d false,
        record {
          none = λ e. absurd (omega (arith, signed_arith, l, e));
          some = λ _. (days_is code s d false, fraction_is code s d false l);
        },
      ),
    ))
    (λ (l : d ≤ℤ s). (
      pos 0,
      (
        record { num = pos 0; den = denominator_of code },
        record { none = λ _. (refl, refl, refl); some = λ more. absurd (omega (arith, signed_arith, l, more)) },
      ),
    ))

run_there : (code : DayCountCode) (s d e : ℤ) → Share (HasRun code s d e)
run_there OneOne s d e =
    (d -ℤ s, (record { num = d -ℤ s; den = e -ℤ s }, record { passed = refl; num = refl; den = refl }))
run_there ActActIsda s d e = counted_there ActActIsda s d
run_there Act365Fixed s d e = counted_there Act365Fixed s d
run_there Act360 s d e = counted_there Act360 s d
run_there Thirty360 s d e = counted_there Thirty360 s d
run_there ThirtyE360 s d e = counted_there ThirtyE360 s d
run_there ThirtyE360Isda s d e = counted_there ThirtyE360Isda s d

-- ---- the amount

interest_there : (places : ℕ) (notional rate : ℤ) (f : Frac) → IsAbove f.den
    → (v : Dec) × IsInterest places notional rate f v
interest_there places notional rate f den =
    let units = nearest_exists (notional *ℤ rate *ℤ f.num *ℤ pos (10 ^ places)) (f.den *ℤ pos (10 ^ 13))
    (scaled_above f.den den) in
    (record { units = units.0; places = places }, record { decimals = refl; rounded = units.1 })

no_rate : (rate : ℤ) → (let o : Option ℤ = None in o ≡ Some rate) → ⊥
no_rate rate e = cc

accrued_there : (places : ℕ) (notional : ℤ) (known : Option ℤ) (f : Frac) → IsAbove f.den
    → (a : Option Dec) × IsAccrued places notional known f a
accrued_there places notional None f den = (None, λ rate priced. no_rate rate priced.is)
accrued_there places notional (Some rate) f den = elim (cases_lt most_rate (unsigned_abs rate)) [
  | inl past ↦ (
    None,
    λ r priced.
        let same : rate ≡ r = some_is rate r priced.is in
        let within = subst (λ (z : ℤ). unsigned_abs z ≤ most_rate) (sym same) priced.within in
        absurd (omega (arith, past, within)),
  )
  | inr within ↦
      let v = interest_there places notional rate f den in
      (Some v.0, (rate, record { is = refl; within = within }, v.1))
]

-- ---- the period that runs

boundaries_around : (xs : List ℤ) (d : ℤ) (n : ℕ) → day_at xs 0 ≤ℤ d → d <ℤ day_at xs n
    → (j : ℕ) × ((j < n) × (day_at xs j ≤ℤ d) × (d <ℤ day_at xs (j + 1)))
boundaries_around xs d zero low high = absurd (omega (arith, signed_arith, low, high))
boundaries_around xs d (suc n) low high =
    by_lt_z d (day_at xs n)
    (λ (l : d <ℤ day_at xs n).
    let f = boundaries_around xs d n low l in
    let less = f.1.0 in
    (f.0, (omega (arith, less), f.1.1, f.1.2)))
    (λ (l : day_at xs n ≤ℤ d).
    let next : suc n ≡ n + 1 = omega arith in
    (n, (omega arith, l, subst (λ (k : ℕ). d <ℤ day_at xs k) next high)))

-- the period that runs on a day
abbrev Running : Part → ℤ → Type 0
Running p d = (number : ℕ) × ((x : CalculationPeriod) × Runs p d number x)

runs_there : (p : Part) (d : ℤ) → IsOutside p d ⊎ Running p d
runs_there p d =
    by_lt_z d (day_at p.adjusted 0)
    (λ (l : d <ℤ day_at p.adjusted 0). inl (inl l))
    (λ (low : day_at p.adjusted 0 ≤ℤ d).
    by_lt_z d (day_at p.adjusted (length p.periods))
    (λ (high : d <ℤ day_at p.adjusted (length p.periods)).
    let f = boundaries_around p.adjusted d (length p.periods) low high in
    let j = f.0 in
    let e : PeriodEntry = get_or p.periods j no_entry in
    let x : CalculationPeriod = dated_period p (j + 1) e in
    let there = slice_get-get_or p.periods j no_entry f.1.0 in
    let back : j + 1 - 1 ≡ j = omega arith in
    let here : period_at p j ≡ Some x =
    ap (λ (o : Option PeriodEntry). option_map (dated_period p (j + 1)) o) there in
    inr (
      j + 1,
      (
        x,
        record {
          from_one = omega arith;
          is = subst (λ (k : ℕ). period_at p k ≡ Some x) (sym back) here;
          started = subst (λ (k : ℕ). day_at p.adjusted k ≤ℤ d) (sym back) f.1.1;
          not_ended = f.1.2;
        },
      ),
    ))
    (λ (late : day_at p.adjusted (length p.periods) ≤ℤ d). inl (inr late)))

-- ---- the rate by the members before a day

-- the first member has a weight before a later day
first_until : (d : ℤ) (o : Observation) (xs : List Observation) (t : Bool) → int_lt o.day d ≡ t → o.day <ℤ d
    → 0 < o.weight → 0 < total_weight (if t then ends_by d o ∷ xs else xs)
first_until d o xs true test low some = omega (arith, signed_arith, some, low)
first_until d o xs false test low some = absurd (grind (arith, signed_arith))

observes_some : (p : ObservedPeriod) (os : List Observation) (d : ℤ) → AreObservations p os
    → ((why : NoObservations) → LacksObservations p why → ⊥)
    → ((a : ℤ) → Shifts p.offset p.days p.start a → a <ℤ d) → 0 < total_weight (observed_until d os)
observes_some p [] d are none begun =
    let many = are.observed.many in
    absurd (none FewMembers (record {
      from = are.from;
      to = are.to;
      period = are.period;
      covered = λ leaves. none NoDay (uncovered (record {
        from = are.from;
        to = are.to;
        period = are.period;
        leaves = leaves;
      }));
      members = are.members;
      are_members = are.are_members;
      few = omega (arith, many);
    }))
observes_some p (o ∷ os) d are none begun =
    let many = are.observed.many in
    let u = are.members in
    let some : 0 < length u = omega (arith, many) in
    let at = are.observed.each.0.day in
    let weight = are.observed.each.0.weight in
    let first = first_member p.days are.from are.to u are.are_members some in
    let low = begun are.from are.period.from in
    let rises = rises_to u are.to 0 are.are_members.rising (λ x m. (are.are_members.sound x m).1) some in
    first_until d o (observed_until d os) (int_lt o.day d) refl (omega (arith, signed_arith, at, first, low))
    (omega (arith, signed_arith, rises, at, weight))

module _ (method : DailyRateMethod) (daily : DailyRates) (p : ObservedPeriod) (d : ℤ)
    (begun : (a : ℤ) → Shifts p.offset p.days p.start a → a <ℤ d) where
  by_outcome : Determined (observations_of p) → (r : OvernightRate) × IsRateBefore method daily p d r
  by_outcome (answered os only none) =
      let has = only.is in
      let by = rate_by_there method daily (observed_until d os) in (
        by.0,
        inl (record {
          observations = os;
          has = has;
          some = observes_some p os d has.1 has.0 begun;
          is_rate = by.1;
        }),
      )
  by_outcome (refused why only none) = (Absent, inr (why, only.is.0, refl))

  before_there : (r : OvernightRate) × IsRateBefore method daily p d r
  before_there = by_outcome (observations_determined p)

-- an observation period
abbrev Observed : ObservedPeriod → Type 0
Observed p = (a : ℤ) × ((b : ℤ) × IsObservationPeriod p a b)

no_day_by : (p : ObservedPeriod) → LacksObservedDay p → Observed p ⊎ ((a b : ℤ) → IsObservationPeriod p a b → ⊥)
no_day_by p (no_period none) = inr none
no_day_by p (uncovered h) = inl (h.from, (h.to, h.period))
no_day_by p (unseen h) = inl (h.from, (h.to, h.period))

reason_by : (p : ObservedPeriod) (why : NoObservations) → LacksObservations p why
    → Observed p ⊎ ((a b : ℤ) → IsObservationPeriod p a b → ⊥)
reason_by p FewMembers h = inl (h.from, (h.to, h.period))
reason_by p NoDay h = no_day_by p h

period_by : (p : ObservedPeriod) → Determined (observations_of p)
    → Observed p ⊎ ((a b : ℤ) → IsObservationPeriod p a b → ⊥)
period_by p (answered os only none) = let are = only.is.1 in inl (are.from, (are.to, are.period))
period_by p (refused why only none) = reason_by p why only.is.0

-- ---- a stream with calculation parameters

module _ (t : DailyTerms) (places : ℕ) (x : CalculationPeriod) (frac : Frac) (den : IsAbove frac.den) where
  earned_there : (b : ℤ) → ((a : ℤ) → Shifts t.parameters.offset t.applicable x.adjusted_start a → a <ℤ b)
      → (amount : Option Dec) × EarnsBefore t places x b frac amount
  earned_there b begun =
      let r = before_there (method_of t) (daily_rates_of t) (whole_period t x) b begun in
      let rates : Option Rates = overnight_rates_by t.leg x.start r.0 in
      let known : Option ℤ = option_map (λ y. y.all_in) rates in
      let gives : GivesRate t.leg x.start r.0 known = record {
        rates = rates;
        are_rates = overnight_are t.leg x.start r.0 (has_denominator t x b r.0 r.1);
        is = refl;
      } in
      let amount = accrued_there places x.notional known frac den in (
        amount.0,
        record { observed = r.0; is_observed = r.1; known = known; gives = gives; accrued = amount.1 },
      )

  daily_there : (d : ℤ) → x.adjusted_start ≤ℤ d → (amount : Option Dec) × AccruesDaily t places x d frac amount
  daily_there d started =
      by_lt_z x.adjusted_start d
      (λ (after : x.adjusted_start <ℤ d).
      elim (period_by (run_of t x d) (observations_determined (run_of t x d))) [
        | inl f ↦
            let a : ℤ = f.0 in
            let b : ℤ = f.1.0 in
            by_lt_z a b
            (λ (some : a <ℤ b).
            let earned = earned_there b (λ c shifts.
            let same = one_shift t.parameters.offset t.applicable x.adjusted_start c a shifts f.1.1.from in
            omega (arith, signed_arith, same, some)) in
            (earned.0, observing after a b f.1.1 some earned.1))
            (λ (none : b ≤ℤ a). (Some (no_amount_yet places), before_first after a b f.1.1 none refl))
        | inr none ↦ (None, unobserved after none refl)
      ])
      (λ (first : d ≤ℤ x.adjusted_start).
      (Some (no_amount_yet places), on_first (omega (arith, signed_arith, started, first)) refl))

  as_by : (stubs : Option StubTerms) (kind : PeriodKind) (d : ℤ) → x.adjusted_start ≤ℤ d → (o : Option ℤ)
      → own_rate_of kind stubs ≡ o → (amount : Option Dec) × AccruesAs t stubs kind places x d frac amount
  as_by stubs kind d started (Some own) e =
      let amount = accrued_there places x.notional x.rate frac den in
      (amount.0, inl ((own, own_states kind stubs own e), amount.1))
  as_by stubs kind d started None e =
      let amount = daily_there d started in
      let none : HasOwnRate kind stubs → ⊥ = λ h. let there = states_own kind stubs h.0 h.1 in cc (e, there) in
      (amount.0, inr (none, amount.1))

-- ---- the accrual

plain_by : (p : Part) (d : ℤ) → IsOutside p d ⊎ Running p d → (a : Accrual) × IsAccrual p d a
plain_by p d (inl out) = (Outside, out)
plain_by p d (inr (number, (x, runs))) =
    let run = run_there p.day_count x.adjusted_start d x.adjusted_end in
    let frac : Frac = run.1.0 in
    let den = den_above p.day_count x.adjusted_start d x.adjusted_end run.0 frac runs.started runs.not_ended run.1.1 in
    let amount = accrued_there (decimals_of p.currency.letters) x.notional x.rate frac den in (
      Inside number run.0 frac amount.0,
      record { period = x; runs = runs; has_run = run.1.1; accrued = amount.1 },
    )

daily_by : (t : DailyTerms) (s : Stream) (p : Part) (d : ℤ) (span : Span) → Regular s span
    → IsOutside p d ⊎ Running p d → (a : Accrual) × IsDailyAccrual t s p d a
daily_by t s p d span regular (inl out) = (Outside, out)
daily_by t s p d span regular (inr (number, (x, runs))) =
    let run = run_there p.day_count x.adjusted_start d x.adjusted_end in
    let frac : Frac = run.1.0 in
    let den = den_above p.day_count x.adjusted_start d x.adjusted_end run.0 frac runs.started runs.not_ended run.1.1 in
    let kind = kind_there s span (length p.periods) number in
    let amount = as_by t (decimals_of p.currency.letters) x frac den s.stubs kind.0 d runs.started
    (own_rate_of kind.0 s.stubs) refl in (
      Inside number run.0 frac amount.0,
      record {
        period = x;
        runs = runs;
        has_run = run.1.1;
        span = span;
        regular = regular;
        kind = kind.0;
        is_kind = kind.1;
        accrues = amount.1;
      },
    )

module _ (s : Stream) (applicable : DaySet) (fixings : RateTable) (p : Part) (d : ℤ) (span : Span)
    (regular : Regular s span) where
  with_there : (parameters : Option CalculationParameters) (float : FloatTerms)
      → (a : Accrual) × IsAccrualWith parameters float s applicable fixings p d a
  with_there None float = plain_by p d (runs_there p d)
  with_there (Some parameters) float =
      daily_by (daily_terms s.leg s.day_count float parameters applicable fixings) s p d span regular (runs_there p d)

  by_there : (leg : Leg) → (a : Accrual) × IsAccrualBy leg s applicable fixings p d a
  by_there (Fixed values) = plain_by p d (runs_there p d)
  by_there (Floating float) = with_there float.parameters float

  -- a stream with a regular span has an accrual on a day
  pub accrual_there : (a : Accrual) × IsAccrualOf s applicable fixings p d a
  accrual_there = by_there s.leg
