-- The fixing that a calculation period lacks whose rate isn't known: by the fixing date of its reset, or by its
-- daily rates.
use Rattle.std.proofs.Common.{◌≡◌, inl, inr, ℕ, ◌+◌, ◌-◌, ◌≤◌, List, [], length, Option, Some, None, ℤ, refl}
use Rattle.std.proofs.Common.{sym, ap, subst, ◌∙◌, arith}
use Rattle.std.specs.Prelude.{option_and_then, slice_get}
use Rattle.std.proofs.lemmas.Option.{slice_get_cases, slice_get_within}
use Rattle.irs_base.specs.Lists.{HoldsOf}
use Rattle.irs_base.proofs.MemberLemmas.{numbered_get}
use Rattle.irs_terms.specs.declared.amounts.FloatTerms.{FloatTerms}
use Rattle.irs_terms.specs.declared.amounts.Leg.{Leg}
use Rattle.irs_terms.specs.declared.amounts.Leg.TheVariants.{Fixed, Floating}
use Rattle.irs_terms.specs.declared.dates.ResetTerms.{ResetTerms}
use Rattle.irs_terms.specs.declared.parameters.CalculationParameters.{CalculationParameters}
use Rattle.irs_terms.specs.declared.results.Reset.{Reset}
use Rattle.irs_terms.specs.declared.results.Span.{Span}
use Rattle.irs_terms.specs.declared.step_list.StepValues.{StepValues}
use Rattle.irs_terms.specs.declared.stream.Stream.{Stream}
use Rattle.irs_calendar.specs.GoodDays.{DaySet}
use Rattle.irs_calendar.specs.declared.sections.Section.{Section}
use Rattle.irs_periods.specs.Spans.{Regular}
use Rattle.irs_periods.proofs.OneSpan.{one_span}
use Rattle.irs_resets.specs.Rates.{ComesFrom, IsPeriodKind, IsObserved, Line, RateSource, Stated, rate_from, RateTable}
use Rattle.irs_resets.specs.Rates.{rate_at}
use Rattle.irs_resets.specs.Private.Resets.{source_by}
use Rattle.irs_resets.specs.Resets.{HasResets, IsReset, IsResets, IsResetsOf, ResetSource}
use Rattle.irs_resets.specs.declared.observed.PeriodKind.{PeriodKind}
use Rattle.irs_resets.proofs.KindLaws.{one_kind}
use Rattle.irs_resets.proofs.ObservedLaws.{observed_is}
use Rattle.irs_observed.specs.ObservedRates.{DailyRates, daily_rates, one_day}
use Rattle.irs_observed.specs.Observations.{LacksObservations}
use Rattle.irs_observed.specs.OvernightRates.{IsOvernightRate, IsRateOf, IsRateOver, observation_fault, period_of}
use Rattle.irs_observed.specs.OvernightRates.{AreOvernightResets, BreaksOvernight, DailySource, daily_source}
use Rattle.irs_observed.specs.OvernightRates.{HasOwnRate}
use Rattle.irs_observed.specs.declared.daily_resets.OvernightResets.{OvernightResets}
use Rattle.irs_observed.specs.declared.observation.NoObservations.{NoObservations}
use Rattle.irs_observed.specs.declared.overnight_rate.OvernightRate.{OvernightRate}
use Rattle.irs_observed.specs.declared.overnight_rate.OvernightRate.TheVariants.{Stated as StatedRate, Absent}
use Rattle.irs_schedule.specs.DaySets.{applicable_days}
use Rattle.irs_schedule.specs.Parts.{Part, resets_by, resets_in}
use Rattle.irs_schedule.specs.Schedules.{observed_of}
use Rattle.irs_schedule.proofs.RateLemmas.{with_rates}
use Rattle.irs_unfixed.specs.Unfixed.{IsAbsentDay, Fixing, FloatsOn, LacksFixing, RestsBy, RestsIn, daily_period}
use Rattle.irs_unfixed.specs.Private.Made.{HasAbsentDay, IsGap, reset_source}
use Rattle.irs_unfixed.proofs.MadeLemmas.{Stages, gap_high, gap_unknown, stages_of}
use Rattle.irs_unfixed.proofs.RateLemmas.{IsUnknown, absent, unobserved}
use Rattle.irs_unfixed.proofs.AbsentLemmas.{absent_none}
use Rattle.irs_resets.proofs.ObservedLaws.{comes_by}

-- floating legs that are equal have equal terms
same_leg : (f g : FloatTerms) → (let l : Leg = Floating f in l ≡ Floating g) → f ≡ g
same_leg f g e = cc

-- a fixed leg isn't a floating one
pub not_fixed : (values : StepValues) (f : FloatTerms) → (let l : Leg = Fixed values in l ≡ Floating f) → ⊥
not_fixed values f e = cc

-- a rate that is absent isn't one that is stated
not_stated_rate : (rate : ℤ) → Absent ≡ StatedRate rate → ⊥
not_stated_rate rate e = cc

-- no list has a member past its end
none_in_empty : (k : ℕ) (r : OvernightRate) → slice_get [] k ≡ Some r → ⊥
none_in_empty k r e = cc

none_some : {X : Type 0} (x : X) (o : Option X) → o ≡ None → o ≡ Some x → ⊥
none_some x o e f = cc

fixed_known : (leg : Leg) (observed : Option ℤ) (overnight : Option OvernightRate) (values : StepValues)
    → leg ≡ Fixed values → IsUnknown leg observed overnight → ⊥
fixed_known leg observed overnight values e (unobserved float pays none o) = not_fixed values float (sym e ∙ pays)
fixed_known leg observed overnight values e (absent float pays at) = not_fixed values float (sym e ∙ pays)

-- each rate of a fixed stream is known
pub gap_floats : (cal : List Section) (fix : RateTable) (s : Stream) (p : Part) (n : ℕ) → IsGap cal fix s p n
    → (values : StepValues) → s.leg ≡ Fixed values → ⊥
gap_floats cal fix s p n h values e =
    let g = stages_of cal fix s p h.made in
    fixed_known s.leg (observed_of p.resets n) (slice_get g.rates (n - 1)) values e
    (gap_unknown cal fix s p h.made g n h.unrated)

-- ---- by the fixing date of a reset

-- the reset of period n, whose rate isn't known
pub record ResetGap (fix : RateTable) (s : Stream) (p : Part) (n : ℕ) (float : FloatTerms) : Type 0 where
  pub row : Reset
  pub at : slice_get p.resets (n - 1) ≡ Some row
  pub span : Span
  pub regular : Regular s span
  pub kind : PeriodKind
  pub is_kind : IsPeriodKind s span (length p.periods) n kind
  pub observed : IsObserved kind float s.stubs fix row.fixing None

has_resets : (source : ResetSource) (fix : RateTable) (rows : List Reset) (float : FloatTerms)
    (reset : Option ResetTerms) → IsResetsOf (Floating float) reset source fix rows
    → (t : ResetTerms) × HasResets source float t fix rows
has_resets source fix rows float None h = absurd h
has_resets source fix rows float (Some t) h = (t, h)

module _ (cal : List Section) (fix : RateTable) (s : Stream) (p : Part) (n : ℕ) (h : IsGap cal fix s p n)
    (float : FloatTerms) (pays : s.leg ≡ Floating float) where
  abbrev stages : Stages cal fix s p
  stages = stages_of cal fix s p h.made

  abbrev source : ResetSource
  source = reset_source cal s p stages.span

  abbrev set : DaySet
  set = applicable_days cal s

  abbrev rows : OvernightResets
  rows = with_rates p.resets stages.rates

  unknown : IsUnknown s.leg (observed_of p.resets n) (slice_get stages.rates (n - 1))
  unknown = gap_unknown cal fix s p h.made stages n h.unrated

  pub high : n ≤ length p.periods
  high = gap_high cal fix s p h.made stages n h.unrated

  many : length p.periods ≡ length p.adjusted - 1
  many = let count = h.made.bounds.adjusted in omega (arith, count)

  made_by : (parameters : Option CalculationParameters) → float.parameters ≡ parameters
      → (resets_by float parameters source set fix).Answers rows
  made_by parameters e =
      let by : (resets_by float float.parameters source set fix).Answers rows =
      subst (λ (leg : Leg). (resets_in leg source set fix).Answers rows) pays stages.resets_made in
      subst (λ (o : Option CalculationParameters). (resets_by float o source set fix).Answers rows) e by

  module _ (plain : float.parameters ≡ None) where
    observed_by : IsUnknown s.leg (observed_of p.resets n) (slice_get stages.rates (n - 1))
        → observed_of p.resets n ≡ None
    observed_by (unobserved other leg none observed) = observed
    observed_by (absent other leg at) =
        let empty : stages.rates ≡ [] = (made_by None plain).1 in
        absurd (none_in_empty (n - 1) Absent (subst (λ (rs : List OvernightRate). slice_get rs (n - 1) ≡ Some Absent) empty at))

    -- the reset of the period
    pub reset_gap : ResetGap fix s p n float
    reset_gap =
        let is : IsResets source fix p.resets = (made_by None plain).0.1 in
        let found = has_resets source fix p.resets float s.reset
        (subst (λ (leg : Leg). IsResetsOf leg s.reset source fix p.resets) pays is) in
        let has = found.1 in
        let low = h.unrated.from_one in
        let top = high in
        let count = many in
        let same = has.many in
        elim (slice_get_cases p.resets (n - 1)).1 [
          | inl w ↦
              let row = w.0 in
              let at = w.2 in
              let back : 1 + (n - 1) ≡ n = omega (arith, low) in
              let reset : IsReset source float found.0 fix n row =
              subst (λ (i : ℕ). IsReset source float found.0 fix i row) back
              (numbered_get (IsReset source float found.0 fix) 1 (n - 1) p.resets row has.each at) in
              let none : row.observed ≡ None =
              ap (λ (o : Option Reset). option_and_then (λ (r : Reset). r.observed) o) (sym at) ∙ observed_by unknown in
              record {
                row = row;
                at = at;
                span = stages.span;
                regular = stages.regular;
                kind = reset.kind;
                is_kind = subst (λ (m : ℕ). IsPeriodKind s stages.span m n reset.kind) (sym count) reset.is_kind;
                observed = subst (IsObserved reset.kind float s.stubs fix row.fixing) none reset.observed;
              }
          | inr w ↦ absurd (let past = w.0 in omega (arith, past, low, top, count, same))
        ]

    -- the stream has a reset for the period
    pub resets_high : n ≤ length p.resets
    resets_high =
        let low = h.unrated.from_one in
        let within = slice_get_within p.resets (n - 1) reset_gap.row reset_gap.at in
        omega (arith, low, within)

    module _ (span : Span) (regular : Regular s span) (kind : PeriodKind)
        (is_kind : IsPeriodKind s span (length p.periods) n kind) where
      same_kind : reset_gap.kind ≡ kind
      same_kind =
          let g = reset_gap in
          let one : g.span ≡ span = one_span s g.span span g.regular regular in
          one_kind s span (length p.periods) n g.kind kind
          (subst (λ (x : Span). IsPeriodKind s x (length p.periods) n g.kind) one g.is_kind) is_kind

      -- the rate of its source is absent on its fixing date
      source_absent : None ≡ rate_from (source_by kind float s.stubs) fix reset_gap.row.fixing
      source_absent =
          let g = reset_gap in
          observed_is float kind s.stubs fix g.row.fixing None
          (subst (λ (k : PeriodKind). IsObserved k float s.stubs fix g.row.fixing None) same_kind g.observed)

      -- the terms don't state its rate
      pub not_stated : (rate : ℤ) → source_by kind float s.stubs ≡ Stated rate → ⊥
      not_stated rate e =
          let absent : None ≡ Some rate =
          source_absent ∙ ap (λ (x : RateSource). rate_from x fix reset_gap.row.fixing) e in
          cc

      -- it lacks the fixing of its line on its fixing date
      pub reset_lacks : (f : Fixing) → source_by kind float s.stubs ≡ Line f.index f.tenor
          → HoldsOf (λ (r : Reset). r.fixing ≡ f.day) p.resets n → LacksFixing cal fix s p n f
      reset_lacks f line fixed_on =
          let g = reset_gap in
          let row : fixed_on.member ≡ g.row = row_is fixed_on.member g.row (sym fixed_on.at ∙ g.at) in
          let day : g.row.fixing ≡ f.day = ap (λ (r : Reset). r.fixing) (sym row) ∙ fixed_on.holds in
          let none : None ≡ rate_at fix f.index (record { date = g.row.fixing; tenor = f.tenor }) =
          source_absent ∙ ap (λ (x : RateSource). rate_from x fix g.row.fixing) line in
          let rests : RestsBy float.parameters float cal fix s p n kind f =
          subst (λ (o : Option CalculationParameters). RestsBy o float cal fix s p n kind f) (sym plain) (record {
            comes_from = subst (λ (x : RateSource). ComesFrom kind float s.stubs x) line (comes_by float kind s.stubs);
            fixed_on = fixed_on;
          }) in
          let floats : FloatsOn float cal fix s p n f =
          record { span = span; regular = regular; kind = kind; is_kind = is_kind; rests = rests } in
          record {
            rests = subst (λ (leg : Leg). RestsIn leg cal fix s p n f) (sym pays) floats;
            absent = sym (subst (λ (d : ℤ). None ≡ rate_at fix f.index (record { date = d; tenor = f.tenor })) day none);
          }
        where
          row_is : (a b : Reset) → Some a ≡ Some b → a ≡ b
          row_is a b e = cc

  -- ---- by daily rates

  module _ (parameters : CalculationParameters) (daily : float.parameters ≡ Some parameters) where
    abbrev sources : DailySource
    sources = daily_source source set float parameters

    abbrev fixings : DailyRates
    fixings = daily_rates fix float.index

    answers : ((f : _) → BreaksOvernight sources f → ⊥) × AreOvernightResets sources fix rows
    answers = made_by (Some parameters) daily

    absent_by : IsUnknown s.leg (observed_of p.resets n) (slice_get stages.rates (n - 1))
        → slice_get stages.rates (n - 1) ≡ Some Absent
    absent_by (unobserved other leg none observed) =
        let count = answers.1.rates.many in
        let low = h.unrated.from_one in
        let top = high in
        let same = many in
        elim (slice_get_cases stages.rates (n - 1)).1 [
          | inl w ↦ absurd (none_some w.0 (slice_get stages.rates (n - 1)) none w.2)
          | inr w ↦ absurd (let past = w.0 in omega (arith, past, count, low, top, same))
        ]
    absent_by (absent other leg at) = at

    overnight : IsOvernightRate sources.rates fix n Absent
    overnight =
        let low = h.unrated.from_one in
        let back : 1 + (n - 1) ≡ n = omega (arith, low) in
        subst (λ (i : ℕ). IsOvernightRate sources.rates fix i Absent) back
        (numbered_get (IsOvernightRate sources.rates fix) 1 (n - 1) stages.rates Absent answers.1.rates.each
        (absent_by unknown))

    own_or_over : (kind : PeriodKind) → IsRateOf sources.rates fixings n kind Absent
        → (HasOwnRate kind s.stubs → ⊥) × IsRateOver sources.rates.method fixings (period_of sources.rates n) Absent
    own_or_over kind (inl own) = absurd (not_stated_rate own.0 own.2)
    own_or_over kind (inr over) = over

    rate_over : (HasOwnRate overnight.kind s.stubs → ⊥)
        × IsRateOver sources.rates.method fixings (period_of sources.rates n) Absent
    rate_over = own_or_over overnight.kind overnight.is_rate

    -- it has its observations
    pub observed : (why : NoObservations) → LacksObservations (daily_period cal s parameters p n) why → ⊥
    observed why lacks =
        let low = h.unrated.from_one in
        let top = high in
        let count = many in
        answers.0 (observation_fault why n) (inr (record {
          number = n;
          why = why;
          lacks = record {
            period = (low, omega (arith, low, top, count));
            kind = overnight.kind;
            is_kind = overnight.is_kind;
            daily = rate_over.0;
            lacks = lacks;
          };
          is = refl;
        }))

    -- one of them has no daily rate
    pub has_absent : HasAbsentDay fixings (daily_period cal s parameters p n)
    has_absent =
        record {
          observations = rate_over.1.observations;
          are_observations = rate_over.1.are_observations;
          unknown = rate_over.1.is_rate.1;
        }

    -- it lacks the daily rate of its first observation day without one
    pub daily_lacks : (f : Fixing) → f.index ≡ float.index → f.tenor ≡ Some one_day
        → IsAbsentDay fixings (daily_period cal s parameters p n) f.day → LacksFixing cal fix s p n f
    daily_lacks f index tenor day =
        let rests : RestsBy float.parameters float cal fix s p n overnight.kind f =
        subst (λ (o : Option CalculationParameters). RestsBy o float cal fix s p n overnight.kind f) (sym daily) (record {
          not_own = rate_over.0;
          index = index;
          tenor = tenor;
          day = day;
        }) in
        let floats : FloatsOn float cal fix s p n f =
        record {
          span = stages.span;
          regular = stages.regular;
          kind = overnight.kind;
          is_kind =
              subst (λ (m : ℕ). IsPeriodKind s stages.span m n overnight.kind) (sym many) overnight.is_kind;
          rests = rests;
        } in
        let none = absent_none fixings day.observations f.day day.first in
        record {
          rests = subst (λ (leg : Leg). RestsIn leg cal fix s p n f) (sym pays) floats;
          absent = rw (index, tenor) none;
        }
