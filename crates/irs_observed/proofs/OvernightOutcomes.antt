-- A stream with calculation parameters has one list of resets and observed rates, or one first broken rule.
use Rattle.std.proofs.Common.{◌≡◌, ◌⊎◌, inl, inr, ℕ, zero, suc, ◌+◌, ◌-◌, ◌<◌, ◌≤◌, List, length, Option, Some, None, Result, Ok, Err, Bool, true, false, ℤ}
use Rattle.std.proofs.Common.{refl, sym, subst, ◌∙◌, ap, ap₂, arith}
use Rattle.std.specs.Prelude.{if◌then◌else◌, nat_lt, pos, ◌<ℤ◌, slice_get}
use Rattle.std.proofs.lemmas.Bool.{cases_lt}
use Rattle.irs_base.specs.Days.{IsDay}
use Rattle.irs_base.specs.Lists.{Every}
use Rattle.irs_base.specs.Outcomes.{First, IsFirst, earlier, IfStopped, Determined, Meets}
use Rattle.irs_terms.specs.Faults.{comes_before}
use Rattle.irs_base.specs.Private.Order.{IsDecided}
use Rattle.irs_base.specs.declared.stopped.Stopped.{Stopped}
use Rattle.irs_base.specs.declared.stopped.Stopped.TheVariants.{Broken as OfBroken, Memory as OfMemory}
use Rattle.irs_terms.specs.declared.places.Fault.{Fault}
use Rattle.irs_base.proofs.EveryLemmas.{every_numbered}
use Rattle.irs_terms.proofs.FaultOrder.{fault_order, one_fault}
use Rattle.irs_base.proofs.Firsts.{first_or, lt_false}
use Rattle.irs_base.proofs.MemberLemmas.{numbered_get, numbered_has, numbered_map, numbered_there, one_numbered}
use Rattle.irs_base.proofs.Outcomes.{unless_broken_determined}
use Rattle.irs_terms.specs.Centers.{IsSaidReset}
use Rattle.irs_terms.specs.Lawful.{FitsLeg}
use Rattle.irs_terms.specs.declared.amounts.FloatTerms.{FloatTerms}
use Rattle.irs_terms.specs.declared.amounts.Leg.{Leg}
use Rattle.irs_terms.specs.declared.amounts.Leg.TheVariants.{Fixed, Floating}
use Rattle.irs_terms.specs.declared.dates.ResetTerms.{ResetTerms}
use Rattle.irs_terms.specs.declared.results.Reset.{Reset}
use Rattle.irs_resets.specs.Rates.{RateTable}
use Rattle.irs_resets.specs.Resets.{BreaksResets, HasResets, IsReset, IsResetsOf, ResetSource, source_period_count}
use Rattle.irs_resets.specs.Resets.{resets_of}
use Rattle.irs_resets.proofs.DateLemmas.{one_dates}
use Rattle.irs_resets.proofs.DatedResets.{dates_dated}
use Rattle.irs_resets.proofs.ResetsThere.{BrokenOrNone, InDays, resets_decided, resets_there}
use Rattle.irs_observed.specs.OvernightRates.{overnight_resets_of, AreOvernightRates, BreaksObservations}
use Rattle.irs_observed.specs.OvernightRates.{IsOvernightRate, LacksAt, OvernightSource, observation_fault}
use Rattle.irs_observed.specs.OvernightRates.{source_periods, AreOvernightResets, BreaksOvernight, DailySource}
use Rattle.irs_observed.specs.OvernightRates.{HasOvernightResets, HasOvernightResetsBy, IsOvernightReset}
use Rattle.irs_observed.specs.Private.OvernightRates.{ArePrinted, IsPrintedRow, with_dates, NoneLacks}
use Rattle.irs_observed.specs.declared.daily_resets.OvernightResets.{OvernightResets}
use Rattle.irs_observed.specs.declared.observation.NoObservations.TheVariants.{FewMembers, NoDay}
use Rattle.irs_observed.specs.ObservedRates.{RateFraction}
use Rattle.irs_observed.specs.declared.overnight_rate.OvernightRate.{OvernightRate}
use Rattle.irs_observed.specs.declared.overnight_rate.OvernightRate.TheVariants.{Known}
use Rattle.irs_observed.proofs.FirstOvernight.{first_day_at, first_few_at, none_breaks, none_lacks_at}
use Rattle.irs_observed.proofs.OvernightThere.{RateOrReason, few, known_rate_above, no_day, one_rate_at, rate, rate_or_reason}

-- ---- the first period that lacks observations

-- P holds first of a number, or of none
abbrev FirstOrNone : (ℕ → Type 0) → Type 0
FirstOrNone P = ((i : ℕ) × First nat_lt P i) ⊎ ((i : ℕ) → P i → ⊥)

first_below : (P : ℕ → Type 0) (n : ℕ) → ((i : ℕ) → i < n → IsDecided (P i))
    → ((i : ℕ) × First nat_lt P i) ⊎ ((i : ℕ) → i < n → P i → ⊥)
first_below P zero decides = inr (λ i below p. omega (arith, below))
first_below P (suc n) decides = elim (first_below P n (λ i below. decides i (omega (arith, below)))) [
  | inl found ↦ inl found
  | inr none ↦ elim (decides n (omega arith)) [
    | inl holds ↦ inl (n, (holds, λ y p. lt_false y n (λ less. none y less p)))
    | inr not ↦ inr (λ i below p. elim (cases_lt i n) [
      | inl low ↦ none i low p
      | inr high ↦
          let last : i ≡ n = omega (arith, below, high) in
          not (subst P last p)
    ])
  ]
]

first_of : (P : ℕ → Type 0) (n : ℕ) → ((i : ℕ) → P i → i < n) → ((i : ℕ) → i < n → IsDecided (P i)) → FirstOrNone P
first_of P n within decides =
    elim (first_below P n decides) [ inl found ↦ inl found | inr none ↦ inr (λ i p. none i (within i p) p) ]

module _ (source : OvernightSource) (rates : RateTable) where
  few_of : (i : ℕ) → RateOrReason source rates i → IsDecided (LacksAt source i FewMembers)
  few_of i (rate r is none) = inr (none FewMembers)
  few_of i (few lacks) = inl lacks
  few_of i (no_day lacks not_few) = inr not_few

  decides_few : (i : ℕ) → i < length source.adjusted → IsDecided (LacksAt source i FewMembers)
  decides_few zero low = inr (λ h. let first = h.period.0 in omega (arith, first))
  decides_few (suc i) low = few_of (suc i) (rate_or_reason source rates (suc i) (omega arith, low))

  day_of : (i : ℕ) → (LacksAt source i FewMembers → ⊥) → RateOrReason source rates i → IsDecided (LacksAt source i NoDay)
  day_of i kept (rate r is none) = inr (none NoDay)
  day_of i kept (few lacks) = absurd (kept lacks)
  day_of i kept (no_day lacks not_few) = inl lacks

  decides_day : (i : ℕ) → (LacksAt source i FewMembers → ⊥) → i < length source.adjusted
      → IsDecided (LacksAt source i NoDay)
  decides_day zero kept low = inr (λ h. let first = h.period.0 in omega (arith, first))
  decides_day (suc i) kept low = day_of (suc i) kept (rate_or_reason source rates (suc i) (omega arith, low))

  none_of : ((i : ℕ) → LacksAt source i FewMembers → ⊥) → ((i : ℕ) → LacksAt source i NoDay → ⊥) → NoneLacks source
  none_of kept days i FewMembers h = kept i h
  none_of kept days i NoDay h = days i h

  by_days : ((i : ℕ) → LacksAt source i FewMembers → ⊥) → FirstOrNone (λ i. LacksAt source i NoDay)
      → BrokenOrNone (BreaksObservations source)
  by_days kept (inl first) = inl (observation_fault NoDay first.0, first_day_at source first.0 kept first.1)
  by_days kept (inr none) = inr (none_breaks source (none_of kept none))

  by_few : FirstOrNone (λ i. LacksAt source i FewMembers) → BrokenOrNone (BreaksObservations source)
  by_few (inl first) = inl (observation_fault FewMembers first.0, first_few_at source first.0 first.1)
  by_few (inr none) =
      by_days none (first_of (λ i. LacksAt source i NoDay) (length source.adjusted) (λ i h. h.period.1)
      (λ i low. decides_day i (none i) low))

  -- a rule of observations is the first that is broken, or none is
  pub observations_decided : BrokenOrNone (BreaksObservations source)
  observations_decided =
      by_few (first_of (λ i. LacksAt source i FewMembers) (length source.adjusted) (λ i h. h.period.1) decides_few)

  -- ---- the rates

  rate_of : (i : ℕ) → NoneLacks source → RateOrReason source rates i → (r : OvernightRate) × IsOvernightRate source rates i r
  rate_of i none (rate r is free) = (r, is)
  rate_of i none (few lacks) = absurd (none i FewMembers lacks)
  rate_of i none (no_day lacks not_few) = absurd (none i NoDay lacks)

  -- where no rule is broken there is the list of rates
  pub rates_there : ((f : Fault) → BreaksObservations source f → ⊥) → (rs : List OvernightRate) × AreOvernightRates source rates rs
  rates_there free =
      let none = none_lacks_at source free in
      let member : (k : ℕ) → 1 ≤ k → k < 1 + source_periods source → (r : OvernightRate) × IsOvernightRate source rates k r =
      λ k low high. rate_of k none (rate_or_reason source rates k (low, omega (arith, low, high))) in
      let l = numbered_there (IsOvernightRate source rates) (source_periods source) 1 member in
      (l.0, record { many = l.1; each = l.2 })

  -- there is one
  pub one_rates : (rs ss : List OvernightRate) → AreOvernightRates source rates rs → AreOvernightRates source rates ss
      → rs ≡ ss
  one_rates rs ss h k =
      one_numbered (IsOvernightRate source rates) (λ i r s a b. one_rate_at source rates i r s a b) 1 rs ss
      (h.many ∙ sym k.many) h.each k.each

-- ---- both

-- there is a first broken rule, or none is broken
abbrev FirstOf : (Fault → Type 0) → Type 0
FirstOf P = (o : Option Fault) × IsFirst comes_before P o

as_first : (P : Fault → Type 0) → BrokenOrNone P → FirstOf P
as_first P (inl first) = (Some first.0, first.1)
as_first P (inr none) = (None, none)

as_broken : (P : Fault → Type 0) (o : Option Fault) → IsFirst comes_before P o → BrokenOrNone P
as_broken P None none = inr none
as_broken P (Some f) first = inl (f, first)

either : (P Q : Fault → Type 0) → BrokenOrNone P → BrokenOrNone Q → BrokenOrNone (λ f. P f ⊎ Q f)
either P Q a b =
    let first = as_first P a in
    let second = as_first Q b in
    as_broken (λ f. P f ⊎ Q f) (earlier comes_before first.0 second.0)
    (first_or comes_before fault_order P Q first.0 second.0 first.1 second.1)

-- ---- the resets

same_row : (x y : Reset) → x.reset ≡ y.reset → x.fixing ≡ y.fixing → x.observed ≡ y.observed → x ≡ y
same_row x y a b c =
    let make : ℤ → ℤ → Option ℤ → Reset = λ r g o. record { reset = r; fixing = g; observed = o } in
    ap (λ r. make r x.fixing x.observed) a ∙ ap₂ (λ g o. make y.reset g o) b c

module _ (t : ResetTerms) (source : ResetSource) (rs : List OvernightRate) where
  one_reset : (i : ℕ) (x y : Reset) → IsOvernightReset t source.days rs i x → IsOvernightReset t source.days rs i y
      → x ≡ y
  one_reset i x y h k =
      let same = one_dates t source.days i x.reset x.fixing y.reset y.fixing h.dates k.dates in
      same_row x y same.0 same.1 (h.observed ∙ sym k.observed)

  one_has : (xs ys : List Reset) → HasOvernightResets t source rs xs → HasOvernightResets t source rs ys → xs ≡ ys
  one_has xs ys h k =
      one_numbered (IsOvernightReset t source.days rs) one_reset 1 xs ys (h.many ∙ sym k.many) h.each k.each

  -- the rows of today's resets with what is printed of these rates
  pub printed_has : (float : FloatTerms) (fix : RateTable) (rows printed : List Reset) → HasResets source float t fix rows
      → ArePrinted rows rs printed → HasOvernightResets t source rs printed
  printed_has float fix rows printed h are = record {
    many = are.many ∙ h.many;
    each = numbered_map (IsPrintedRow rows rs) (IsOvernightReset t source.days rs) 1 printed
        (λ m x low high p.
        let e : 1 + (m - 1) ≡ m = omega (arith, low) in
        let row = numbered_get (IsReset source float t fix) 1 (m - 1) rows p.dated h.each p.at in
        let dates = subst (λ (j : ℕ). IsReset source float t fix j p.dated) e row in
        record {
          dates = rw (p.reset, p.fixing) dates.dates;
          observed = p.observed;
        }) are.each;
  }

  resets_by : (float : FloatTerms) (fix : RateTable) (rows : List Reset) → HasResets source float t fix rows
      → (xs : List Reset) × HasOvernightResets t source rs xs
  resets_by float fix rows h =
      let member : (k : ℕ) → 1 ≤ k → k < 1 + source_period_count source → (x : Reset) × IsOvernightReset t source.days rs k x = λ k low high.
      let e : k < 1 + length rows = let many = h.many in omega (arith, high, many) in
      let row = numbered_has (IsReset source float t fix) 1 rows k h.each low e in (
        record {
          reset = row.0.reset;
          fixing = row.0.fixing;
          observed = Rattle.irs_observed.specs.OvernightRates.printed_at rs k;
        },
        record { dates = row.1.dates; observed = refl },
      ) in
      let l = numbered_there (IsOvernightReset t source.days rs) (source_period_count source) 1 member in
      (l.0, record { many = l.1; each = l.2 })

-- by the terms that the stream has
resets_in : (reset : Option ResetTerms) (leg : Leg) (float : FloatTerms) (source : ResetSource) (rs : List OvernightRate)
    (fix : RateTable) (rows : List Reset) → leg ≡ Floating float → IsResetsOf leg reset source fix rows
    → (xs : List Reset) × HasOvernightResetsBy reset source rs xs
resets_in reset (Fixed values) float source rs fix rows e h = absurd (cc)
resets_in None (Floating f) float source rs fix rows e h = absurd h
resets_in (Some t) (Floating f) float source rs fix rows e h = resets_by t source rs f fix rows h

one_in : (reset : Option ResetTerms) (source : ResetSource) (rs : List OvernightRate) (xs ys : List Reset)
    → HasOvernightResetsBy reset source rs xs → HasOvernightResetsBy reset source rs ys → xs ≡ ys
one_in None source rs xs ys h k = absurd h
one_in (Some t) source rs xs ys h k = one_has t source rs xs ys h k

-- printed rows by the terms that the stream has
pub printed_in : (reset : Option ResetTerms) (leg : Leg) (float : FloatTerms) (source : ResetSource)
    (rs : List OvernightRate) (fix : RateTable) (rows printed : List Reset) → leg ≡ Floating float
    → IsResetsOf leg reset source fix rows → ArePrinted rows rs printed → HasOvernightResetsBy reset source rs printed
printed_in reset (Fixed values) float source rs fix rows printed e h are = absurd (cc)
printed_in None (Floating f) float source rs fix rows printed e h are = absurd h
printed_in (Some t) (Floating f) float source rs fix rows printed e h are = printed_has t source rs f fix rows printed h are

module _ (source : ResetSource) (fix : RateTable) (range : InDays source.days) (rs : List OvernightRate) where
  -- the dates of the resets are days of the range
  pub overnight_dated : (reset : Option ResetTerms) (rows : List Reset) → HasOvernightResetsBy reset source rs rows
      → Every (λ (r : Reset). IsDay r.reset × IsDay r.fixing) rows
  overnight_dated None rows h = absurd h
  overnight_dated (Some t) rows h =
      every_numbered (IsOvernightReset t source.days rs) (λ (r : Reset). IsDay r.reset × IsDay r.fixing) 1 rows
      (λ i r row. dates_dated source fix range t i r row.dates) h.each

-- the rates that are known have a denominator above 0
pub rates_above : (source : OvernightSource) (fix : RateTable) (rs : List OvernightRate) (i : ℕ) (x : RateFraction)
    → AreOvernightRates source fix rs → slice_get rs i ≡ Some (Known x) → pos 0 <ℤ x.denominator
rates_above source fix rs i x h at =
    known_rate_above source fix (1 + i) x (numbered_get (IsOvernightRate source fix) 1 i rs (Known x) h.each at)

module _ (source : DailySource) (fix : RateTable) where
  -- a stream with calculation parameters has one list of resets with its observed rates
  pub one_overnight : (x y : OvernightResets) → AreOvernightResets source fix x → AreOvernightResets source fix y → x ≡ y
  one_overnight x y h k =
      let rates = one_rates source.rates fix x.rates y.rates h.rates k.rates in
      let moved = subst (λ (rs : List OvernightRate). HasOvernightResetsBy source.dates.stream.reset source.dates rs x.resets)
      rates h.resets in
      let resets = one_in source.dates.stream.reset source.dates y.rates x.resets y.resets moved k.resets in
      let make : List Reset → List OvernightRate → OvernightResets = λ a b. record { resets = a; rates = b } in
      ap₂ make resets rates

  module _ (float : FloatTerms) (leg : source.dates.stream.leg ≡ Floating float) (fits : FitsLeg source.dates.stream)
      (said : IsSaidReset source.dates.stream) (range : InDays source.dates.days) where
    overnight_there : ((f : Fault) → BreaksOvernight source f → ⊥) → (x : OvernightResets) × AreOvernightResets source fix x
    overnight_there free =
        let rows = resets_there source.dates fix range fits said (λ f h. free f (inl h)) in
        let rs = rates_there source.rates fix (λ f h. free f (inr h)) in
        let xs = resets_in source.dates.stream.reset source.dates.stream.leg float source.dates rs.0 fix rows.0 leg rows.1 in
        (record { resets = xs.0; rates = rs.0 }, record { rates = rs.1; resets = xs.1 })

    -- a stream with calculation parameters has one outcome
    pub overnight_determined : Determined (overnight_resets_of source fix)
    overnight_determined =
        unless_broken_determined comes_before (BreaksOvernight source) (AreOvernightResets source fix)
        (either (BreaksResets source.dates) (BreaksObservations source.rates)
        (resets_decided source.dates said range) (observations_decided source.rates fix))
        overnight_there one_overnight (one_fault (BreaksOvernight source))

-- ---- two calls

module _ (P Q : Fault → Type 0) where
  picked : (f g : Fault) (b : Bool) → IsFirst comes_before (λ h. P h ⊎ Q h) (if b then Some g else Some f)
      → First comes_before (λ h. P h ⊎ Q h) (if b then g else f)
  picked f g true first = first
  picked f g false first = first

  stops_first : (e : Stopped Fault) → IfStopped e (First comes_before P) → ((f : Fault) → Q f → ⊥)
      → IfStopped e (First comes_before (λ h. P h ⊎ Q h))
  stops_first (OfBroken f) first none = first_or comes_before fault_order P Q (Some f) None first none
  stops_first OfMemory first none = tt

module _ (source : DailySource) (fix : RateTable) where
  -- where no observations are lacking, the first broken rule of dates is the first of all
  pub stops_dates : (e : Stopped Fault) → IfStopped e (First comes_before (BreaksResets source.dates))
      → ((f : Fault) → BreaksObservations source.rates f → ⊥)
      → IfStopped e (First comes_before (BreaksOvernight source))
  stops_dates = stops_first (BreaksResets source.dates) (BreaksObservations source.rates)

  -- the first broken rule of observations, or an earlier one of dates
  pub stops_observations : (dated : Result (List Reset) (Stopped Fault)) (g : Fault)
      → Meets (resets_of source.dates fix) dated → First comes_before (BreaksObservations source.rates) g
      → IfStopped (with_dates dated g) (First comes_before (BreaksOvernight source))
  stops_observations (Ok rows) g meets first =
      first_or comes_before fault_order (BreaksResets source.dates) (BreaksObservations source.rates) None (Some g)
      meets.0 first
  stops_observations (Err (OfBroken f)) g meets first =
      picked (BreaksResets source.dates) (BreaksObservations source.rates) f g (comes_before g f)
      (first_or comes_before fault_order (BreaksResets source.dates) (BreaksObservations source.rates) (Some f) (Some g)
      meets first)
  stops_observations (Err OfMemory) g meets first = tt
