-- A rule of resets is the first that is broken, or none is broken and there is the list of resets.
use Rattle.std.proofs.Common.{◌≡◌, ◌⊎◌, inl, inr, ℕ, zero, suc, ◌-◌, ◌<◌, List, [], length, Option, Some, None, ℤ, ◌<ℤ◌}
use Rattle.std.proofs.Common.{arith, rules, refl, ap, subst, IsSome, IfSome}
use Rattle.std.specs.Prelude.{nat_lt}
use Rattle.std.proofs.lemmas.Bool.{cases_lt, cases_eq}
use Rattle.irs_base.specs.Days.{IsDay}
use Rattle.irs_base.specs.Lists.{AreDays}
use Rattle.irs_base.specs.Outcomes.{First}
use Rattle.irs_terms.specs.Faults.{comes_before}
use Rattle.irs_base.specs.Private.Order.{IsDecided}
use Rattle.irs_terms.specs.declared.places.Fault.{Fault}
use Rattle.irs_base.proofs.DayListLemmas.{day_at_day}
use Rattle.irs_base.proofs.Firsts.{lt_false}
use Rattle.irs_terms.specs.declared.codes.Relative.{Relative}
use Rattle.irs_terms.specs.declared.codes.Relative.TheVariants.{Start, End}
use Rattle.irs_terms.specs.declared.dates.FixTerms.{FixTerms}
use Rattle.irs_terms.specs.declared.dates.ResetTerms.{ResetTerms}
use Rattle.irs_terms.specs.declared.amounts.FloatTerms.{FloatTerms}
use Rattle.irs_terms.specs.declared.amounts.Leg.{Leg}
use Rattle.irs_terms.specs.declared.amounts.Leg.TheVariants.{Fixed, Floating}
use Rattle.irs_terms.specs.declared.amounts.StubTerms.{StubTerms}
use Rattle.irs_terms.specs.declared.stream.Stream.{Stream}
use Rattle.irs_terms.specs.declared.results.Span.{Span}
use Rattle.irs_terms.specs.declared.results.Reset.{Reset}
use Rattle.irs_terms.specs.Centers.{IsSaidFixing, IsSaidReset}
use Rattle.irs_terms.specs.TermDates.{first_day_of}
use Rattle.irs_terms.specs.Lawful.{FitsResets, FitsLeg}
use Rattle.irs_calendar.specs.GoodDays.{DaySet}
use Rattle.irs_adjust.proofs.FoundDays.{InRange, IsFound, decides_adjusts, adjusts_day}
use Rattle.irs_adjust.proofs.MoveLaws.{DateOrFailure, date_or_failure}
use Rattle.irs_resets.specs.declared.dates.DateFault.{DateFault}
use Rattle.irs_resets.specs.declared.dates.DateFault.TheVariants.{NoReset, NoFixing, OutOfRange}
use Rattle.irs_resets.specs.Resets.{ResetDays, IsPeriod, base_day, ResetsOn, FixesOn, FixingFails, DatesFail}
use Rattle.irs_resets.specs.Resets.{GivesInitial, GivesFinal, InitialUnmet, FinalUnmet, BreaksStubs, date_fault}
use Rattle.irs_resets.specs.Resets.{BreaksResetDates, BreaksDatesIn, BreaksResets, ResetSource, IsResetsOf, IsResets}
use Rattle.irs_resets.specs.Private.Resets.{HasDates}
use Rattle.irs_resets.specs.Rates.{RateTable}
use Rattle.irs_resets.proofs.DateLemmas.{dates_stand, one_way, period_of, DatesOrFailure}
use Rattle.irs_resets.proofs.FirstResets.{rank, same_rank, NoneFails, first_reset, first_fixing, first_range}
use Rattle.irs_resets.proofs.FirstResets.{dates_unbroken, none_fails, first_initial, first_final, stubs_unbroken}
use Rattle.irs_resets.proofs.FirstResets.{first_of_stubs, first_of_dates}
use Rattle.irs_resets.proofs.KindLaws.{decides_less}
use Rattle.irs_resets.proofs.RowLemmas.{some_resets, has_dates}

-- ---- the dates of one period are there, or fail

-- a fixing date of the reset date is there, or fails in some way
abbrev FixingDecided : Option FixTerms → DaySet → ℤ → Type 0
FixingDecided fixing set r = ((f : ℤ) × FixesOn fixing set r f) ⊎ ((e : DateFault) × FixingFails e fixing set r)

fixing_by : (fix : FixTerms) (set : DaySet) (r : ℤ) → DateOrFailure fix.offset fix.adj.code set r
    → FixingDecided (Some fix) set r
fixing_by fix set r (inl date) = inl date
fixing_by fix set r (inr (inl lacks)) = inr (NoFixing, lacks)
fixing_by fix set r (inr (inr leaves)) = inr (OutOfRange, leaves)

decides_fixing : (fixing : Option FixTerms) (set : DaySet) (r : ℤ) → IsSaidFixing fixing → IsDay r → InRange set
    → FixingDecided fixing set r
decides_fixing None set r said day range = inl (r, refl)
decides_fixing (Some fix) set r said day range =
    fixing_by fix set r (date_or_failure fix.offset fix.adj.code set r day range said)

no_reset_fault : (fixing : Option FixTerms) (set : DaySet) (r : ℤ) → FixingFails NoReset fixing set r → ⊥
no_reset_fault None set r fails = fails
no_reset_fault (Some fix) set r fails = fails

base_is_day : (relative : Relative) (a : List ℤ) (i : ℕ) → AreDays a → IsDay (base_day relative a i)
base_is_day Start a i days = day_at_day a (i - 1) days
base_is_day End a i days = day_at_day a i days

-- the boundaries and both covers lie in the range of days
pub record InDays (days : ResetDays) : Type 0 where
  pub adjusted : AreDays days.adjusted
  pub reset_set : InRange days.reset_set
  pub fixing_set : InRange days.fixing_set

module _ (t : ResetTerms) (days : ResetDays) where
  fails_by : (e : DateFault) (i : ℕ) (r : ℤ) → IsPeriod days.adjusted i → ResetsOn t days i r
      → FixingFails e t.fixing days.fixing_set r → DatesFail e t days i
  fails_by NoReset i r period resets fails = absurd (no_reset_fault t.fixing days.fixing_set r fails)
  fails_by NoFixing i r period resets fails = record { period = period; reset = r; resets = resets; fails = fails }
  fails_by OutOfRange i r period resets fails = record { period = period; reset = r; resets = resets; fails = fails }

  dates_on : (i : ℕ) (r : ℤ) → IsPeriod days.adjusted i → ResetsOn t days i r → FixingDecided t.fixing days.fixing_set r
      → DatesOrFailure t days i
  dates_on i r period resets (inl found) =
      inl (r, found.0, record { period = period; resets = resets; fixes = found.1 })
  dates_on i r period resets (inr fault) = inr (fault.0, fails_by fault.0 i r period resets fault.1)

  module _ (said : IsSaidFixing t.fixing) (range : InDays days) where
    dates_by : (i : ℕ) → IsPeriod days.adjusted i → IsFound (ResetsOn t days i) → DatesOrFailure t days i
    dates_by i period (inl found) =
        let day = adjusts_day t.adj.code days.reset_set (base_day t.relative days.adjusted i) found.0
        (base_is_day t.relative days.adjusted i range.adjusted) range.reset_set found.1 in
        dates_on i found.0 period found.1 (decides_fixing t.fixing days.fixing_set found.0 said day range.fixing_set)
    dates_by i period (inr none) = inr (NoReset, record { period = period; none = none })

    -- a period has its dates, or they fail
    pub decides_dates : (i : ℕ) → IsPeriod days.adjusted i → DatesOrFailure t days i
    decides_dates i period =
        dates_by i period (decides_adjusts t.adj.code days.reset_set (base_day t.relative days.adjusted i)
        (base_is_day t.relative days.adjusted i range.adjusted) range.reset_set)

-- ---- the first period whose dates fail so, or none

-- P holds first of a number, or of none
abbrev FirstOrNone : (ℕ → Type 0) → Type 0
FirstOrNone P = ((i : ℕ) × First nat_lt P i) ⊎ ((i : ℕ) → P i → ⊥)

first_below : (P : ℕ → Type 0) (n : ℕ) → ((i : ℕ) → i < n → IsDecided (P i))
    → ((i : ℕ) × First nat_lt P i) ⊎ ((i : ℕ) → i < n → P i → ⊥)
first_below P zero decides = inr (λ i below p. omega (arith, below))
first_below P (suc n) decides = elim (first_below P n (λ i below. decides i (omega (arith, below)))) [
  | inl found ↦ inl found
  | inr none ↦ elim (decides n (omega arith)) [
    | inl holds ↦ inl (n, (holds, λ y p. lt_false y n (λ less. none y less p)))
    | inr not ↦ inr (λ i below p. elim (cases_lt i n) [
      | inl low ↦ none i low p
      | inr high ↦
          let last : i ≡ n = omega (arith, below, high) in
          not (subst P last p)
    ])
  ]
]

-- whether P holds of any number, where it holds of numbers below n alone
first_of : (P : ℕ → Type 0) (n : ℕ) → ((i : ℕ) → P i → i < n) → ((i : ℕ) → i < n → IsDecided (P i)) → FirstOrNone P
first_of P n within decides =
    elim (first_below P n decides) [ inl found ↦ inl found | inr none ↦ inr (λ i p. none i (within i p) p) ]

-- ---- the rules of dates

-- the first rule that is broken, or none is
abbrev pub BrokenOrNone : (Fault → Type 0) → Type 0
BrokenOrNone Breaks = ((f : Fault) × First comes_before Breaks f) ⊎ ((f : Fault) → Breaks f → ⊥)

module _ (t : ResetTerms) (days : ResetDays) (said : IsSaidFixing t.fixing) (range : InDays days) where
  by_failure : (why : DateFault) (i : ℕ) (found : DateFault) → DatesFail found t days i
      → (rank found ≡ rank why) ⊎ (rank found ≡ rank why → ⊥) → IsDecided (DatesFail why t days i)
  by_failure why i found fails (inl same) =
      inl (subst (λ (e : DateFault). DatesFail e t days i) (same_rank found why same) fails)
  by_failure why i found fails (inr other) = inr (λ h. other (ap rank (one_way found why t days i fails h)))

  fails_by_dates : (why : DateFault) (i : ℕ) → DatesOrFailure t days i → IsDecided (DatesFail why t days i)
  fails_by_dates why i (inl has) = inr (λ h. dates_stand why t days i has.0 has.1 has.2 h)
  fails_by_dates why i (inr fault) = by_failure why i fault.0 fault.1 (cases_eq (rank fault.0) (rank why))

  decides_fails : (why : DateFault) (i : ℕ) → i < length days.adjusted → IsDecided (DatesFail why t days i)
  decides_fails why zero below = inr (λ h. let period = (period_of t days why zero h).0 in omega (arith, period))
  decides_fails why (suc i) below =
      fails_by_dates why (suc i) (decides_dates t days said range (suc i) (omega arith, below))

  first_failure : (why : DateFault) → FirstOrNone (DatesFail why t days)
  first_failure why =
      first_of (DatesFail why t days) (length days.adjusted) (λ i h. (period_of t days why i h).1) (decides_fails why)

  by_range : NoneFails t days NoReset → NoneFails t days NoFixing → FirstOrNone (DatesFail OutOfRange t days)
      → BrokenOrNone (BreaksResetDates t days)
  by_range resets fixings (inl found) =
      inl (date_fault OutOfRange found.0, first_range t days found.0 resets fixings found.1)
  by_range resets fixings (inr none) = inr (dates_unbroken t days resets fixings none)

  by_fixing : NoneFails t days NoReset → FirstOrNone (DatesFail NoFixing t days) → BrokenOrNone (BreaksResetDates t days)
  by_fixing resets (inl found) = inl (date_fault NoFixing found.0, first_fixing t days found.0 resets found.1)
  by_fixing resets (inr none) = by_range resets none (first_failure OutOfRange)

  by_reset : FirstOrNone (DatesFail NoReset t days) → BrokenOrNone (BreaksResetDates t days)
  by_reset (inl found) = inl (date_fault NoReset found.0, first_reset t days found.0 found.1)
  by_reset (inr none) = by_fixing none (first_failure NoFixing)

  dates_decided : BrokenOrNone (BreaksResetDates t days)
  dates_decided = by_reset (first_failure NoReset)

  -- where no rule of dates is broken every period has its dates
  dates_there : ((f : Fault) → BreaksResetDates t days f → ⊥) → (i : ℕ) → IsPeriod days.adjusted i → HasDates t days i
  dates_there none i period =
      let fails = none_fails t days none in
      has_dates t days i (decides_dates t days said range i period) (fails NoReset i) (fails NoFixing i)
      (fails OutOfRange i)

dates_decided_in : (reset : Option ResetTerms) (days : ResetDays) → IfSome reset (λ t. IsSaidFixing t.fixing)
    → InDays days → BrokenOrNone (BreaksDatesIn reset days)
dates_decided_in None days said range = inr (λ f h. h)
dates_decided_in (Some t) days said range = dates_decided t days said range

-- ---- the rule of stubs

decides_some : {A : Type 0} (o : Option A) → IsDecided (IsSome o)
decides_some None = inr (λ h. search rules)
decides_some (Some x) = inl refl

gives_initial : (stubs : Option StubTerms) → IsDecided (GivesInitial stubs)
gives_initial None = inr (λ h. h)
gives_initial (Some stubs) = decides_some stubs.initial

gives_final : (stubs : Option StubTerms) → IsDecided (GivesFinal stubs)
gives_final None = inr (λ h. h)
gives_final (Some stubs) = decides_some stubs.last

module _ (s : Stream) (span : Span) where
  initial_decided : IsDecided (GivesInitial s.stubs) → IsDecided (first_day_of s <ℤ span.first)
      → IsDecided (InitialUnmet s span)
  initial_decided (inl given) (inl before) = inr (λ h. h.no_stub before)
  initial_decided (inl given) (inr no_stub) = inl (record { given = given; no_stub = no_stub })
  initial_decided (inr none) there = inr (λ h. none h.given)

  final_decided : IsDecided (GivesFinal s.stubs) → IsDecided (span.last <ℤ s.termination.day)
      → IsDecided (FinalUnmet s span)
  final_decided (inl given) (inl before) = inr (λ h. h.no_stub before)
  final_decided (inl given) (inr no_stub) = inl (record { given = given; no_stub = no_stub })
  final_decided (inr none) there = inr (λ h. none h.given)

  stubs_by : IsDecided (InitialUnmet s span) → IsDecided (FinalUnmet s span) → BrokenOrNone (BreaksStubs s span)
  stubs_by (inl unmet) last = inl (_, first_initial s span unmet)
  stubs_by (inr met) (inl unmet) = inl (_, first_final s span met unmet)
  stubs_by (inr met) (inr also) = inr (stubs_unbroken s span met also)

  stubs_decided : BrokenOrNone (BreaksStubs s span)
  stubs_decided =
      stubs_by (initial_decided (gives_initial s.stubs) (decides_less (first_day_of s) span.first))
      (final_decided (gives_final s.stubs) (decides_less span.last s.termination.day))

-- ---- the resets of a stream

module _ (source : ResetSource) where
  by_dates : ((f : Fault) → BreaksStubs source.stream source.span f → ⊥)
      → BrokenOrNone (BreaksDatesIn source.stream.reset source.days) → BrokenOrNone (BreaksResets source)
  by_dates met (inl first) = inl (first.0, first_of_dates source (Some first.0) met first.1)
  by_dates met (inr none) = inr (first_of_dates source None met none)

  by_stubs : BrokenOrNone (BreaksStubs source.stream source.span)
      → BrokenOrNone (BreaksDatesIn source.stream.reset source.days) → BrokenOrNone (BreaksResets source)
  by_stubs (inl first) dates = inl (first.0, first_of_stubs source first.0 first.1)
  by_stubs (inr met) dates = by_dates met dates

  -- a rule of resets is the first that is broken, or none is
  pub resets_decided : IsSaidReset source.stream → InDays source.days → BrokenOrNone (BreaksResets source)
  resets_decided said range =
      by_stubs (stubs_decided source.stream source.span) (dates_decided_in source.stream.reset source.days said range)

  module _ (rates : RateTable) (range : InDays source.days) where
    floating_there : (float : FloatTerms) (reset : Option ResetTerms) → IsSome reset
        → IfSome reset (λ t. IsSaidFixing t.fixing) → ((f : Fault) → BreaksDatesIn reset source.days f → ⊥)
        → (rows : List Reset) × IsResetsOf (Floating float) reset source rates rows
    floating_there float None some said none = absurd (search rules)
    floating_there float (Some t) some said none =
        some_resets source rates float t (dates_there t source.days said range none)

    there_of : (leg : Leg) (reset : Option ResetTerms) → FitsResets leg reset
        → IfSome reset (λ t. IsSaidFixing t.fixing) → ((f : Fault) → BreaksDatesIn reset source.days f → ⊥)
        → (rows : List Reset) × IsResetsOf leg reset source rates rows
    there_of (Fixed values) reset fits said none = ([], refl)
    there_of (Floating float) reset fits said none = floating_there float reset fits said none

    -- where no rule is broken there is the list of resets
    pub resets_there : FitsLeg source.stream → IsSaidReset source.stream → ((f : Fault) → BreaksResets source f → ⊥)
        → (rows : List Reset) × IsResets source rates rows
    resets_there fits said none =
        there_of source.stream.leg source.stream.reset fits.resets said (λ f h. none f (inr h))
