-- The first broken rule of resets. The rules of stubs come before those of dates. Broken rules of dates come
-- in the order of what fails, then of the period.
use Rattle.std.proofs.Common.{◌≡◌, inl, inr, ℕ, ◌<◌, false, Option, Some, None, refl, sym, subst, ◌∙◌, arith}
use Rattle.std.specs.Prelude.{nat_lt}
use Rattle.std.proofs.lemmas.Bool.{cases_order}
use Rattle.irs_terms.specs.declared.places.Rule.TheVariants.{K37}
use Rattle.irs_terms.specs.declared.places.Fault.{Fault}
use Rattle.irs_terms.specs.Elements.{initial_stub, final_stub}
use Rattle.irs_base.specs.Outcomes.{First, IsFirst, level}
use Rattle.irs_terms.specs.Faults.{fault_at, comes_before}
use Rattle.irs_base.proofs.Firsts.{level_same, level_later}
use Rattle.irs_terms.specs.declared.dates.ResetTerms.{ResetTerms}
use Rattle.irs_terms.specs.declared.stream.Stream.{Stream}
use Rattle.irs_terms.specs.declared.results.Span.{Span}
use Rattle.irs_resets.specs.declared.dates.DateFault.{DateFault}
use Rattle.irs_resets.specs.declared.dates.DateFault.TheVariants.{NoReset, NoFixing, OutOfRange}
use Rattle.irs_resets.specs.Resets.{ResetDays, DatesFail, ResetSource, InitialUnmet, FinalUnmet, BreaksStubs}
use Rattle.irs_resets.specs.Resets.{date_fault, BreaksResetDates, BreaksDatesIn, BreaksResets}

-- ---- dates

-- the place of a way to fail among the others
abbrev pub rank : DateFault → ℕ
rank NoReset = 0
rank NoFixing = 1
rank OutOfRange = 2

dates_order : (e d : DateFault) (j i : ℕ) → comes_before (date_fault e j) (date_fault d i)
    ≡ level (rank e) (rank d) (nat_lt j i)
dates_order NoReset NoReset j i = refl
dates_order NoReset NoFixing j i = refl
dates_order NoReset OutOfRange j i = refl
dates_order NoFixing NoReset j i = refl
dates_order NoFixing NoFixing j i = refl
dates_order NoFixing OutOfRange j i = refl
dates_order OutOfRange NoReset j i = refl
dates_order OutOfRange NoFixing j i = refl
dates_order OutOfRange OutOfRange j i = refl

-- ways to fail of one rank are one
pub same_rank : (e d : DateFault) → rank e ≡ rank d → e ≡ d
same_rank NoReset NoReset h = refl
same_rank NoReset NoFixing h = absurd (omega (arith, h))
same_rank NoReset OutOfRange h = absurd (omega (arith, h))
same_rank NoFixing NoReset h = absurd (omega (arith, h))
same_rank NoFixing NoFixing h = refl
same_rank NoFixing OutOfRange h = absurd (omega (arith, h))
same_rank OutOfRange NoReset h = absurd (omega (arith, h))
same_rank OutOfRange NoFixing h = absurd (omega (arith, h))
same_rank OutOfRange OutOfRange h = refl

module _ (t : ResetTerms) (days : ResetDays) where
  -- no dates fail in this way
  abbrev pub NoneFails : DateFault → Type 0
  NoneFails why = (i : ℕ) → DatesFail why t days i → ⊥

  not_earlier : (d : DateFault) (i : ℕ) → First nat_lt (DatesFail d t days) i
      → ((e : DateFault) → rank e < rank d → NoneFails e) → (e : DateFault) (j : ℕ) → DatesFail e t days j
      → level (rank e) (rank d) (nat_lt j i) ≡ false
  not_earlier d i first earlier e j fails = elim (cases_order (rank e) (rank d)) [
    | inl same ↦
        level_same (rank e) (rank d) (nat_lt j i) same
        (first.1 j (subst (λ (w : DateFault). DatesFail w t days j) (same_rank e d same) fails))
    | inr (inl less) ↦ absurd (earlier e less j fails)
    | inr (inr more) ↦ level_later (rank e) (rank d) (nat_lt j i) more
  ]

  -- where no dates fail in an earlier way, the first that fail so break the first rule
  first_date : (d : DateFault) (i : ℕ) → ((e : DateFault) → rank e < rank d → NoneFails e)
      → First nat_lt (DatesFail d t days) i → First comes_before (BreaksResetDates t days) (date_fault d i)
  first_date d i earlier first = (
    record { number = i; why = d; fails = first.0; is = refl },
    λ g b.
        let at : comes_before (date_fault b.why b.number) (date_fault d i) ≡ false =
        dates_order b.why d b.number i ∙ not_earlier d i first earlier b.why b.number b.fails in
        subst (λ (h : Fault). comes_before h (date_fault d i) ≡ false) (sym b.is) at,
  )

  before_fixing : NoneFails NoReset → (e : DateFault) → rank e < 1 → NoneFails e
  before_fixing resets NoReset low = resets
  before_fixing resets NoFixing low = absurd (omega (arith, low))
  before_fixing resets OutOfRange low = absurd (omega (arith, low))

  before_range : NoneFails NoReset → NoneFails NoFixing → (e : DateFault) → rank e < 2 → NoneFails e
  before_range resets fixings NoReset low = resets
  before_range resets fixings NoFixing low = fixings
  before_range resets fixings OutOfRange low = absurd (omega (arith, low))

  -- the first period without a reset date is the first fault
  pub first_reset : (i : ℕ) → First nat_lt (DatesFail NoReset t days) i
      → First comes_before (BreaksResetDates t days) (date_fault NoReset i)
  first_reset i = first_date NoReset i (λ e low. absurd (omega (arith, low)))

  -- else the first without a fixing date is
  pub first_fixing : (i : ℕ) → NoneFails NoReset → First nat_lt (DatesFail NoFixing t days) i
      → First comes_before (BreaksResetDates t days) (date_fault NoFixing i)
  first_fixing i resets = first_date NoFixing i (before_fixing resets)

  -- else the first whose fixing date leaves the range is
  pub first_range : (i : ℕ) → NoneFails NoReset → NoneFails NoFixing → First nat_lt (DatesFail OutOfRange t days) i
      → First comes_before (BreaksResetDates t days) (date_fault OutOfRange i)
  first_range i resets fixings = first_date OutOfRange i (before_range resets fixings)

  none_by : NoneFails NoReset → NoneFails NoFixing → NoneFails OutOfRange → (why : DateFault) → NoneFails why
  none_by resets fixings ranges NoReset = resets
  none_by resets fixings ranges NoFixing = fixings
  none_by resets fixings ranges OutOfRange = ranges

  -- dates that fail in no way break no rule
  pub dates_unbroken : NoneFails NoReset → NoneFails NoFixing → NoneFails OutOfRange → (f : Fault)
      → BreaksResetDates t days f → ⊥
  dates_unbroken resets fixings ranges f b = none_by resets fixings ranges b.why b.number b.fails

  -- and the other way round
  pub none_fails : ((f : Fault) → BreaksResetDates t days f → ⊥) → (why : DateFault) → NoneFails why
  none_fails none why i fails = none (date_fault why i) (record { number = i; why = why; fails = fails; is = refl })

-- ---- stubs

module _ (s : Stream) (span : Span) where
  -- an initial stub that is not there is the first fault (K37)
  pub first_initial : InitialUnmet s span → First comes_before (BreaksStubs s span) (fault_at K37 initial_stub 0)
  first_initial unmet = (
    inl (unmet, refl),
    λ g b. elim b [
      | inl initial ↦ subst (λ (h : Fault). comes_before h (fault_at K37 initial_stub 0) ≡ false) (sym initial.1) refl
      | inr final ↦ subst (λ (h : Fault). comes_before h (fault_at K37 initial_stub 0) ≡ false) (sym final.1) refl
    ],
  )

  -- else a final stub that is not there is
  pub first_final : (InitialUnmet s span → ⊥) → FinalUnmet s span
      → First comes_before (BreaksStubs s span) (fault_at K37 final_stub 0)
  first_final met unmet = (
    inr (unmet, refl),
    λ g b. elim b [
      | inl initial ↦ absurd (met initial.0)
      | inr final ↦ subst (λ (h : Fault). comes_before h (fault_at K37 final_stub 0) ≡ false) (sym final.1) refl
    ],
  )

  -- else K37 is not broken
  pub stubs_unbroken : (InitialUnmet s span → ⊥) → (FinalUnmet s span → ⊥) → (f : Fault) → BreaksStubs s span f → ⊥
  stubs_unbroken initial last f (inl h) = initial h.0
  stubs_unbroken initial last f (inr h) = last h.0

-- ---- both

-- no rule of dates comes before one of stubs
date_is_later : (why : DateFault) (i : ℕ) → (comes_before (date_fault why i) (fault_at K37 initial_stub 0) ≡ false)
    × (comes_before (date_fault why i) (fault_at K37 final_stub 0) ≡ false)
date_is_later NoReset i = (refl, refl)
date_is_later NoFixing i = (refl, refl)
date_is_later OutOfRange i = (refl, refl)

later : (s : Stream) (span : Span) (f : Fault) (why : DateFault) (i : ℕ) → BreaksStubs s span f
    → comes_before (date_fault why i) f ≡ false
later s span f why i (inl h) =
    subst (λ (x : Fault). comes_before (date_fault why i) x ≡ false) (sym h.1) (date_is_later why i).0
later s span f why i (inr h) =
    subst (λ (x : Fault). comes_before (date_fault why i) x ≡ false) (sym h.1) (date_is_later why i).1

dates_later : (s : Stream) (span : Span) (reset : Option ResetTerms) (days : ResetDays) (f g : Fault)
    → BreaksStubs s span f → BreaksDatesIn reset days g → comes_before g f ≡ false
dates_later s span None days f g stub dates = absurd dates
dates_later s span (Some t) days f g stub dates =
    subst (λ (x : Fault). comes_before x f ≡ false) (sym dates.is) (later s span f dates.why dates.number stub)

module _ (source : ResetSource) where
  -- the first broken rule of stubs is the first of all
  pub first_of_stubs : (f : Fault) → First comes_before (BreaksStubs source.stream source.span) f
      → First comes_before (BreaksResets source) f
  first_of_stubs f first = (
    inl first.0,
    λ g b. elim b [
      | inl stub ↦ first.1 g stub
      | inr date ↦ dates_later source.stream source.span source.stream.reset source.days f g first.0 date
    ],
  )

  -- where none of stubs is broken, the answer for dates is the answer for all
  pub first_of_dates : (answer : Option Fault) → ((f : Fault) → BreaksStubs source.stream source.span f → ⊥)
      → IsFirst comes_before (BreaksDatesIn source.stream.reset source.days) answer
      → IsFirst comes_before (BreaksResets source) answer
  first_of_dates None met none = λ g b. elim b [ inl stub ↦ met g stub | inr date ↦ none g date ]
  first_of_dates (Some f) met first =
      (inr first.0, λ g b. elim b [ inl stub ↦ absurd (met g stub) | inr date ↦ first.1 g date ])

-- the rules by the terms that the stream has
pub first_in : (t : ResetTerms) (reset : Option ResetTerms) (days : ResetDays) (answer : Option Fault) → reset ≡ Some t
    → IsFirst comes_before (BreaksResetDates t days) answer → IsFirst comes_before (BreaksDatesIn reset days) answer
first_in t reset days answer e first =
    subst (λ (o : Option ResetTerms). IsFirst comes_before (BreaksDatesIn o days) answer) (sym e) first
