-- Lists of resets: one at most, and one where each period has its dates.
use Rattle.std.proofs.Common.{◌≡◌, inl, inr, ℕ, ◌+◌, ◌-◌, ◌<◌, ◌≤◌, List, [], ◌∷◌, length, Option, Some}
use Rattle.std.proofs.Common.{None, ℤ, pos, ◌≤ℤ◌, ◌-ℤ◌, sym, ap, ap₂, subst, ◌∙◌, arith}
use Rattle.jiff_core.proofs.SignedLemmas.{signed_arith}
use Rattle.irs_base.specs.Days.{all_days, first_day, last_day}
use Rattle.irs_base.specs.Lists.{AreDays, AllAfter, IsRising}
use Rattle.irs_base.proofs.MemberLemmas.{one_numbered, numbered_map, numbered_there}
use Rattle.irs_terms.specs.declared.dates.ResetTerms.{ResetTerms}
use Rattle.irs_terms.specs.declared.amounts.FloatTerms.{FloatTerms}
use Rattle.irs_terms.specs.declared.amounts.Leg.{Leg}
use Rattle.irs_terms.specs.declared.amounts.Leg.TheVariants.{Fixed, Floating}
use Rattle.irs_terms.specs.declared.results.Reset.{Reset}
use Rattle.irs_resets.specs.declared.dates.DateFault.{DateFault}
use Rattle.irs_resets.specs.declared.dates.DateFault.TheVariants.{NoReset, NoFixing, OutOfRange}
use Rattle.irs_resets.specs.Resets.{ResetDays, IsPeriod, DatesFail, ResetSource, source_period_count, IsReset}
use Rattle.irs_resets.specs.Resets.{HasResets, IsResetsOf, IsResets}
use Rattle.irs_resets.specs.Private.Resets.{HasDates, observed_rate}
use Rattle.irs_resets.specs.Rates.{IsObserved, RateTable, rate_at}
use Rattle.irs_resets.specs.declared.observed.PeriodKind.{PeriodKind}
use Rattle.irs_resets.specs.declared.store.Slot.{Slot}
use Rattle.irs_resets.proofs.DateLemmas.{one_dates, DatesOrFailure}
use Rattle.irs_resets.proofs.KindLaws.{kind_there, one_kind}
use Rattle.irs_resets.proofs.ObservedLaws.{is_observed, one_observed, observed_same}

-- how many rows there are when every period was walked
pub many_rows : (rows number a : ℕ) → rows + 1 ≡ number → (1 < number → number ≤ a) → a ≤ number → rows ≡ a - 1
many_rows rows number a e within walked = grind (arith, e, within, walked)

module _ (source : ResetSource) (rates : RateTable) where
  module _ (f : FloatTerms) (t : ResetTerms) where
    -- a period has one reset
    pub one_row : (i : ℕ) (x y : Reset) → IsReset source f t rates i x → IsReset source f t rates i y → x ≡ y
    one_row i x y p q =
        let same = one_dates t source.days i x.reset x.fixing y.reset y.fixing p.dates q.dates in
        let kinds : p.kind ≡ q.kind =
        one_kind source.stream source.span (source_period_count source) i p.kind q.kind p.is_kind q.is_kind in
        let by_kind : IsObserved q.kind f source.stream.stubs rates x.fixing x.observed =
        subst (λ (k : PeriodKind). IsObserved k f source.stream.stubs rates x.fixing x.observed) kinds p.observed in
        let by_day : IsObserved q.kind f source.stream.stubs rates y.fixing x.observed =
        subst (λ (d : ℤ). IsObserved q.kind f source.stream.stubs rates d x.observed) same.1 by_kind in
        let e : x.observed ≡ y.observed =
        one_observed f q.kind source.stream.stubs rates y.fixing x.observed y.observed by_day q.observed in
        let make : ℤ → ℤ → Option ℤ → Reset = λ r g o. record { reset = r; fixing = g; observed = o } in
        ap (λ r. make r x.fixing x.observed) same.0 ∙ ap₂ (λ g o. make y.reset g o) same.1 e

    one_has : (xs ys : List Reset) → HasResets source f t rates xs → HasResets source f t rates ys → xs ≡ ys
    one_has xs ys p q = one_numbered (IsReset source f t rates) one_row 1 xs ys (p.many ∙ sym q.many) p.each q.each

    -- where each period has its dates there is a list of resets
    pub some_resets : ((i : ℕ) → IsPeriod source.days.adjusted i → HasDates t source.days i)
        → (rows : List Reset) × HasResets source f t rates rows
    some_resets h =
        let row : (k : ℕ) → 1 ≤ k → k < 1 + source_period_count source → (r : Reset) × IsReset source f t rates k r = λ k low high.
        let d = h k (low, omega (arith, low, high)) in
        let kind = kind_there source.stream source.span (source_period_count source) k in (
          record { reset = d.0; fixing = d.1; observed = observed_rate kind.0 f source.stream.stubs rates d.1 },
          record {
            dates = d.2;
            kind = kind.0;
            is_kind = kind.1;
            observed =
                is_observed f kind.0 source.stream.stubs rates d.1;
          },
        ) in
        let l = numbered_there (IsReset source f t rates) (source_period_count source) 1 row in
        (l.0, record { many = l.1; each = l.2 })

  one_of : (leg : Leg) (reset : Option ResetTerms) (xs ys : List Reset) → IsResetsOf leg reset source rates xs
      → IsResetsOf leg reset source rates ys → xs ≡ ys
  one_of (Fixed values) reset xs ys p q = p ∙ sym q
  one_of (Floating f) None xs ys p q = absurd p
  one_of (Floating f) (Some t) xs ys p q = one_has f t xs ys p q

  -- a stream has one list of resets
  pub one_resets : (xs ys : List Reset) → IsResets source rates xs → IsResets source rates ys → xs ≡ ys
  one_resets xs ys p q = one_of source.stream.leg source.stream.reset xs ys p q

  -- the resets by the terms that the stream has
  pub resets_in : (f : FloatTerms) (t : ResetTerms) (rows : List Reset) → source.stream.leg ≡ Floating f
      → source.stream.reset ≡ Some t → HasResets source f t rates rows → IsResets source rates rows
  resets_in f t rows d e h =
      let by_terms : IsResetsOf (Floating f) source.stream.reset source rates rows =
      subst (λ (o : Option ResetTerms). IsResetsOf (Floating f) o source rates rows) (sym e) h in
      subst (λ (l : Leg). IsResetsOf l source.stream.reset source rates rows) (sym d) by_terms

-- tables with the same rates give the same resets
module _ (source : ResetSource) (u v : RateTable) (same : (index : List ℕ) (slot : Slot)
    → rate_at u index slot ≡ rate_at v index slot) where
  has_same : (f : FloatTerms) (t : ResetTerms) (rows : List Reset) → HasResets source f t u rows
      → HasResets source f t v rows
  has_same f t rows h =
      let row : (m : ℕ) (x : Reset) → IsReset source f t u m x → IsReset source f t v m x = λ m x r.
      record {
        dates = r.dates;
        kind = r.kind;
        is_kind = r.is_kind;
        observed =
            observed_same u v same r.kind f source.stream.stubs x.fixing x.observed r.observed;
      } in
      record {
        many = h.many;
        each =
            numbered_map (IsReset source f t u) (IsReset source f t v) 1 rows (λ m x low high r. row m x r) h.each;
      }

  same_of : (leg : Leg) (reset : Option ResetTerms) (rows : List Reset) → IsResetsOf leg reset source u rows
      → IsResetsOf leg reset source v rows
  same_of (Fixed values) reset rows h = h
  same_of (Floating f) None rows h = absurd h
  same_of (Floating f) (Some t) rows h = has_same f t rows h

  -- resets depend on the rates alone
  pub resets_same : (rows : List Reset) → IsResets source u rows → IsResets source v rows
  resets_same rows h = same_of source.stream.leg source.stream.reset rows h

-- dates that fail in no way are there
none_fails : (t : ResetTerms) (days : ResetDays) (i : ℕ) → (DatesFail NoReset t days i → ⊥) → (DatesFail NoFixing t days i → ⊥)
    → (DatesFail OutOfRange t days i → ⊥) → (why : DateFault) → DatesFail why t days i → ⊥
none_fails t days i p q r NoReset h = p h
none_fails t days i p q r NoFixing h = q h
none_fails t days i p q r OutOfRange h = r h

-- a period that fails in no way has its dates
pub has_dates : (t : ResetTerms) (days : ResetDays) (i : ℕ) → DatesOrFailure t days i
    → (DatesFail NoReset t days i → ⊥) → (DatesFail NoFixing t days i → ⊥) → (DatesFail OutOfRange t days i → ⊥) → HasDates t days i
has_dates t days i (inl h) p q r = h
has_dates t days i (inr h) p q r = absurd (none_fails t days i p q r h.0 h.1)

-- rising days are few
after_few : (x : ℤ) (xs : List ℤ) → AllAfter x xs → IsRising xs → AreDays xs → first_day ≤ℤ x → x ≤ℤ last_day
    → (pos (length xs) ≤ℤ (last_day -ℤ x))
after_few x [] after rising days low high = omega (arith, signed_arith, high)
after_few x (y ∷ ys) after rising days low high =
    let rest = after_few y ys rising.0 rising.1 days.1 days.0.0 days.0.1 in
    omega (arith, signed_arith, rest, after.0, low)

-- rising days are no more than there are
pub few_days : (xs : List ℤ) → IsRising xs → AreDays xs → length xs ≤ all_days
few_days [] rising days = omega arith
few_days (x ∷ xs) rising days =
    let rest = after_few x xs rising.0 rising.1 days.1 days.0.0 days.0.1 in
    omega (arith, signed_arith, rest, days.0.0)
