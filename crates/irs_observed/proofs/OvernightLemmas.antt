-- The observed rate of a period: what its kind and its observations give.
use Rattle.std.proofs.Common.{◌≡◌, ◌↔◌, inl, inr, ℕ, zero, suc, ◌+◌, ◌-◌, ◌<◌, ◌≤◌, List, [], ◌∷◌, length, All, Bool, IsTrue}
use Rattle.std.proofs.Common.{Some, None, Result, Ok, Err, ℤ, ◌<ℤ◌, refl, sym, subst, arith}
use Rattle.std.proofs.lemmas.List.Elements.{All-get_or}
use Rattle.std.proofs.lemmas.Option.{get_or_from_slice_get, slice_get_within}
use Rattle.std.specs.List.{slice_get}
use Rattle.irs_base.specs.Lists.{IsRising, day_at}
use Rattle.irs_base.specs.Outcomes.{First, IfStopped, Meets}
use Rattle.irs_base.specs.declared.stopped.Stopped.{Stopped}
use Rattle.irs_base.specs.declared.stopped.Stopped.TheVariants.{Broken as OfBroken, Memory as OfMemory}
use Rattle.irs_base.proofs.Rising.{member_after}
use Rattle.irs_resets.specs.Resets.{IsPeriod}
use Rattle.irs_resets.specs.Rates.{RateTable}
use Rattle.irs_resets.specs.declared.observed.PeriodKind.{PeriodKind}
use Rattle.irs_resets.proofs.KindLaws.{one_kind}
use Rattle.irs_observed.specs.ObservedRates.{daily_rates}
use Rattle.irs_observed.specs.Observations.{LacksObservations, reported_before}
use Rattle.irs_observed.specs.Private.OvernightRates.{rate_at_of, rate_over_of}
use Rattle.irs_observed.specs.OvernightRates.{HasBounds, IsKindIn, LacksAt, OvernightSource, period_of, source_periods}
use Rattle.irs_observed.specs.OvernightRates.{printed_at, printed_of, HasOwnRate, StatesRate}
use Rattle.irs_observed.specs.declared.observation.NoObservations.{NoObservations}
use Rattle.irs_observed.specs.declared.observation.NoObservations.TheVariants.{FewMembers, NoDay}
use Rattle.irs_observed.specs.declared.overnight_rate.OvernightRate.{OvernightRate}
use Rattle.irs_observed.specs.declared.overnight_rate.OvernightRate.TheVariants.{Stated}
use Rattle.irs_observed.proofs.ListLemmas.{at_member}

next_day : (a : List ℤ) (i : ℕ) → IsRising a → suc i < length a → day_at a i <ℤ day_at a (suc i)
next_day [] i rising high = absurd (omega (arith, high))
next_day (x ∷ xs) zero rising high = member_after x (day_at xs 0) xs rising.0 (at_member xs 0 (omega (arith, high)))
next_day (x ∷ xs) (suc i) rising high = next_day xs i rising.1 (omega (arith, high))

-- a boundary comes before the next
pub next_after : (a : List ℤ) (i : ℕ) → IsRising a → 1 ≤ i → i < length a → day_at a (i - 1) <ℤ day_at a i
next_after a zero rising low high = absurd (omega (arith, low))
next_after a (suc i) rising low high =
    let e : suc i - 1 ≡ i = omega arith in
    rw e (next_day a i rising high)

module _ (source : OvernightSource) (rates : RateTable) (i : ℕ) (kind : PeriodKind) (is : IsKindIn source i kind) where
  one_kind_in : (k : PeriodKind) → IsKindIn source i k → k ≡ kind
  one_kind_in k h = one_kind source.stream source.span (source_periods source) i k kind h is

  -- a stub with a rate of its own has that rate, and lacks nothing
  pub stated_rate : (rate : ℤ) → StatesRate kind source.stream.stubs rate
      → (rate_at_of source rates i).Answers (Stated rate)
  stated_rate rate states = (
    λ why h. h.daily (
      rate,
      subst (λ (k : PeriodKind). StatesRate k source.stream.stubs rate)
          (sym (one_kind_in h.kind h.is_kind)) states,
    ),
    record { kind = kind; is_kind = is; is_rate = inl (rate, states, refl) },
  )

  module _ (daily : HasOwnRate kind source.stream.stubs → ⊥) where
    -- another one has the rate of its daily rates, and lacks what its observations lack
    pub daily_rate_of : (r : OvernightRate)
        → (rate_over_of source.method (daily_rates rates source.index) (period_of source i)).Answers r
        → (rate_at_of source rates i).Answers r
    daily_rate_of r over = (
      λ why h. over.0 why h.lacks,
      record { kind = kind; is_kind = is; is_rate = inr (daily, over.1) },
    )

    pub daily_lacks : IsPeriod source.adjusted i → (why : NoObservations)
        → First reported_before (LacksObservations (period_of source i)) why
        → First reported_before (LacksAt source i) why
    daily_lacks period why first = (
      record { period = period; kind = kind; is_kind = is; daily = daily; lacks = first.0 },
      λ other h. first.1 other h.lacks,
    )

    stops_with : IsPeriod source.adjusted i → (e : Stopped NoObservations)
        → IfStopped e (First reported_before (LacksObservations (period_of source i)))
        → IfStopped e (First reported_before (LacksAt source i))
    stops_with period (OfBroken why) first = daily_lacks period why first
    stops_with period OfMemory first = tt

    -- so what is right for its daily rates is right for it
    pub daily_meets : IsPeriod source.adjusted i → (r : Result OvernightRate (Stopped NoObservations))
        → Meets (rate_over_of source.method (daily_rates rates source.index) (period_of source i)) r
        → Meets (rate_at_of source rates i) r
    daily_meets period (Ok r) over = daily_rate_of r over
    daily_meets period (Err e) first = stops_with period e first

-- whether the reason is that there are too few members, there are or not
pub few_is : (source : OvernightSource) (i : ℕ) (why : NoObservations) → First reported_before (LacksAt source i) why
    → (b : Bool) → (IsTrue b ↔ (why ≡ FewMembers)) → IsTrue b ↔ LacksAt source i FewMembers
few_is source i FewMembers first b is = (λ h. first.0, λ h. is.1 refl)
few_is source i NoDay first b is = (
  λ h. let e : NoDay ≡ FewMembers = is.0 h in cc (e),
  λ h. let e = first.1 FewMembers h in cc (e),
)

-- a rate at a place keeps the bounds that all do
pub bounded_at : (rs : List OvernightRate) (i : ℕ) (r : OvernightRate) → All HasBounds rs → slice_get rs i ≡ Some r
    → HasBounds r
bounded_at rs i r h at =
    subst HasBounds (get_or_from_slice_get rs i r r at) (All-get_or HasBounds rs i r (slice_get_within rs i r at) h)

-- what is printed of the rate at a place
pub printed_some : (rs : List OvernightRate) (i : ℕ) (r : OvernightRate) → slice_get rs i ≡ Some r
    → printed_of r ≡ printed_at rs (i + 1)
printed_some rs i r at = let e : i + 1 - 1 ≡ i = omega arith in rw (e, at) refl

-- past the last place there is none
pub printed_none : (rs : List OvernightRate) (i : ℕ) → slice_get rs i ≡ None → None ≡ printed_at rs (i + 1)
printed_none rs i at = let e : i + 1 - 1 ≡ i = omega arith in rw (e, at) refl
