-- Where no rule is broken each period has its observations and what they give, so there is a list of rates.
use Rattle.std.proofs.Common.{◌≡◌, inl, inr, ℕ, zero, suc, ◌+◌, ◌-◌, ◌^◌, ◌≤◌, List, [], ◌∷◌, ◌++◌, length, Option}
use Rattle.std.proofs.Common.{Some, None, ℤ, pos, ◌+ℤ◌, ◌-ℤ◌, ◌*ℤ◌, ◌<ℤ◌, ◌≤ℤ◌, refl, sym, subst, arith}
use Rattle.std.specs.Prelude.{unsigned_abs}
use Rattle.jiff_core.proofs.SignedLemmas.{signed_arith}
use Rattle.irs_base.specs.Lists.{Every, day_at}
use Rattle.irs_terms.specs.declared.places.Fault.{Fault}
use Rattle.irs_base.proofs.MemberLemmas.{numbered_there}
use Rattle.irs_base.proofs.RoundingLaws.{nearest_exists}
use Rattle.irs_calendar.specs.GoodDays.{DaySet, InCover}
use Rattle.irs_adjust.proofs.FoundDays.{decides_good, decides_in_cover, decides_prev}
use Rattle.irs_resets.specs.Resets.{IsPeriod}
use Rattle.irs_resets.proofs.FileLemmas.{some_rate}
use Rattle.irs_schedule.specs.Parts.{KeepsBounds, Rises}
use Rattle.irs_overnight.specs.Overnight.{derived_period_at, DerivedSource, derived_source, fixing_at, AreDerived}
use Rattle.irs_overnight.specs.Overnight.{IsDerivedRow, BreaksDerived, no_basis, period_fault, OvernightAsked}
use Rattle.irs_overnight.specs.Overnight.{HasSource, IsAsked, IsOvernight, OvernightKept}
use Rattle.irs_observed.specs.ObservedRates.{unit_rate}
use Rattle.irs_overnight.specs.Observations.{DerivedGrows, derived_one, DailyPeriod, FindsRate, IsFound}
use Rattle.irs_overnight.specs.Observations.{AreRateObservations, AreRatesObserved, IsRateObservation, first_absent}
use Rattle.irs_overnight.specs.Observations.{next_start, observed_on, RateLines, basis_of, rate_by, AreStarts}
use Rattle.irs_overnight.specs.Observations.{LacksDays}
use Rattle.irs_overnight.specs.declared.derived.DerivedRow.{DerivedRow}
use Rattle.irs_overnight.specs.declared.derived.Found.{Found}
use Rattle.irs_overnight.specs.declared.derived.Found.TheVariants.{Rate, Missing}
use Rattle.irs_overnight.specs.declared.observations.Observation.{Observation}
use Rattle.irs_overnight.specs.declared.periods.PeriodFault.TheVariants.{NoDays}
use Rattle.irs_overnight.proofs.FactorLemmas.{above}
use Rattle.irs_overnight.proofs.ObservationLemmas.{known_or}
use Rattle.irs_overnight.proofs.PeriodLemmas.{basis_range, positive}
use Rattle.irs_overnight.proofs.RowLemmas.{in_order}
use Rattle.irs_overnight.proofs.SourceLemmas.{asked_part, every_at, has_source}
use Rattle.irs_overnight.proofs.StartLemmas.{starts_bad, starts_good, starts_one}

-- every day of the period lies in the cover
abbrev Inside : DaySet → ℤ → ℤ → Type 0
Inside set s e = (d : ℤ) → s ≤ℤ d → d <ℤ e → InCover set d

starts_of : (set : DaySet) (s : ℤ) (n : ℕ) → Inside set s (s +ℤ pos (suc n))
    → (u : List ℤ) × AreStarts set s (s +ℤ pos (suc n)) u
starts_of set s zero inside = (s ∷ [], starts_one set s)
starts_of set s (suc n) inside =
    let before = starts_of set s n (λ d low high. inside d low (omega (arith, signed_arith, high))) in
    let day : ℤ = s +ℤ pos (suc n) in
    let some : 1 ≤ suc n = omega arith in
    let longer : suc n + 1 ≡ suc (suc n) = omega arith in
    elim (decides_good set day (inside day (omega (arith, signed_arith)) (omega (arith, signed_arith)))) [
      | inl good ↦ (
        before.0 ++ day ∷ [],
        subst (λ (k : ℕ). AreStarts set s (s +ℤ pos k) (before.0 ++ day ∷ [])) longer
            (starts_good set s (suc n) before.0 some before.1 good),
      )
      | inr bad ↦ (
        before.0,
        subst (λ (k : ℕ). AreStarts set s (s +ℤ pos k) before.0) longer
            (starts_bad set s (suc n) before.0 some before.1 bad),
      )
    ]

-- the number of days of a period, less one
near : (s e : ℤ) (n : ℕ) → s <ℤ e → n ≡ unsigned_abs (e -ℤ s -ℤ pos 1) → s +ℤ pos (n + 1) ≡ e
near s e n order is = grind (arith, signed_arith, order, is)

days_of : (s e : ℤ) → s <ℤ e → (n : ℕ) × (s +ℤ pos (suc n) ≡ e)
days_of s e order =
    let n : ℕ = unsigned_abs (e -ℤ s -ℤ pos 1) in
    let one : n + 1 ≡ suc n = omega arith in
    (n, subst (λ (k : ℕ). s +ℤ pos k ≡ e) one (near s e n order refl))

starts_there : (set : DaySet) (s e : ℤ) → s <ℤ e → Inside set s e → (u : List ℤ) × AreStarts set s e u
starts_there set s e order inside =
    let n = days_of s e order in
    let found = starts_of set s n.0 (subst (λ (x : ℤ). Inside set s x) (sym n.1) inside) in
    (found.0, subst (λ (x : ℤ). AreStarts set s x found.0) n.1 found.1)

observed_there : (lines : RateLines) (q : ℤ) (u : List ℤ) (e : ℤ) → (os : List Observation) × AreRatesObserved lines q u e os
observed_there lines q u e =
    let there = numbered_there (IsRateObservation lines q u e) (length u) 0 (λ k low high. (
      record {
        day = observed_on q u k;
        weight = next_start u e k -ℤ day_at u k;
        rate =
            rate_by lines (observed_on q u k);
      },
      refl,
    )) in
    (there.0, record { many = there.1; each = there.2 })

observations_there : (lines : RateLines) (set : DaySet) (s e : ℤ) → s <ℤ e → (LacksDays set s e → ⊥)
    → (os : List Observation) × AreRateObservations lines set s e os
observations_there lines set s e order kept =
    let inside : Inside set s e = λ d low high. elim (decides_in_cover set d) [
      | inl inside ↦ inside
      | inr outside ↦ absurd (kept (inl (record { day = d; from = low; to = high; outside = outside })))
    ] in
    elim (decides_prev set s) [
      | inl first ↦
          let starts = starts_there set s e order inside in
          let found = observed_there lines first.0 starts.0 e in (
            found.0,
            record {
              starts = starts.0;
              are_starts = starts.1;
              first = first.0;
              previous = first.1;
              observed =
                  found.1;
            },
          )
      | inr none ↦ absurd (kept (inr none))
    ]

module _ (basis : ℕ) (some : 1 ≤ basis) where
  grows_there : (os : List Observation) (f : ℤ) → first_absent os ≡ None → (g : ℤ) × DerivedGrows basis os f g
  grows_there [] f none = (f, refl)
  grows_there (o ∷ os) f none =
      let known = known_or o.rate o.day (first_absent os) none in
      let rate = some_rate o.rate known.0 in
      let next = nearest_exists (f *ℤ (unit_rate basis +ℤ rate.0 *ℤ o.weight)) (unit_rate basis) (above basis some) in
      let rest = grows_there os next.0 known.1 in
      (rest.0, (next.0, record { rate = rate.0; observed = rate.1; rounded = next.1 }, rest.1))

  found_by : (days : ℤ) (os : List Observation) (absent : Option ℤ) → pos 0 <ℤ days → first_absent os ≡ absent
      → (found : Found) × IsFound basis days os found
  found_by days os (Some d) above e = (Missing d, e)
  found_by days os None above e =
      let factor = grows_there os derived_one e in
      let rate = nearest_exists ((factor.0 -ℤ derived_one) *ℤ pos basis) (pos (10 ^ 6) *ℤ days) (positive days above) in
      (Rate rate.0, record { factor = factor.0; grows = factor.1; rounded = rate.1 })

-- a period that lacks no day gives a rate or a missing day
finds_there : (p : DailyPeriod) → 1 ≤ p.basis → p.start <ℤ p.end → (LacksDays p.days p.start p.end → ⊥)
    → (found : Found) × FindsRate p found
finds_there p some order kept =
    let os = observations_there p.lines p.days p.start p.end order kept in
    let found = found_by p.basis some (p.end -ℤ p.start) os.0 (first_absent os.0)
    (omega (arith, signed_arith, order)) refl in
    (found.0, record { observations = os.0; are = os.1; is = found.1 })

module _ (source : DerivedSource) (rises : Rises source.adjusted) (long : 1 ≤ length source.adjusted) (kept : (f : Fault)
    → BreaksDerived source f → ⊥) where
  rows_by : (basis : ℕ) → basis_of source.day_count ≡ Some basis → (rows : List DerivedRow) × AreDerived source rows
  rows_by basis is =
      let there = numbered_there (IsDerivedRow source) (length source.adjusted - 1) 1 (λ k low high.
      let period : IsPeriod source.adjusted k = (low, omega (arith, high, long)) in
      let found = finds_there (derived_period_at source basis k) (basis_range source.day_count basis is).0
      (in_order source.adjusted k rises period)
      (λ lacks. kept (period_fault NoDays k)
      (inr (inr (record {
        basis = basis;
        is_basis = is;
        number = k;
        period = period;
        why = NoDays;
        fails =
            lacks;
        is = refl;
      })))) in (
        record { period = k; fixing = fixing_at source.resets k; found = found.0 },
        record { stands = period; period = refl; fixing = refl; basis = basis; is_basis = is; finds = found.1 },
      )) in
      let many = there.1 in
      (there.0, record { many = omega (arith, many, long); each = there.2 })

  -- a source that breaks no rule has a list of rates
  pub rows_there : (basis : Option ℕ) → basis_of source.day_count ≡ basis
      → (rows : List DerivedRow) × AreDerived source rows
  rows_there None e = absurd (kept no_basis (inl (e, refl)))
  rows_there (Some basis) e = rows_by basis e

-- where no rule is broken there is a list of rates
pub overnight_there : (a : OvernightAsked) → IsAsked a → Every KeepsBounds a.parts → OvernightKept a
    → (rows : List DerivedRow) × IsOvernight a rows
overnight_there a h bounds kept =
    let part = asked_part a h in
    let float = h.floats.0 in
    let source : DerivedSource = derived_source part.0 float.index a.days a.rates in
    let has : HasSource a source = has_source a h float h.floats.1 part.0 part.1 in
    let keeps = every_at KeepsBounds a.parts (a.number - 1) part.0 bounds part.1 in
    let long = keeps.adjusted in
    let rows = rows_there source keeps.adjusted_rises (omega (arith, long))
    (λ f breaks. kept f (record { source = source; has = has; breaks = breaks }))
    (basis_of source.day_count) refl in
    (rows.0, record { source = source; has = has; derived = rows.1 })
