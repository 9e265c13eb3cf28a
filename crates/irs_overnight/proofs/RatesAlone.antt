-- Rates that are compounded from a table of rates, and their rules, depend on it by its rates alone.
use Rattle.std.proofs.Common.{◌≡◌, inl, inr, ℕ, ◌-◌, List, Option, Some, ℤ, ◌-ℤ◌, refl, sym, ◌∙◌, ap, subst}
use Rattle.irs_base.specs.Lists.{day_at}
use Rattle.irs_terms.specs.declared.places.Broken.{Broken}
use Rattle.irs_terms.specs.declared.places.Fault.{Fault}
use Rattle.irs_base.proofs.MemberLemmas.{numbered_map}
use Rattle.irs_terms.specs.declared.stream_list.Swap.{Swap}
use Rattle.irs_calendar.specs.GoodDays.{DaySet}
use Rattle.irs_resets.specs.Rates.{RateTable, rate_at}
use Rattle.irs_resets.specs.declared.store.Slot.{Slot}
use Rattle.irs_schedule.specs.Parts.{Part}
use Rattle.irs_overnight.specs.Overnight.{DerivedSource, derived_source, AreDerived, IsDerivedRow, BreaksDerived}
use Rattle.irs_overnight.specs.Overnight.{BreaksDerivedRule, IsFirstDerived, IsOvernight, OvernightKept, asked}
use Rattle.irs_overnight.specs.Observations.{FindsRate, PeriodFails, derived_period, AreRateObservations}
use Rattle.irs_overnight.specs.Observations.{IsRateObservation, next_start, observed_on, RateLines, daily_lines}
use Rattle.irs_overnight.specs.Observations.{rate_by}
use Rattle.irs_observed.specs.ObservedRates.{one_day}
use Rattle.irs_overnight.specs.declared.derived.DerivedRow.{DerivedRow}
use Rattle.irs_overnight.specs.declared.derived.Found.{Found}
use Rattle.irs_overnight.specs.declared.observations.Observation.{Observation}
use Rattle.irs_overnight.specs.declared.periods.PeriodFault.{PeriodFault}
use Rattle.irs_overnight.specs.declared.periods.PeriodFault.TheVariants.{NoDays, OutOfRange}

-- two tables have the same rates
abbrev SameRates : RateTable → RateTable → Type 0
SameRates t u = (index : List ℕ) (slot : Slot) → rate_at t index slot ≡ rate_at u index slot

same_back : (t u : RateTable) → SameRates t u → SameRates u t
same_back t u e index slot = sym (e index slot)

-- two lines give the same rate on each day
abbrev pub SameLines : RateLines → RateLines → Type 0
SameLines l m = (d : ℤ) → rate_by l d ≡ rate_by m d

-- ---- observations

module _ (l m : RateLines) (same : SameLines l m) where
  observed_too : (q : ℤ) (u : List ℤ) (e : ℤ) (k : ℕ) (o : Observation) → IsRateObservation l q u e k o
      → IsRateObservation m q u e k o
  observed_too q u e k o h =
      h ∙ ap (λ (r : Option ℤ). record { day = observed_on q u k; weight = next_start u e k -ℤ day_at u k; rate = r })
      (same (observed_on q u k))

  observations_too : (set : DaySet) (s e : ℤ) (os : List Observation) → AreRateObservations l set s e os
      → AreRateObservations m set s e os
  observations_too set s e os h = record {
    starts = h.starts;
    are_starts = h.are_starts;
    first = h.first;
    previous = h.previous;
    observed = record {
      many = h.observed.many;
      each = numbered_map (IsRateObservation l h.first h.starts e) (IsRateObservation m h.first h.starts e) 0 os
          (λ k o _ _ is. observed_too h.first h.starts e k o is) h.observed.each;
    };
  }

  finds_too : (basis : ℕ) (set : DaySet) (s e : ℤ) (found : Found) → FindsRate (derived_period basis l set s e) found
      → FindsRate (derived_period basis m set s e) found
  finds_too basis set s e found h =
      record { observations = h.observations; are = observations_too set s e h.observations h.are; is = h.is }

  fails_too : (why : PeriodFault) (basis : ℕ) (set : DaySet) (s e : ℤ) → PeriodFails why (derived_period basis l set s e)
      → PeriodFails why (derived_period basis m set s e)
  fails_too NoDays basis set s e h = h
  fails_too OutOfRange basis set s e h =
      record { observations = h.observations; are = observations_too set s e h.observations h.are; passes = h.passes }

-- ---- rates that are compounded

module _ (t u : RateTable) (e : SameRates t u) (part : Part) (index : List ℕ) (days : DaySet) where
  lines_too : SameLines (daily_lines t index) (daily_lines u index)
  lines_too d = e index (record { date = d; tenor = Some one_day })

  derived_too : (rows : List DerivedRow) → AreDerived (derived_source part index days t) rows
      → AreDerived (derived_source part index days u) rows
  derived_too rows h = record {
    many = h.many;
    each = numbered_map (IsDerivedRow (derived_source part index days t))
        (IsDerivedRow (derived_source part index days u)) 1 rows
        (λ i row _ _ is. record {
          stands = is.stands;
          period = is.period;
          fixing = is.fixing;
          basis = is.basis;
          is_basis = is.is_basis;
          finds = finds_too (daily_lines t index) (daily_lines u index) lines_too is.basis days
              (day_at part.adjusted (i - 1)) (day_at part.adjusted i) row.found is.finds;
        }) h.each;
  }

  broken_too : (f : Fault) → BreaksDerived (derived_source part index days t) f
      → BreaksDerived (derived_source part index days u) f
  broken_too f (inl h) = inl h
  broken_too f (inr (inl h)) = inr (inl (record { number = h.number; not_after = h.not_after; is = h.is }))
  broken_too f (inr (inr h)) = inr (inr (record {
    basis = h.basis;
    is_basis = h.is_basis;
    number = h.number;
    period = h.period;
    why = h.why;
    fails = fails_too (daily_lines t index) (daily_lines u index) lines_too h.why h.basis days
        (day_at part.adjusted (h.number - 1)) (day_at part.adjusted h.number) h.fails;
    is = h.is;
  }))

module _ (t u : RateTable) (e : SameRates t u) (swap : Swap) (n : ℕ) (parts : List Part) (days : DaySet) where
  -- rates that agree on each line give the same rows
  pub overnight_same : (rows : List DerivedRow) → IsOvernight (asked swap n parts days t) rows
      → IsOvernight (asked swap n parts days u) rows
  overnight_same rows h = record {
    source = derived_source h.has.part h.has.float.index days u;
    has = record { float = h.has.float; pays = h.has.pays; part = h.has.part; at = h.has.at; is = refl };
    derived = derived_too t u e h.has.part h.has.float.index days rows
        (subst (λ (s : DerivedSource). AreDerived s rows) h.has.is h.derived);
  }

  overnight_breaks : (f : Fault) → BreaksDerivedRule (asked swap n parts days t) f
      → BreaksDerivedRule (asked swap n parts days u) f
  overnight_breaks f h = record {
    source = derived_source h.has.part h.has.float.index days u;
    has = record { float = h.has.float; pays = h.has.pays; part = h.has.part; at = h.has.at; is = refl };
    breaks = broken_too t u e h.has.part h.has.float.index days f
        (subst (λ (s : DerivedSource). BreaksDerived s f) h.has.is h.breaks);
  }

-- rates that agree on each line break no rule alike
pub overnight_kept : (t u : RateTable) → SameRates t u → (swap : Swap) (n : ℕ) (parts : List Part) (days : DaySet)
    → OvernightKept (asked swap n parts days t) → OvernightKept (asked swap n parts days u)
overnight_kept t u e swap n parts days h f b = h f (overnight_breaks u t (same_back t u e) swap n parts days f b)

-- rates that agree on each line break the same rule first
pub overnight_first : (t u : RateTable) → SameRates t u
    → (swap : Swap) (n : ℕ) (parts : List Part) (days : DaySet) (x : Broken)
    → IsFirstDerived (asked swap n parts days t) x → IsFirstDerived (asked swap n parts days u) x
overnight_first t u e swap n parts days x h = record {
  fault = h.fault;
  first = (
    overnight_breaks t u e swap n parts days h.fault h.first.0,
    λ g b. h.first.1 g (overnight_breaks u t (same_back t u e) swap n parts days g b),
  );
  is = h.is;
}
