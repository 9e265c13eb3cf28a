-- Averages and rates of stubs, and their rules, depend on a table of rates by its rates alone.
use Rattle.std.proofs.Common.{◌≡◌, inl, inr, ℕ, ◌-◌, List, length, Option, Some, ℤ, refl, ◌∙◌, subst}
use Rattle.irs_base.specs.Lists.{day_at}
use Rattle.irs_terms.specs.declared.places.Broken.{Broken}
use Rattle.irs_terms.specs.declared.places.Fault.{Fault}
use Rattle.irs_base.proofs.MemberLemmas.{numbered_map}
use Rattle.irs_terms.specs.declared.amounts.FloatTerms.{FloatTerms}
use Rattle.irs_terms.specs.declared.frequency.Frequency.{Frequency}
use Rattle.irs_terms.specs.declared.stream_list.Swap.{Swap}
use Rattle.irs_calendar.specs.GoodDays.{DaySet}
use Rattle.irs_resets.specs.Rates.{RateTable}
use Rattle.irs_schedule.specs.Parts.{Part}
use Rattle.irs_overnight.specs.Overnight.{asked}
use Rattle.irs_overnight.specs.Observations.{RateLines}
use Rattle.irs_overnight.specs.declared.derived.DerivedRow.{DerivedRow}
use Rattle.irs_overnight.specs.declared.observations.Observation.{Observation}
use Rattle.irs_average.specs.Averages.{AverageKept, BreaksAverage, IsAverage, IsFirstOfAverage, averaged, AreMeans}
use Rattle.irs_average.specs.Averages.{IsMeanRow, BreaksMeans, MeanSource, averaging_by, mean_source, own_lines}
use Rattle.irs_average.specs.Averages.{AreSamples, IsSample}
use Rattle.irs_average.specs.Interpolations.{BreaksStub, IsInterpolated, IsStubBroken, StubKept, IsFoundBetween}
use Rattle.irs_average.specs.Interpolations.{IsStubRow, LiesOutside, StubSource, tenor_rate, HasStub, Stub, stub_asked}
use Rattle.irs_average.specs.Interpolations.{stub_source}
use Rattle.irs_average.specs.declared.means.Mean.{Mean}
use Rattle.irs_average.specs.declared.stubs.Side.{Side}
use Rattle.irs_overnight.proofs.RatesAlone.{SameLines}
use Rattle.irs_answers.proofs.SameRates.{SameRates, same_back}

-- ---- observations

module _ (l m : RateLines) (same : SameLines l m) where
  sampled_too : (set : DaySet) (s e : ℤ) (step n k : ℕ) (o : Observation) → IsSample l set s e step n k o
      → IsSample m set s e step n k o
  sampled_too set s e step n k o h = record { previous = h.previous; weight = h.weight; rate = h.rate ∙ same o.day }

  samples_too : (set : DaySet) (step : ℕ) (s e : ℤ) (os : List Observation) → AreSamples l set step s e os
      → AreSamples m set step s e os
  samples_too set step s e os h = record {
    many = h.many;
    each = numbered_map (IsSample l set s e step (length os)) (IsSample m set s e step (length os)) 0 os
        (λ k o _ _ is. sampled_too set s e step (length os) k o is) h.each;
  }

-- ---- averages

module _ (t u : RateTable) (e : SameRates t u) (part : Part) (kind : Mean) (step : ℕ) (days : DaySet)
    (float : FloatTerms) where
  abbrev means_by : RateTable → MeanSource
  means_by rates = mean_source part (averaging_by kind step days (own_lines rates float))

  own_too : SameLines (own_lines t float) (own_lines u float)
  own_too d = e float.index (record { date = d; tenor = float.tenor })

  means_too : (rows : List DerivedRow) → AreMeans (means_by t) rows → AreMeans (means_by u) rows
  means_too rows h = record {
    many = h.many;
    each = numbered_map (IsMeanRow (means_by t)) (IsMeanRow (means_by u)) 1 rows
        (λ i row _ _ is. record {
          stands = is.stands;
          period = is.period;
          fixing = is.fixing;
          finds = record {
            observations = is.finds.observations;
            are = samples_too (own_lines t float) (own_lines u float) own_too days step (day_at part.adjusted (i - 1))
                (day_at part.adjusted i) is.finds.observations is.finds.are;
            is = is.finds.is;
          };
        }) h.each;
  }

  mean_broken : (f : Fault) → BreaksMeans (means_by t) f → BreaksMeans (means_by u) f
  mean_broken f (inl h) = inl (record { number = h.number; not_after = h.not_after; is = h.is })
  mean_broken f (inr h) = inr (record { number = h.number; period = h.period; lacks = h.lacks; is = h.is })

module _ (t u : RateTable) (e : SameRates t u) (swap : Swap) (n : ℕ) (parts : List Part) (days : DaySet) (kind : Mean)
    (step : ℕ) where
  -- averages depend on the rates alone
  pub average_same : (rows : List DerivedRow) → IsAverage (averaged (asked swap n parts days t) kind step) rows
      → IsAverage (averaged (asked swap n parts days u) kind step) rows
  average_same rows h = record {
    source = means_by t u e h.has.part kind step days h.has.float u;
    has = record { float = h.has.float; pays = h.has.pays; part = h.has.part; at = h.has.at; is = refl };
    are = means_too t u e h.has.part kind step days h.has.float rows
        (subst (λ (s : MeanSource). AreMeans s rows) h.has.is h.are);
  }

  average_breaks : (f : Fault) → BreaksAverage (averaged (asked swap n parts days t) kind step) f
      → BreaksAverage (averaged (asked swap n parts days u) kind step) f
  average_breaks f h = record {
    source = means_by t u e h.has.part kind step days h.has.float u;
    has = record { float = h.has.float; pays = h.has.pays; part = h.has.part; at = h.has.at; is = refl };
    breaks = mean_broken t u e h.has.part kind step days h.has.float f
        (subst (λ (s : MeanSource). BreaksMeans s f) h.has.is h.breaks);
  }

-- whether averages break a rule depends on the rates alone
pub average_kept : (t u : RateTable) → SameRates t u
    → (swap : Swap) (n : ℕ) (parts : List Part) (days : DaySet) (kind : Mean) (step : ℕ)
    → AverageKept (averaged (asked swap n parts days t) kind step)
    → AverageKept (averaged (asked swap n parts days u) kind step)
average_kept t u e swap n parts days kind step h f b =
    h f (average_breaks u t (same_back t u e) swap n parts days kind step f b)

-- which rule averages break first depends on the rates alone
pub average_first : (t u : RateTable) → SameRates t u
    → (swap : Swap) (n : ℕ) (parts : List Part) (days : DaySet) (kind : Mean) (step : ℕ) (x : Broken)
    → IsFirstOfAverage (averaged (asked swap n parts days t) kind step) x
    → IsFirstOfAverage (averaged (asked swap n parts days u) kind step) x
average_first t u e swap n parts days kind step x h = record {
  fault = h.fault;
  first = (
    average_breaks t u e swap n parts days kind step h.fault h.first.0,
    λ g b. h.first.1 g (average_breaks u t (same_back t u e) swap n parts days kind step g b),
  );
  is = h.is;
}

-- ---- the rate of a stub

module _ (t u : RateTable) (e : SameRates t u) (part : Part) (i : ℕ) (index : List ℕ) (low high : Frequency) where
  abbrev stub_by : RateTable → StubSource
  stub_by rates = stub_source part i index low high rates

  stub_row : (period : ℕ) (row : DerivedRow) → IsStubRow (stub_by t) period row → IsStubRow (stub_by u) period row
  stub_row period row h =
      let s = stub_by t in
      let low_same : tenor_rate s low ≡ tenor_rate (stub_by u) low =
      e index (record { date = s.fixing; tenor = Some low }) in
      let high_same : tenor_rate s high ≡ tenor_rate (stub_by u) high =
      e index (record { date = s.fixing; tenor = Some high }) in
      let one = subst (λ (r : Option ℤ). IsFoundBetween r (tenor_rate s high) h.near h.far s.end s.fixing row.found)
      low_same h.found in
      record {
        near = h.near;
        far = h.far;
        between = h.between;
        number = h.number;
        fixing = h.fixing;
        found = subst (λ (r : Option ℤ). IsFoundBetween
            (tenor_rate (stub_by u) low) r h.near h.far s.end s.fixing row.found) high_same one;
      }

module _ (t u : RateTable) (e : SameRates t u) (swap : Swap) (n : ℕ) (side : Side) (low high : Frequency)
    (parts : List Part) where
  -- the same stub, with the other table of rates
  abbrev stub_with : (stub : Stub) → HasStub (stub_asked swap n side low high parts t) stub → Stub
  stub_with stub h =
      record {
        period = stub.period;
        tenor = stub.tenor;
        source =
            stub_source h.part stub.period stub.source.index low high u;
      }

  has_stub : (stub : Stub) (h : HasStub (stub_asked swap n side low high parts t) stub)
      → HasStub (stub_asked swap n side low high parts u) (stub_with stub h)
  has_stub stub h =
      record {
        gives = h.gives;
        part = h.part;
        at = h.at;
        span = h.span;
        regular = h.regular;
        is_stub =
            h.is_stub;
        is = refl;
      }

  -- the rate of a stub depends on the rates alone
  pub stub_same : (row : DerivedRow) → IsInterpolated (stub_asked swap n side low high parts t) row
      → IsInterpolated (stub_asked swap n side low high parts u) row
  stub_same row h = record {
    stub = stub_with h.stub h.has;
    has = has_stub h.stub h.has;
    is = stub_row t u e h.has.part h.stub.period h.stub.source.index low high h.stub.period row
        (subst (λ (s : StubSource). IsStubRow s h.stub.period row) h.has.is h.is);
  }

stub_breaks : (t u : RateTable) → SameRates t u
    → (swap : Swap) (n : ℕ) (side : Side) (low high : Frequency) (parts : List Part) (f : Fault)
    → BreaksStub (stub_asked swap n side low high parts t) f → BreaksStub (stub_asked swap n side low high parts u) f
stub_breaks t u e swap n side low high parts f (inl h) =
    inl (
      λ stub has. h.0 (stub_with u t (same_back t u e) swap n side low high parts stub has)
          (has_stub u t (same_back t u e) swap n side low high parts stub has),
      h.1,
    )
stub_breaks t u e swap n side low high parts f (inr h) = inr (record {
  stub = stub_with t u e swap n side low high parts h.stub h.has;
  has = has_stub t u e swap n side low high parts h.stub h.has;
  outside = subst (λ (s : StubSource). LiesOutside s) h.has.is h.outside;
  is = h.is;
})

-- whether a stub breaks a rule depends on the rates alone
pub stub_kept : (t u : RateTable) → SameRates t u
    → (swap : Swap) (n : ℕ) (side : Side) (low high : Frequency) (parts : List Part)
    → StubKept (stub_asked swap n side low high parts t) → StubKept (stub_asked swap n side low high parts u)
stub_kept t u e swap n side low high parts h f b =
    h f (stub_breaks u t (same_back t u e) swap n side low high parts f b)

-- which rule a stub breaks first depends on the rates alone
pub stub_first : (t u : RateTable) → SameRates t u
    → (swap : Swap) (n : ℕ) (side : Side) (low high : Frequency) (parts : List Part) (x : Broken)
    → IsStubBroken (stub_asked swap n side low high parts t) x
    → IsStubBroken (stub_asked swap n side low high parts u) x
stub_first t u e swap n side low high parts x h =
    record { fault = h.fault; breaks = stub_breaks t u e swap n side low high parts h.fault h.breaks; is = h.is }
