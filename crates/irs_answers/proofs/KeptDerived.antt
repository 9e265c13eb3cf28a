-- Derived rows that break no rule keep what a fixing file asks of them.
use Rattle.std.proofs.Common.{◌≡◌, inl, inr, ℕ, ◌+◌, ◌-◌, ◌^◌, ◌<◌, List, [], ◌∷◌, length, All, Option}
use Rattle.std.proofs.Common.{Some, None, IfSome, ℤ, pos, neg_ℤ, ◌-ℤ◌, ◌<ℤ◌, refl, sym, subst}
use Rattle.std.proofs.Common.{arith}
use Rattle.std.specs.Prelude.{slice_get, slice_index_or}
use Rattle.std.proofs.lemmas.Option.{same_Some, slice_get-get_or, slice_get_within}
use Rattle.irs_base.specs.Days.{IsDay}
use Rattle.irs_base.specs.Limits.{most_rate}
use Rattle.irs_base.specs.Lists.{Every}
use Rattle.irs_terms.specs.declared.places.Fault.{Fault}
use Rattle.irs_base.proofs.EveryLemmas.{all_numbered}
use Rattle.irs_base.proofs.MemberLemmas.{every_get, numbered_get}
use Rattle.irs_terms.specs.Lawful.{IsRate}
use Rattle.irs_terms.specs.declared.results.Reset.{Reset}
use Rattle.irs_resets.specs.Rates.{AreSmall}
use Rattle.irs_resets.specs.Resets.{IsPeriod}
use Rattle.irs_schedule.specs.Parts.{IsDatedReset, Rises}
use Rattle.irs_schedule.specs.RowsOf.{no_reset}
use Rattle.irs_overnight.specs.Overnight.{DerivedSource, fixing_at, AreDerived, IsDerivedRow, BreaksDerived}
use Rattle.irs_overnight.specs.Overnight.{FixingNotAfter, fixing_not_after_at}
use Rattle.irs_overnight.specs.Texts.{AreKept, IsSmallFound}
use Rattle.irs_overnight.specs.Private.Bounds.{IsInRange}
use Rattle.irs_overnight.specs.Observations.{rate_by}
use Rattle.irs_overnight.specs.declared.derived.DerivedRow.{DerivedRow}
use Rattle.irs_overnight.specs.declared.derived.Found.{Found}
use Rattle.irs_overnight.specs.declared.derived.Found.TheVariants.{Rate, Missing}
use Rattle.irs_overnight.specs.declared.observations.Observation.{Observation}
use Rattle.irs_overnight.proofs.SmallRates.{row_small}
use Rattle.irs_overnight.proofs.KeptRows.{IsDated, kept_rows}
use Rattle.irs_overnight.proofs.RowLemmas.{in_order}
use Rattle.irs_average.specs.Averages.{FindsMean, MeanPeriod, AreMeans, IsMeanRow, BreaksMeans, MeanSource}
use Rattle.irs_average.specs.Averages.{mean_period_at, RateLiesBetween, IsSample}
use Rattle.irs_average.specs.Interpolations.{IsOnLine, IsStubFound, IsStubRow, StubSource, tenor_rate}
use Rattle.irs_average.proofs.BetweenLemmas.{small_within, within_small}
use Rattle.irs_average.proofs.LineLemmas.{row_within}
use Rattle.irs_average.proofs.MeanLemmas.{mean_within}
use Rattle.irs_average.proofs.MeanRowLemmas.{longer}
use Rattle.irs_average.proofs.SampleLemmas.{shares_out}

fixing_of : (r : Reset) → IsDatedReset r → IsDay r.fixing
fixing_of r (reset, fixing) = fixing

-- the fixing date of a period is a day
pub fixing_is_day : (adjusted : List ℤ) (resets : List Reset) → length adjusted ≡ length resets + 1
    → Every IsDatedReset resets → (i : ℕ) → IsPeriod adjusted i → IsDay (fixing_at resets i)
fixing_is_day adjusted resets many days i period =
    let low : i - 1 < length resets = omega (arith, period.0, period.1, many) in
    let r : Reset = slice_index_or resets (i - 1) no_reset in
    let at : slice_get resets (i - 1) ≡ Some r = slice_get-get_or resets (i - 1) no_reset low in
    fixing_of r (every_get IsDatedReset resets (i - 1) r days at)

-- ---- rates of at most 10 in size

-- a rate that is there lies between -10 and 10
rates_within : (o : Option ℤ) → IfSome o IsRate → IfSome o (RateLiesBetween (neg_ℤ (pos most_rate)) (pos most_rate))
rates_within None h = tt
rates_within (Some x) h = within_small most_rate x h

small_at : (o : Option ℤ) (x : ℤ) → IfSome o IsRate → o ≡ Some x → IsRate x
small_at o x h e = subst (λ (r : Option ℤ). IfSome r IsRate) e h

-- ---- the rows of daily rates

module _ (source : DerivedSource) (rows : List DerivedRow) (are : AreDerived source rows)
    (kept : (f : Fault) → BreaksDerived source f → ⊥) (many : length source.adjusted ≡ length source.resets + 1)
    (few : length source.adjusted < 2 ^ 32) (days : Every IsDatedReset source.resets) where
  derived_at : (k : ℕ) (row : DerivedRow) → slice_get rows k ≡ Some row → IsDerivedRow source (1 + k) row
  derived_at k row at = numbered_get (IsDerivedRow source) 1 k rows row are.each at

  derived_in_range : (i : ℕ) (row : DerivedRow) → IsDerivedRow source i row → IsInRange row
  derived_in_range i row h = record {
    day = subst IsDay (sym h.fixing) (fixing_is_day source.adjusted source.resets many days i h.stands);
    rate = row_small source kept i row h;
  }

  -- rows of daily rates that break no rule keep what a fixing file asks of them
  pub derived_kept : AreKept rows
  derived_kept =
      let dated : (k : ℕ) (row : DerivedRow) → slice_get rows k ≡ Some row
      → IsDated source.adjusted source.resets (1 + k) row = λ k row at.
      let is = derived_at k row at in
      (is.stands, is.period, is.fixing) in
      let good : All IsInRange rows =
      all_numbered (IsDerivedRow source) IsInRange 1 rows (λ i row low high h. derived_in_range i row h) are.each in
      let none : (n : ℕ) → FixingNotAfter source.resets n → ⊥ = λ n h. kept (fixing_not_after_at n) (inr (inl (record {
        number = n;
        not_after = h;
        is = refl;
      }))) in
      kept_rows source.adjusted source.resets rows dated good none many few

-- ---- the rows of averages

mean_in_range : (p : MeanPeriod) (found : Found) → p.start <ℤ p.end → ((d : ℤ) → IfSome (rate_by p.lines d) IsRate)
    → FindsMean p found → IsSmallFound found
mean_in_range p (Missing d) order small h = tt
mean_in_range p (Rate x) order small h =
    let os = h.observations in
    let all : All (λ (o : Observation). IfSome o.rate (RateLiesBetween (neg_ℤ (pos most_rate)) (pos most_rate))) os =
    all_numbered (IsSample p.lines p.days p.start p.end p.step (length os))
    (λ (o : Observation). IfSome o.rate (RateLiesBetween (neg_ℤ (pos most_rate)) (pos most_rate))) 0 os (λ k o low high sample.
    rates_within o.rate (subst (λ (r : Option ℤ). IfSome r IsRate) (sym sample.rate) (small o.day))) h.are.each in
    small_within most_rate x
    (mean_within p.kind (p.end -ℤ p.start) os (longer p.start p.end order)
    (shares_out p.lines p.days p.step p.start p.end os order h.are) x h.is (neg_ℤ (pos most_rate)) (pos most_rate) all)

module _ (source : MeanSource) (rows : List DerivedRow) (are : AreMeans source rows)
    (kept : (f : Fault) → BreaksMeans source f → ⊥) (many : length source.adjusted ≡ length source.resets + 1)
    (few : length source.adjusted < 2 ^ 32) (days : Every IsDatedReset source.resets) (rises : Rises source.adjusted)
    (small : (d : ℤ) → IfSome (rate_by source.by.lines d) IsRate) where
  mean_at : (k : ℕ) (row : DerivedRow) → slice_get rows k ≡ Some row → IsMeanRow source (1 + k) row
  mean_at k row at = numbered_get (IsMeanRow source) 1 k rows row are.each at

  row_in_range : (i : ℕ) (row : DerivedRow) → IsMeanRow source i row → IsInRange row
  row_in_range i row h = record {
    day = subst IsDay (sym h.fixing) (fixing_is_day source.adjusted source.resets many days i h.stands);
    rate = mean_in_range (mean_period_at source i) row.found (in_order source.adjusted i rises h.stands) small h.finds;
  }

  -- averages that break no rule keep what a fixing file asks of them
  pub means_kept : AreKept rows
  means_kept =
      let dated : (k : ℕ) (row : DerivedRow) → slice_get rows k ≡ Some row
      → IsDated source.adjusted source.resets (1 + k) row = λ k row at.
      let is = mean_at k row at in
      (is.stands, is.period, is.fixing) in
      let good : All IsInRange rows =
      all_numbered (IsMeanRow source) IsInRange 1 rows (λ i row low high h. row_in_range i row h) are.each in
      let none : (n : ℕ) → FixingNotAfter source.resets n → ⊥ = λ n h. kept (fixing_not_after_at n) (inl (record {
        number = n;
        not_after = h;
        is = refl;
      })) in
      kept_rows source.adjusted source.resets rows dated good none many few

-- ---- the row of a stub

stub_small : (source : StubSource) (period : ℕ) (row : DerivedRow) (found : Found) → AreSmall source.rates
    → IsStubRow source period row → row.found ≡ found → IsSmallFound found
stub_small source period row (Missing d) small h e = tt
stub_small source period row (Rate x) small h e =
    let line : IsOnLine (tenor_rate source source.low) (tenor_rate source source.high) h.near h.far source.end x =
    subst (IsStubFound source h.near h.far) e h.found in
    let low = small_at (tenor_rate source source.low) line.low_rate
    (small source.index (record { date = source.fixing; tenor = Some source.low })) line.is_low in
    let high = small_at (tenor_rate source source.high) line.high_rate
    (small source.index (record { date = source.fixing; tenor = Some source.high })) line.is_high in
    small_within most_rate x
    (row_within source period row x line.low_rate line.high_rate (neg_ℤ (pos most_rate)) (pos most_rate) h e line.is_low
    line.is_high (within_small most_rate line.low_rate low) (within_small most_rate line.high_rate high))

only_row : (row other : DerivedRow) (k : ℕ) → slice_get (row ∷ []) k ≡ Some other → (k ≡ 0) × (row ≡ other)
only_row row other k at =
    let low = slice_get_within (row ∷ []) k other at in
    let none : k ≡ 0 = omega (arith, low) in
    (none, same_Some row other (subst (λ (n : ℕ). slice_get (row ∷ []) n ≡ Some other) none at))

-- one row keeps what a fixing file asks of it
pub stub_kept : (source : StubSource) (period : ℕ) (row : DerivedRow) → AreSmall source.rates → IsDay source.fixing
    → period < 2 ^ 32 → IsStubRow source period row → AreKept (row ∷ [])
stub_kept source period row small day few h =
    let own_day : IsDay row.fixing = subst IsDay (sym h.fixing) day in
    let own_rate = stub_small source period row row.found small h refl in
    let number = h.number in
    let own_few : row.period < 2 ^ 32 = omega (arith, number, few) in
    record {
      days = λ k other at. subst (λ (r : DerivedRow). IsDay r.fixing) (only_row row other k at).1 own_day;
      rates = λ k other at. subst (λ (r : DerivedRow). IsSmallFound r.found) (only_row row other k at).1 own_rate;
      periods = λ k other at. subst (λ (r : DerivedRow). r.period < 2 ^ 32) (only_row row other k at).1 own_few;
      rise = λ j k other later less at there.
          let first = (only_row row other j at).0 in
          let second = (only_row row later k there).0 in
          absurd (omega (arith, less, first, second));
    }
