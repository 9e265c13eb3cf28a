-- Factors: there is one after each number of observations, and how a loop reaches it.
use Rattle.std.proofs.Common.{◌≡◌, inl, inr, ℕ, ◌+◌, ◌*◌, ◌^◌, ◌<◌, ◌≤◌, List, length, take, Option, Some, Result, Ok, Err, IfErr, ℤ, pos, ◌<ℤ◌}
use Rattle.std.proofs.Common.{◌*ℤ◌, ◌+ℤ◌, refl, sym, subst, ◌∙◌, arith}
use Rattle.std.specs.Prelude.{get_or, unsigned_abs}
use Rattle.std.proofs.lemmas.Bool.{cases_lt}
use Rattle.jiff_core.proofs.SignedLemmas.{signed_arith}
use Rattle.irs_base.proofs.RoundingLaws.{nearest_once}
use Rattle.irs_observed.specs.ObservedRates.{AreKnown, DailyRates, FactorPasses, Grows, GrowsBy, Precision, Reaches}
use Rattle.irs_observed.specs.ObservedRates.{one_factor, unit_rate, CompoundsPast, rate_precision}
use Rattle.irs_observed.specs.declared.observation.Observation.{Observation}
use Rattle.irs_observed.proofs.ThroughLemmas.{one_through, through_all, through_more}

-- the rate 1 for a year is above 0
pub year_above : (basis : ℕ) → 1 ≤ basis → pos 0 <ℤ unit_rate basis
year_above basis some = let e : 0 < 10 ^ 9 * basis = omega (arith, some) in omega (arith, signed_arith, e)

some_is : (a b : ℤ) → Some a ≡ Some b → a ≡ b
some_is a b e = cc

-- the factor after the first observations, and none up to it passes its limit
pub record Compounds (p : Precision) (basis : ℕ) (daily : DailyRates) (os : List Observation) (k : ℕ) (f : ℤ)
    : Type 0 where
  pub reaches : Reaches p basis daily os k f
  pub small : (j : ℕ) (g : ℤ) → j ≤ k → Reaches p basis daily os j g → unsigned_abs g ≤ p.most

module _ (p : Precision) (basis : ℕ) (some : 1 ≤ basis) (daily : DailyRates) where
  one_growth : (o : Observation) (f g h : ℤ) → GrowsBy basis daily o f g → GrowsBy basis daily o f h → g ≡ h
  one_growth o f g h a b =
      let same : a.rate ≡ b.rate = some_is a.rate b.rate (sym a.is_rate ∙ b.is_rate) in
      let moved : GrowsBy basis daily o f g =
      record { rate = b.rate; is_rate = b.is_rate; rounded = rw (sym same) a.rounded } in
      nearest_once (f *ℤ (unit_rate basis +ℤ b.rate *ℤ pos o.weight)) (unit_rate basis) g h (year_above basis some)
      moved.rounded b.rounded

  -- there is one factor after the observations
  pub one_grown : (os : List Observation) (f g h : ℤ) → Grows basis daily os f g → Grows basis daily os f h → g ≡ h
  one_grown os f g h a b = one_through (GrowsBy basis daily) one_growth os f g h a b

  module _ (os : List Observation) (k : ℕ) (f g : ℤ) (o : Observation) (low : k < length os) (is : get_or os k o ≡ o)
      (by : GrowsBy basis daily o f g) where
    pub reaches_more : Reaches p basis daily os k f → Reaches p basis daily os (k + 1) g
    reaches_more r = through_more (GrowsBy basis daily) os k o (one_factor p) f g low is r by

    pub compounds_more : Compounds p basis daily os k f → unsigned_abs g ≤ p.most → Compounds p basis daily os (k + 1) g
    compounds_more c within =
        let reached = reaches_more c.reaches in
        record {
          reaches = reached;
          small = λ j h le r. elim (cases_lt j (k + 1)) [
            | inl less ↦ c.small j h (omega (arith, less)) r
            | inr more ↦
                let e : j ≡ k + 1 = omega (arith, le, more) in
                let there : Reaches p basis daily os (k + 1) h = subst (λ (n : ℕ). Reaches p basis daily os n h) e r in
                let same : h ≡ g = one_grown (take (k + 1) os) (one_factor p) h g there reached in
                rw same within
          ];
        }

    -- a factor that passes its limit
    pub passes_at : Compounds p basis daily os k f → p.most < unsigned_abs g → FactorPasses p basis daily os
    passes_at c past = record {
      count = k + 1;
      within = omega (arith, low);
      factor = g;
      reaches = reaches_more c.reaches;
      passes = past;
    }

  module _ (os : List Observation) (k : ℕ) (f : ℤ) (all : length os ≤ k) (c : Compounds p basis daily os k f) where
    pub grows_all : Grows basis daily os (one_factor p) f
    grows_all = through_all (GrowsBy basis daily) os k (one_factor p) f all c.reaches

    pub none_passes : FactorPasses p basis daily os → ⊥
    none_passes h =
        let within = h.within in
        let small = c.small h.count h.factor (omega (arith, within, all)) h.reaches in
        let passes = h.passes in
        omega (arith, small, passes)

  pub compounds_none : (os : List Observation) → unsigned_abs (one_factor p) ≤ p.most → Compounds p basis daily os 0 (one_factor p)
  compounds_none os within = record {
    reaches = refl;
    small = λ j g le r.
        let e : j ≡ 0 = omega (arith, le) in
        let there : Reaches p basis daily os 0 g = subst (λ (n : ℕ). Reaches p basis daily os n g) e r in
        let same : g ≡ one_factor p = there in
        rw same within;
  }

-- where each rate is there, a factor that passes its limit is a refusal
pub past_known : {E : Type 0} (basis : ℕ) (daily : DailyRates) (os : List Observation) (answer : Result (Option ℤ) E)
    → FactorPasses rate_precision basis daily os → IfErr answer (λ _. AreKnown daily os)
    → IfErr answer (λ _. CompoundsPast basis daily os)
past_known basis daily os (Ok f) passes known = tt
past_known basis daily os (Err e) passes known = record { known = known; passes = passes }
