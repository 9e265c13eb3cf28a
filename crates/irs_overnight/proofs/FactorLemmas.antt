-- Factors: there is one after each number of observations, and how a loop reaches it.
use Rattle.std.proofs.Common.{◌≡◌, inl, inr, ℕ, ◌+◌, ◌*◌, ◌^◌, ◌<◌, ◌≤◌, List, [], ◌∷◌, ◌++◌, length, take, Option}
use Rattle.std.proofs.Common.{Some, None, IfSome, IfNone, ℤ, pos, ◌<ℤ◌, ◌*ℤ◌, ◌-ℤ◌, ◌+ℤ◌, refl, sym, subst, ◌∙◌, ap}
use Rattle.std.proofs.Common.{arith, lit≤}
use Rattle.std.specs.Prelude.{get_or, unsigned_abs}
use Rattle.std.proofs.lemmas.Bool.{cases_lt}
use Rattle.std.proofs.lemmas.List.{take_more, take_all}
use Rattle.jiff_core.proofs.SignedLemmas.{signed_arith}
use Rattle.irs_base.specs.Limits.{most_rate, Rounded}
use Rattle.irs_base.specs.declared.rounding.Direction.TheVariants.{Nearest}
use Rattle.irs_base.proofs.RoundingLaws.{nearest_once}
use Rattle.irs_terms.specs.Lawful.{IsRate}
use Rattle.irs_overnight.specs.Observations.{first_absent, DerivedFactorPasses, DerivedGrows, DerivedGrowsBy}
use Rattle.irs_overnight.specs.Observations.{IsDerivedRate, DerivedPassesLimit, DerivedReaches, most_factor}
use Rattle.irs_overnight.specs.Observations.{derived_one}
use Rattle.irs_observed.specs.ObservedRates.{unit_rate}
use Rattle.irs_overnight.specs.declared.observations.Observation.{Observation}

-- a year has days
pub above : (basis : ℕ) → 1 ≤ basis → pos 0 <ℤ unit_rate basis
above basis some = let e : 0 < 10 ^ 9 * basis = omega (arith, some) in omega (arith, signed_arith, e)

some_is : (a b : ℤ) → Some a ≡ Some b → a ≡ b
some_is a b e = cc

-- the factor after the first observations, and none up to it passes its limit
pub record Compounds (basis : ℕ) (os : List Observation) (k : ℕ) (f : ℤ) : Type 0 where
  pub reaches : DerivedReaches basis os k f
  pub small : (j : ℕ) (g : ℤ) → j ≤ k → DerivedReaches basis os j g → unsigned_abs g ≤ most_factor

module _ (basis : ℕ) (some : 1 ≤ basis) where
  one_growth : (o : Observation) (f g h : ℤ) → DerivedGrowsBy basis o f g → DerivedGrowsBy basis o f h → g ≡ h
  one_growth o f g h p q =
      let same : p.rate ≡ q.rate = some_is p.rate q.rate (sym p.observed ∙ q.observed) in
      let moved : DerivedGrowsBy basis o f g =
      record { rate = q.rate; observed = q.observed; rounded = rw (sym same) p.rounded } in
      nearest_once (f *ℤ (unit_rate basis +ℤ q.rate *ℤ o.weight)) (unit_rate basis) g h
      (above basis some) moved.rounded q.rounded

  -- there is one factor after the observations
  pub one_grown : (os : List Observation) (f g h : ℤ) → DerivedGrows basis os f g → DerivedGrows basis os f h → g ≡ h
  one_grown [] f g h p q = p ∙ sym q
  one_grown (o ∷ os) f g h p q =
      let same = one_growth o f p.0 q.0 p.1 q.1 in
      one_grown os q.0 g h (subst (λ (x : ℤ). DerivedGrows basis os x g) same p.2) q.2

  grows_push : (os : List Observation) (o : Observation) (f g h : ℤ) → DerivedGrows basis os f g → DerivedGrowsBy basis o g h
      → DerivedGrows basis (os ++ o ∷ []) f h
  grows_push [] o f g h p by = (h, subst (λ (x : ℤ). DerivedGrowsBy basis o x h) p by, refl)
  grows_push (x ∷ xs) o f g h p by = (p.0, p.1, grows_push xs o p.0 g h p.2 by)

  module _ (os : List Observation) (k : ℕ) (f g : ℤ) (o : Observation) (low : k < length os) (is : get_or os k o ≡ o)
      (by : DerivedGrowsBy basis o f g) where
    -- from the factor after k observations one reaches that after k + 1
    pub reaches_more : DerivedReaches basis os k f → DerivedReaches basis os (k + 1) g
    reaches_more r =
        let longer : take (k + 1) os ≡ take k os ++ o ∷ [] = take_more os k o low ∙ ap (λ z. take k os ++ z ∷ []) is in
        subst (λ (xs : List Observation). DerivedGrows basis xs derived_one g) (sym longer)
        (grows_push (take k os) o derived_one f g r by)

    -- where that factor is within its limit, k + 1 observations compound
    pub compounds_more : Compounds basis os k f → unsigned_abs g ≤ most_factor → Compounds basis os (k + 1) g
    compounds_more c within =
        let reached = reaches_more c.reaches in
        record {
          reaches = reached;
          small = λ j h le r. elim (cases_lt j (k + 1)) [
            | inl less ↦ c.small j h (omega (arith, less)) r
            | inr more ↦
                let e : j ≡ k + 1 = omega (arith, le, more) in
                let there : DerivedReaches basis os (k + 1) h = subst (λ (n : ℕ). DerivedReaches basis os n h) e r in
                let same : h ≡ g = one_grown (take (k + 1) os) derived_one h g there reached in
                rw same within
          ];
        }

  -- what the factor after all observations gives
  module _ (os : List Observation) (k : ℕ) (f : ℤ) (all : length os ≤ k) (c : Compounds basis os k f) where
    -- the factor after all observations is that of the period
    pub grows_all : DerivedGrows basis os derived_one f
    grows_all = subst (λ (xs : List Observation). DerivedGrows basis xs derived_one f) (take_all k os all) c.reaches

    -- no factor of the period passes its limit
    pub none_passes : DerivedFactorPasses basis os → ⊥
    none_passes p =
        let within = p.within in
        let small = c.small p.count p.factor (omega (arith, within, all)) p.reaches in
        let passes = p.passes in
        omega (arith, small, passes)

  small_one : (f : ℤ) → f ≡ derived_one → unsigned_abs f ≤ most_factor
  small_one f e = rw e (lit≤ tt)

  -- the factor before any observation is 1
  pub compounds_none : (os : List Observation) → Compounds basis os 0 derived_one
  compounds_none os = record {
    reaches = refl;
    small = λ j g le r.
        let e : j ≡ 0 = omega (arith, le) in
        let there : DerivedReaches basis os 0 g = subst (λ (n : ℕ). DerivedReaches basis os n g) e r in
        small_one g there;
  }

  -- there is one rate
  pub one_compounded : (days : ℤ) (os : List Observation) (x y : ℤ) → pos 0 <ℤ (pos (10 ^ 6) *ℤ days)
      → IsDerivedRate basis days os x → IsDerivedRate basis days os y → x ≡ y
  one_compounded days os x y positive p q =
      let same : p.factor ≡ q.factor = one_grown os derived_one p.factor q.factor p.grows q.grows in
      nearest_once ((q.factor -ℤ derived_one) *ℤ pos basis) (pos (10 ^ 6) *ℤ days) x y positive
      (rw (sym same) p.rounded) q.rounded

  -- the answer that is a factor's rate where that is small
  module _ (days : ℤ) (os : List Observation) (f r : ℤ) (positive : pos 0 <ℤ (pos (10 ^ 6) *ℤ days))
      (grows : DerivedGrows basis os derived_one f)
      (rounded : Rounded Nearest ((f -ℤ derived_one) *ℤ pos basis) (pos (10 ^ 6) *ℤ days) r) where
    compounded_so : IsDerivedRate basis days os r
    compounded_so = record { factor = f; grows = grows; rounded = rounded }

    -- a rate that is answered is the compounded one
    pub rate_some : (answer : Option ℤ) → IfSome answer (λ x. x ≡ r) → IfSome answer (IsDerivedRate basis days os)
    rate_some None e = tt
    rate_some (Some x) e = rw e compounded_so

    -- where no factor passes its limit and the rate is in range, no limit is passed
    pub rate_kept : (answer : Option ℤ) → (DerivedFactorPasses basis os → ⊥) → IfSome answer (λ x. x ≡ r)
        → IfSome answer IsRate → IfSome answer (λ _. DerivedPassesLimit basis days os → ⊥)
    rate_kept None none e small = tt
    rate_kept (Some x) none e small = λ h. elim h.passes [
      | inl factor ↦ none factor
      | inr rate ↦
          let same = one_compounded days os rate.rate r positive rate.is_compounded compounded_so in
          let passes = rate.passes in
          let within : unsigned_abs r ≤ most_rate = rw (sym e) small in
          let passed : most_rate < unsigned_abs r = rw (sym same) passes in
          omega (arith, within, passed)
    ]

    -- where all rates are known and none is answered, the rate passes its limit
    pub rate_none : (answer : Option ℤ) → first_absent os ≡ None → IfNone answer (most_rate < unsigned_abs r)
        → IfNone answer (DerivedPassesLimit basis days os)
    rate_none None known passes =
        record { known = known; passes = inr (record { rate = r; is_compounded = compounded_so; passes = passes }) }
    rate_none (Some x) known passes = tt
