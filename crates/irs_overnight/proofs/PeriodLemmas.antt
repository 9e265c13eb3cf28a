-- What a period gives: one rate or one missing day, and it fails in no way then.
use Rattle.std.proofs.Common.{◌≡◌, ℕ, ◌^◌, ◌≤◌, List, [], ◌∷◌, Option, Some, None, ℤ, pos, ◌<ℤ◌, ◌*ℤ◌, ◌-ℤ◌, refl, sym}
use Rattle.std.proofs.Common.{subst, ◌∙◌, ap, arith}
use Rattle.jiff_core.proofs.SignedLemmas.{signed_arith}
use Rattle.irs_terms.specs.declared.codes.DayCountCode.{DayCountCode}
use Rattle.irs_terms.specs.declared.codes.DayCountCode.TheVariants.{OneOne, ActActIsda, Act365Fixed, Act360, Thirty360}
use Rattle.irs_terms.specs.declared.codes.DayCountCode.TheVariants.{ThirtyE360, ThirtyE360Isda}
use Rattle.irs_overnight.specs.Observations.{DerivedGrows, DerivedPassesLimit, derived_one, DailyPeriod, FindsRate}
use Rattle.irs_overnight.specs.Observations.{IsFound, PassesRange, AreRateObservations, first_absent, basis_of}
use Rattle.irs_overnight.specs.Observations.{LacksDays}
use Rattle.irs_overnight.specs.Private.Bounds.{NoneFails}
use Rattle.irs_overnight.specs.declared.derived.Found.{Found}
use Rattle.irs_overnight.specs.declared.derived.Found.TheVariants.{Rate, Missing}
use Rattle.irs_overnight.specs.declared.observations.Observation.{Observation}
use Rattle.irs_overnight.specs.declared.periods.PeriodFault.TheVariants.{NoDays, OutOfRange}
use Rattle.irs_overnight.proofs.FactorLemmas.{one_compounded}
use Rattle.irs_overnight.proofs.ObservationLemmas.{one_observations}

-- where factors grow each rate is there
grows_known : (basis : ℕ) (os : List Observation) (f g : ℤ) → DerivedGrows basis os f g → first_absent os ≡ None
grows_known basis [] f g p = refl
grows_known basis (o ∷ os) f g p =
    let rest = grows_known basis os p.0 g p.2 in
    rw p.1.observed rest

some_day : (a b : ℤ) → Some a ≡ Some b → a ≡ b
some_day a b e = cc

-- two bases that are the same option are the same
pub some_basis : (a b : ℕ) → Some a ≡ Some b → a ≡ b
some_basis a b e = cc

apart : (o : Option ℤ) (d : ℤ) → o ≡ None → o ≡ Some d → ⊥
apart o d p q = cc

-- a year of a basis has 1 to 365 days
pub basis_range : (code : DayCountCode) (basis : ℕ) → basis_of code ≡ Some basis → (1 ≤ basis) × (basis ≤ 365)
basis_range OneOne basis h = absurd (cc)
basis_range ActActIsda basis h = absurd (cc)
basis_range Act365Fixed basis h = let e : 365 ≡ basis = some_basis 365 basis h in (omega (arith, e), omega (arith, e))
basis_range Act360 basis h = let e : 360 ≡ basis = some_basis 360 basis h in (omega (arith, e), omega (arith, e))
basis_range Thirty360 basis h = absurd (cc)
basis_range ThirtyE360 basis h = absurd (cc)
basis_range ThirtyE360Isda basis h = absurd (cc)

-- a divisor of a period with days is above 0
pub positive : (days : ℤ) → pos 0 <ℤ days → pos 0 <ℤ (pos (10 ^ 6) *ℤ days)
positive days h = omega (arith, signed_arith, h)

one_is_found : (basis : ℕ) (days : ℤ) (os : List Observation) (x y : Found) → 1 ≤ basis → pos 0 <ℤ days
    → IsFound basis days os x → IsFound basis days os y → x ≡ y
one_is_found basis days os (Rate x) (Rate y) some above p q =
    ap Rate (one_compounded basis some days os x y (positive days above) p q)
one_is_found basis days os (Rate x) (Missing d) some above p q =
    absurd (apart (first_absent os) d (grows_known basis os derived_one p.factor p.grows) q)
one_is_found basis days os (Missing d) (Rate x) some above p q =
    absurd (apart (first_absent os) d (grows_known basis os derived_one q.factor q.grows) p)
one_is_found basis days os (Missing c) (Missing d) some above p q = ap Missing (some_day c d (sym p ∙ q))

module _ (p : DailyPeriod) (some : 1 ≤ p.basis) (above : pos 0 <ℤ (p.end -ℤ p.start)) where
  -- a period gives one rate, or one missing day
  pub one_found : (x y : Found) → FindsRate p x → FindsRate p y → x ≡ y
  one_found x y a b =
      let same = one_observations p.lines p.days p.start p.end a.observations b.observations a.are b.are in
      one_is_found p.basis (p.end -ℤ p.start) b.observations x y some above
      (subst (λ (os : List Observation). IsFound p.basis (p.end -ℤ p.start) os x) same a.is) b.is

-- the rates of a period don't pass a limit where those of its observations don't
pub not_passed : (p : DailyPeriod) (os : List Observation) → AreRateObservations p.lines p.days p.start p.end os
    → (DerivedPassesLimit p.basis (p.end -ℤ p.start) os → ⊥) → PassesRange p → ⊥
not_passed p os are kept h =
    let same = one_observations p.lines p.days p.start p.end h.observations os h.are are in
    kept (subst (λ (xs : List Observation). DerivedPassesLimit p.basis (p.end -ℤ p.start) xs) same h.passes)

-- a period that lacks no day and passes no limit breaks no rule
pub none_fails : (p : DailyPeriod) → (LacksDays p.days p.start p.end → ⊥) → (PassesRange p → ⊥) → NoneFails p
none_fails p days range NoDays h = days h
none_fails p days range OutOfRange h = range h
