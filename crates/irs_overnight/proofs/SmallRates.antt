-- Where no rule is broken, each derived rate is at most 10 in size.
use Rattle.std.proofs.Common.{◌≡◌, inl, inr, ℕ, ◌<◌, List, [], ◌∷◌, None, ℤ, ◌-ℤ◌, unsigned_abs, refl}
use Rattle.std.proofs.lemmas.Bool.{cases_lt}
use Rattle.irs_base.specs.Limits.{most_rate}
use Rattle.irs_terms.specs.declared.places.Fault.{Fault}
use Rattle.irs_overnight.specs.Overnight.{derived_period_at, DerivedSource, IsDerivedRow, BreaksDerived, period_fault}
use Rattle.irs_overnight.specs.Observations.{DerivedGrows, IsDerivedRate, derived_one, DailyPeriod, FindsRate}
use Rattle.irs_overnight.specs.Observations.{PassesRange, first_absent}
use Rattle.irs_overnight.specs.Texts.{IsSmallFound}
use Rattle.irs_overnight.specs.declared.derived.DerivedRow.{DerivedRow}
use Rattle.irs_overnight.specs.declared.derived.Found.{Found}
use Rattle.irs_overnight.specs.declared.derived.Found.TheVariants.{Rate, Missing}
use Rattle.irs_overnight.specs.declared.observations.Observation.{Observation}
use Rattle.irs_overnight.specs.declared.periods.PeriodFault.TheVariants.{OutOfRange}

-- factors grow by rates that are there
grown_known : (basis : ℕ) (os : List Observation) (f g : ℤ) → DerivedGrows basis os f g → first_absent os ≡ None
grown_known basis [] f g h = refl
grown_known basis (o ∷ os) f g h = let rest = grown_known basis os h.0 g h.2 in
    let there = h.1.observed in
    rw there rest

found_small : (p : DailyPeriod) (found : Found) → FindsRate p found → (PassesRange p → ⊥) → IsSmallFound found
found_small p (Missing d) h none = tt
found_small p (Rate x) h none = elim (cases_lt most_rate (unsigned_abs x)) [
  | inl more ↦
      let is : IsDerivedRate p.basis (p.end -ℤ p.start) h.observations x = h.is in
      absurd (none (record {
        observations = h.observations;
        are = h.are;
        passes = record {
          known = grown_known p.basis h.observations derived_one is.factor is.grows;
          passes = inr (record { rate = x; is_compounded = is; passes = more });
        };
      }))
  | inr fits ↦ fits
]

-- where K44 isn't broken, the rate of a row is at most 10 in size
pub row_small : (source : DerivedSource) → ((f : Fault) → BreaksDerived source f → ⊥) → (i : ℕ) (row : DerivedRow)
    → IsDerivedRow source i row → IsSmallFound row.found
row_small source kept i row h =
    found_small (derived_period_at source h.basis i) row.found h.finds (λ passes. kept (period_fault OutOfRange i) (inr (inr (record {
      basis = h.basis;
      is_basis = h.is_basis;
      number = i;
      period = h.stands;
      why = OutOfRange;
      fails = passes;
      is = refl;
    }))))
