-- A compounded factor that passes its limit, beside the amounts: there is one outcome of both.
use Rattle.std.proofs.Common.{◌≡◌, ◌⊎◌, inl, inr, ℕ, zero, suc, ◌+◌, ◌<◌, List, [], ◌∷◌, Some, None, Bool, true, false}
use Rattle.std.proofs.Common.{refl, sym, subst, ap, arith}
use Rattle.std.specs.Prelude.{Result, Ok, Err, if◌then◌else◌}
use Rattle.irs_terms.specs.Elements.{calculation_period_amount}
use Rattle.irs_base.specs.Outcomes.{IfStopped, First, IsFirst, Only, Determined, Meets, Spec, answered}
use Rattle.irs_terms.specs.Faults.{comes_before}
use Rattle.irs_base.specs.Outcomes.{refused}
use Rattle.irs_terms.specs.declared.places.Fault.{Fault}
use Rattle.irs_base.specs.declared.stopped.Stopped.{Stopped}
use Rattle.irs_base.specs.declared.stopped.Stopped.TheVariants.{Broken, Memory}
use Rattle.irs_terms.proofs.FaultOrder.{fault_order, one_fault}
use Rattle.irs_base.proofs.Firsts.{first_one, first_or, level_same, lt_false}
use Rattle.irs_base.proofs.Outcomes.{answered_free, one_refusal}
use Rattle.irs_observed.specs.declared.overnight_rate.OvernightRate.{OvernightRate}
use Rattle.irs_observed.specs.declared.overnight_rate.OvernightRate.TheVariants.{Stated, Known, Absent, OutOfRange}
use Rattle.irs_schedule.specs.Schedules.{passed_at}
use Rattle.irs_schedule.specs.Parts.{FactorPassesAt, RefusesAmounts, with_factors}
use Rattle.irs_schedule.specs.Private.Layouts.{IsFirstPassing, first_refusal}

-- no factor passes its limit
abbrev NonePasses : List OvernightRate → Type 0
NonePasses rates = (k : ℕ) → FactorPassesAt rates k → ⊥

-- K39 at a period whose factor passes
abbrev IsPassing : List OvernightRate → Fault → Type 0
IsPassing rates f = (k : ℕ) × FactorPassesAt rates k × (f ≡ passed_at (k + 1))

-- of K39 at two periods the one at the earlier is reported
passed_order : (i j : ℕ) → (i < j → ⊥) → comes_before (passed_at i) (passed_at j) ≡ false
passed_order i j h =
    let element : ℕ = calculation_period_amount in
    level_same 1 1 _ refl (level_same 39 39 _ refl (level_same element element _ refl (lt_false i j h)))

-- the first factor that passes is reported first
pub first_passes : (rates : List OvernightRate) (k : ℕ) → IsFirstPassing rates k
    → First comes_before (IsPassing rates) (passed_at (k + 1))
first_passes rates k h = (
  (k, h.passes, refl),
  λ f g. subst (λ (x : Fault). comes_before x (passed_at (k + 1)) ≡ false) (sym g.2)
      (passed_order (g.0 + 1) (k + 1) (λ less. h.first g.0 (omega (arith, less)) g.1)),
)

is_passing : (r : OvernightRate) → (r ≡ OutOfRange) ⊎ (r ≡ OutOfRange → ⊥)
is_passing (Stated x) = inr (λ e. cc)
is_passing (Known x) = inr (λ e. cc)
is_passing Absent = inr (λ e. cc)
is_passing OutOfRange = inl refl

none_more : (r : OvernightRate) (rates : List OvernightRate) → (r ≡ OutOfRange → ⊥) → NonePasses rates
    → NonePasses (r ∷ rates)
none_more r rates not none zero h = not (cc)
none_more r rates not none (suc k) h = none k h

later : (r : OvernightRate) (rates : List OvernightRate) (k : ℕ) → (r ≡ OutOfRange → ⊥) → IsFirstPassing rates k
    → IsFirstPassing (r ∷ rates) (suc k)
later r rates k not h = record {
  passes = h.passes;
  first = before;
}
  where
    before : (j : ℕ) → j < suc k → FactorPassesAt (r ∷ rates) j → ⊥
    before zero low passes = not (cc)
    before (suc j) low passes = h.first j (omega (arith, low)) passes

-- there is a first one, or none
first_passing_there : (rates : List OvernightRate) → ((k : ℕ) × IsFirstPassing rates k) ⊎ NonePasses rates
first_passing_there [] = inr (λ k h. cc)
first_passing_there (r ∷ rates) = elim (is_passing r) [
  | inl passes ↦ inl (0, record { passes = ap Some passes; first = λ j low. absurd (omega (arith, low)) })
  | inr not ↦ elim (first_passing_there rates) [
    | inl found ↦ inl (suc found.0, later r rates found.0 not found.1)
    | inr none ↦ inr (none_more r rates not none)
  ]
]

picked : (P : Fault → Type 0) (f g : Fault) (b : Bool) → IsFirst comes_before P (if b then Some g else Some f)
    → First comes_before P (if b then g else f)
picked P f g true first = first
picked P f g false first = first

module _ {A : Type 0} (rates : List OvernightRate) (amounts : Spec A Fault) where
  -- a refusal of the amounts is the first one
  first_refused : Determined amounts → (f : Fault) → amounts.Refuses f → First comes_before amounts.Refuses f
  first_refused one f h =
      first_one comes_before fault_order amounts.Refuses f h (λ g k. one_refusal one g f k h)

  -- where no factor passes the outcome is that of the amounts
  pub by_amounts : Determined amounts → NonePasses rates → (r : Result A (Stopped Fault)) → Meets amounts r
      → Meets (with_factors passed_at rates amounts) r
  by_amounts one none (Ok a) h = (none, h)
  by_amounts one none (Err (Broken f)) h =
      first_or comes_before fault_order amounts.Refuses (IsPassing rates) (Some f) None (first_refused one f h)
      (λ g passes. none passes.0 passes.1)
  by_amounts one none (Err Memory) h = tt

  -- where one passes it is refused, or the amounts were before
  pub by_factor : Determined amounts → (k : ℕ) → IsFirstPassing rates k → (r : Result A (Stopped Fault)) → Meets amounts r
      → IfStopped (first_refusal r (passed_at (k + 1))) (with_factors passed_at rates amounts).Refuses
  by_factor one k first (Ok a) h =
      first_or comes_before fault_order amounts.Refuses (IsPassing rates) None (Some (passed_at (k + 1)))
      (answered_free one a h) (first_passes rates k first)
  by_factor one k first (Err (Broken f)) h =
      picked (λ g. amounts.Refuses g ⊎ IsPassing rates g) f (passed_at (k + 1)) (comes_before (passed_at (k + 1)) f)
      (first_or comes_before fault_order amounts.Refuses (IsPassing rates) (Some f) (Some (passed_at (k + 1)))
      (first_refused one f h) (first_passes rates k first))
  by_factor one k first (Err Memory) h = tt

  only_refusal : (f : Fault) → (with_factors passed_at rates amounts).Refuses f
      → Only (with_factors passed_at rates amounts).Refuses f
  only_refusal f first = record {
    is = first;
    only = λ g h. one_fault (RefusesAmounts passed_at rates amounts) g f h first;
  }

  none_answered : (k : ℕ) → IsFirstPassing rates k → (a : A) → (with_factors passed_at rates amounts).Answers a → ⊥
  none_answered k first a h = h.0 k first.passes

  by_first : Determined amounts → ((k : ℕ) × IsFirstPassing rates k) ⊎ NonePasses rates
      → Determined (with_factors passed_at rates amounts)
  by_first (answered a one free) (inr none) =
      answered a (record { is = (none, one.is); only = λ b h. one.only b h.1 }) (λ f h. elim h.0 [
        | inl refuses ↦ free f refuses
        | inr passes ↦ none passes.0 passes.1
      ])
  by_first (answered a one free) (inl found) =
      refused (passed_at (found.0 + 1)) (only_refusal (passed_at (found.0 + 1))
      (by_factor (answered a one free) found.0 found.1 (Ok a) one.is)) (none_answered found.0 found.1)
  by_first (refused f one none) (inr free) =
      refused f (only_refusal f (by_amounts (refused f one none) free (Err (Broken f)) one.is)) (λ a h. none a h.1)
  by_first (refused f one none) (inl found) =
      let first = by_factor (refused f one none) found.0 found.1 (Err (Broken f)) one.is in
      refused _ (only_refusal _ first) (none_answered found.0 found.1)

  -- there is one outcome of both
  pub factors_determined : Determined amounts → Determined (with_factors passed_at rates amounts)
  factors_determined one = by_first one (first_passing_there rates)
