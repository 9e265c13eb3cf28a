-- The calculation period that runs on a day.
use Rattle.std.proofs.Common.{◌≡◌, ℕ, zero, suc, ◌+◌, ◌-◌, ◌<◌, ◌≤◌, List, length, Some, ℤ, ◌<ℤ◌, ◌≤ℤ◌, inl, inr, sym}
use Rattle.std.proofs.Common.{ap, ◌∙◌, subst, arith}
use Rattle.std.specs.Prelude.{slice_get}
use Rattle.std.proofs.lemmas.Bool.{cases_order}
use Rattle.std.proofs.lemmas.Option.{slice_get_cases, slice_get_within}
use Rattle.jiff_core.proofs.SignedLemmas.{signed_arith}
use Rattle.irs_base.proofs.MemberLemmas.{every_get, some_is}
use Rattle.irs_base.specs.Lists.{day_at}
use Rattle.irs_terms.specs.Lawful.{IsNotional}
use Rattle.irs_schedule.specs.Parts.{IsEntry, KeepsBounds, Part, Rises}
use Rattle.irs_schedule.specs.RowsOf.{dated_period, period_at}
use Rattle.irs_schedule.specs.declared.entries.PeriodEntry.{PeriodEntry}
use Rattle.irs_schedule.specs.declared.views.CalculationPeriod.{CalculationPeriod}
use Rattle.irs_schedule.proofs.PeriodLemmas.{next_day}
use Rattle.irs_accrue.specs.Accruals.{Runs}

-- the adjusted boundaries rise, one more than periods
pub record HasBoundaries (p : Part) : Type 0 where
  pub adjusted : length p.adjusted ≡ length p.periods + 1
  pub adjusted_rises : Rises p.adjusted

-- so do those of every part within its bounds
pub has_boundaries : (p : Part) → KeepsBounds p → HasBoundaries p
has_boundaries p kept = record { adjusted = kept.adjusted; adjusted_rises = kept.adjusted_rises }

-- a period that is there, and its entry
record HasEntry (p : Part) (j : ℕ) (x : CalculationPeriod) : Type 0 where
  entry : PeriodEntry
  there : slice_get p.periods j ≡ Some entry
  dated : dated_period p (j + 1) entry ≡ x

has_entry : (p : Part) (j : ℕ) (x : CalculationPeriod) → period_at p j ≡ Some x → HasEntry p j x
has_entry p j x e = elim (slice_get_cases p.periods j).1 [
  | inl w ↦
      let there = w.2 in
      let same : Some (dated_period p (j + 1) w.0) ≡ Some x = rw there at e in
      record { entry = w.0; there = there; dated = some_is (dated_period p (j + 1) w.0) x same }
  | inr w ↦ absurd (let none = w.1 in let bad = rw none at e in cc)
]

-- the notional of a period
pub notional_fits : (p : Part) (j : ℕ) (x : CalculationPeriod) → KeepsBounds p → period_at p j ≡ Some x
    → IsNotional x.notional
notional_fits p j x kept e =
    let h = has_entry p j x e in
    let entry = every_get (IsEntry p.daily p.day_count) p.periods j h.entry kept.entries h.there in
    subst (λ (y : CalculationPeriod). IsNotional y.notional) h.dated entry.notional

-- the dates of a period that runs
pub record RunsFromTo (p : Part) (d : ℤ) (number : ℕ) : Type 0 where
  pub from_one : 1 ≤ number
  pub to_last : number ≤ length p.periods
  pub started : day_at p.adjusted (number - 1) ≤ℤ d
  pub not_ended : d <ℤ day_at p.adjusted number

-- a period that runs has its number, and the day lies in it
pub runs_from_to : (p : Part) (d : ℤ) (number : ℕ) (x : CalculationPeriod) → Runs p d number x → RunsFromTo p d number
runs_from_to p d number x r =
    let h = has_entry p (number - 1) x r.is in
    let low = slice_get_within p.periods (number - 1) h.entry h.there in
    let one = r.from_one in
    let back : number - 1 + 1 - 1 ≡ number - 1 = omega (arith, one) in
    let on : number - 1 + 1 ≡ number = omega (arith, one) in
    let start : day_at p.adjusted (number - 1) ≡ x.adjusted_start =
    ap (day_at p.adjusted) (sym back) ∙ ap (λ (y : CalculationPeriod). y.adjusted_start) h.dated in
    let end : day_at p.adjusted number ≡ x.adjusted_end =
    ap (day_at p.adjusted) (sym on) ∙ ap (λ (y : CalculationPeriod). y.adjusted_end) h.dated in
    record {
      from_one = one;
      to_last = omega (arith, one, low);
      started = subst (λ (z : ℤ). z ≤ℤ d) (sym start) r.started;
      not_ended = subst (λ (z : ℤ). d <ℤ z) (sym end) r.not_ended;
    }

-- ---- boundaries rise

not_after : (xs : List ℤ) (i n j : ℕ) → Rises xs → j ≡ i + n → j < length xs → day_at xs i ≤ℤ day_at xs j
not_after xs i zero j h e low = let s : j ≡ i = omega (arith, e) in rw s (omega (arith, signed_arith))
not_after xs i (suc n) j h e low =
    let before = not_after xs i n (j - 1) h (omega (arith, e)) (omega (arith, low)) in
    let next = next_day xs j h (omega (arith, e)) low in
    omega (arith, signed_arith, before, next)

-- days that rise are in order
pub rises_to : (xs : List ℤ) (i j : ℕ) → Rises xs → i ≤ j → j < length xs → day_at xs i ≤ℤ day_at xs j
rises_to xs i j h le low = not_after xs i (j - i) j h (omega (arith, le)) low

-- two periods don't run on one day
not_both : (p : Part) (d : ℤ) (m n : ℕ) → HasBoundaries p → RunsFromTo p d m → RunsFromTo p d n → m < n → ⊥
not_both p d m n kept a b less =
    let long = kept.adjusted in
    let high = b.to_last in
    let order = rises_to p.adjusted m (n - 1) kept.adjusted_rises (omega (arith, less)) (omega (arith, long, high)) in
    let ends = a.not_ended in
    let starts = b.started in
    omega (arith, signed_arith, order, ends, starts)

-- a day lies in one period
pub one_number : (p : Part) (d : ℤ) (m n : ℕ) → HasBoundaries p → RunsFromTo p d m → RunsFromTo p d n → m ≡ n
one_number p d m n kept a b = elim (cases_order m n) [
  | inl same ↦ same
  | inr (inl less) ↦ absurd (not_both p d m n kept a b less)
  | inr (inr more) ↦ absurd (not_both p d n m kept b a more)
]
