-- The sums of a schedule are small.
use Rattle.std.proofs.Common.{◌≡◌, ℕ, ◌+◌, ◌-◌, ◌*◌, ◌^◌, ◌<◌, ◌≤◌, List, ◌∷◌, length, drop, get_or, ℤ, pos, negsuc}
use Rattle.std.proofs.Common.{◌+ℤ◌, unsigned_abs, FitsSigned, Some, inl, inr, sym, ◌∙◌, ap, arith}
use Rattle.std.specs.Int.{w64}
use Rattle.std.specs.List.{fold}
use Rattle.std.specs.Prelude.{option_map, slice_get, IfSome}
use Rattle.std.proofs.lemmas.List.{drop_more}
use Rattle.std.proofs.lemmas.Option.{same_Some, slice_get_cases}
use Rattle.std.proofs.Math.Nat.{mul-le-mul}
use Rattle.jiff_core.proofs.SignedLemmas.{unsigned_abs-product}
use Rattle.irs_base.specs.Limits.{most_periods}
use Rattle.irs_base.specs.declared.line.Dec.{Dec}
use Rattle.irs_schedule.specs.Parts.{Part, KeepsBounds, IsWithin}
use Rattle.irs_schedule.specs.declared.entries.PaymentEntry.{PaymentEntry}
use Rattle.irs_schedule.specs.declared.entries.PeriodEntry.{PeriodEntry}
use Rattle.irs_audit.specs.StatedFlows.{IsStatableDec, stated_amount}
use Rattle.irs_bulk.specs.BulkRuns.{days_added_from, known_or_zero, paid_from, payment_row_count}
use Rattle.irs_bulk.specs.Private.BulkRuns.{most_stated_amount}
use Rattle.irs_audit.proofs.BoundLemmas.{payments_few}
use Rattle.irs_audit.proofs.ValueLemmas.{both_powers}
use Rattle.irs_audit.proofs.VerdictLemmas.{sum_few}

-- a stated amount is at most the greatest size
pub amount_size : (v : Dec) → IsStatableDec v → unsigned_abs (stated_amount v) ≤ most_stated_amount
amount_size v h =
    let product : unsigned_abs v.units * 10 ^ (12 - v.places) ≤ 10 ^ 14 * 10 ^ v.places * 10 ^ (12 - v.places) =
    mul-le-mul h.size (omega arith) in
    let power = both_powers v.places h.decimals in
    rw (unsigned_abs-product v.units (pos (10 ^ (12 - v.places)))) (omega (arith, product, power))

-- a number of 64 bits is at most the greatest size
pub days_size : (z : ℤ) → FitsSigned w64 z → unsigned_abs z ≤ most_stated_amount
days_size (pos n) f = omega (arith, f.sfits)
days_size (negsuc n) f = omega (arith, f.sfits)

payment_rows_few : (p : Part) → KeepsBounds p → payment_row_count p ≤ 2 * most_periods
payment_rows_few p h = let payments = payments_few p h in omega (arith, h.few, payments)

-- the count of payments and calculation periods of a schedule fits 32 bits
pub payment_rows_fit : (s : List Part) → IsWithin s → fold (λ n p. n + payment_row_count p) 0 s < 2 ^ 32
payment_rows_fit s h = let few = sum_few payment_row_count (2 * most_periods) 0 s payment_rows_few h.each in
    omega (arith, few, h.few)

-- the sum with one more payment, and the payments after it
pub paid_more : (t : ℤ) (ys : List PaymentEntry) (i : ℕ) (y : PaymentEntry) → i < length ys → y ≡ get_or ys i y
    → paid_from (t +ℤ known_or_zero y.amount) (drop (i + 1) ys) ≡ paid_from t (drop i ys)
paid_more t ys i y low is =
    let rest : drop i ys ≡ y ∷ drop (i + 1) ys =
    drop_more ys i y low ∙ ap (λ (z : PaymentEntry). z ∷ drop (i + 1) ys) (sym is) in
    sym (ap (paid_from t) rest)

-- the days of the period at a place
pub days_there : (es : List PeriodEntry) (j : ℕ) (d : ℤ) → option_map (λ e. e.days) (slice_get es j) ≡ Some d
    → IfSome (slice_get es j) (λ e. d ≡ e.days)
days_there es j d h = elim (slice_get_cases es j).1 [
  | inl w ↦
      let there = w.2 in
      let same : Some w.0.days ≡ Some d = rw there at h in
      rw there (sym (same_Some w.0.days d same))
  | inr w ↦ absurd (let none = w.1 in let bad = rw none at h in cc)
]

-- the sum with the days of one more period, and the periods after it
pub days_more : (t k : ℤ) (es : List PeriodEntry) (i : ℕ) → i < length es → IfSome (slice_get es i) (λ e. k ≡ e.days)
    → days_added_from (t +ℤ k) (drop (i + 1) es) ≡ days_added_from t (drop i es)
days_more t k es i low h = elim (slice_get_cases es i).1 [
  | inl w ↦
      let there = w.2 in
      let is : k ≡ (w.0).days = rw there at h in
      let rest : drop i es ≡ w.0 ∷ drop (i + 1) es =
      drop_more es i w.0 w.1 ∙ ap (λ (e : PeriodEntry). e ∷ drop (i + 1) es) w.3 in
      rw is (sym (ap (days_added_from t) rest))
  | inr w ↦ absurd (let past = w.0 in omega (arith, low, past))
]
