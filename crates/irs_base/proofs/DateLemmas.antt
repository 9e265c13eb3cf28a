-- The day of a date, as a function.
use Rattle.std.proofs.Common.{◌≡◌, inl, inr, ℕ, ◌<◌, ◌≤◌, Bool, true, ◌&&◌, Option, Some, None, IfSome}
use Rattle.std.proofs.Common.{IfNone, nat_le, arith, refl, sym, ap, subst, ℤ, pos}
use Rattle.std.proofs.lemmas.Bool.{cases_Bool}
use Rattle.std.specs.Ordering.{int_cmp, is_le}
use Rattle.jiff_core.specs.Calendar.{IsCivilDate, days_in_month, days_from_civil}
use Rattle.jiff_core.proofs.SignedLemmas.{signed_arith}
use Rattle.irs_base.specs.Days.{IsDay, HasDate, first_day, last_day}
use Rattle.irs_base.specs.Texts.{is_civil, is_in_range, day_number}
use Rattle.irs_base.proofs.Orders.{le_true, true_le, both_true}

le_nat : (a b : ℕ) → a ≤ b → nat_le a b ≡ true
le_nat a b h = grind arith

nat_is_le : (a b : ℕ) → nat_le a b ≡ true → a ≤ b
nat_is_le a b h = grind arith

and_true : (a b : Bool) → a ≡ true → b ≡ true → (a && b) ≡ true
and_true a b h k = rw (h, k) refl

in_range_true : (n : ℤ) → IsDay n → is_in_range n ≡ true
in_range_true n day =
    and_true (is_le (int_cmp first_day n)) (is_le (int_cmp n last_day)) (true_le first_day n day.0)
    (true_le n last_day day.1)

-- a number that passes the test of the range is a day
pub range_is_true : (n : ℤ) → is_in_range n ≡ true → IsDay n
range_is_true n h = let b = both_true (is_le (int_cmp first_day n)) (is_le (int_cmp n last_day)) h in
    (le_true first_day n b.0, le_true n last_day b.1)

civil_true : (y m d : ℕ) → IsCivilDate (pos y) m d → is_civil y m d ≡ true
civil_true y m d h =
    and_true (nat_le 1 m && nat_le m 12) (nat_le 1 d && nat_le d (days_in_month (pos y) m))
    (and_true (nat_le 1 m) (nat_le m 12) (le_nat 1 m h.1.0) (le_nat m 12 h.1.1))
    (and_true (nat_le 1 d) (nat_le d (days_in_month (pos y) m)) (le_nat 1 d h.2.0)
    (le_nat d (days_in_month (pos y) m) h.2.1))

-- numbers that pass the test of a date are a date
pub civil_is_true : (y m d : ℕ) → y < 10000 → is_civil y m d ≡ true → IsCivilDate (pos y) m d
civil_is_true y m d small h =
    let b = both_true (nat_le 1 m && nat_le m 12) (nat_le 1 d && nat_le d (days_in_month (pos y) m)) h in
    let ms = both_true (nat_le 1 m) (nat_le m 12) b.0 in
    let ds = both_true (nat_le 1 d) (nat_le d (days_in_month (pos y) m)) b.1 in (
      (omega (arith, signed_arith), omega (arith, signed_arith, small)),
      (nat_is_le 1 m ms.0, nat_is_le m 12 ms.1),
      (nat_is_le 1 d ds.0, nat_is_le d (days_in_month (pos y) m) ds.1),
    )

-- what the search for a date finds is the number of the day
pub day_is : (r : Option ℤ) (y m d : ℕ) (z : ℤ) → z ≡ pos y → y < 10000 → IfSome r (λ n. HasDate n z m d)
    → IfSome r (λ n. IsDay n) → IfNone r ((n : ℤ) → IsDay n → HasDate n z m d → ⊥) → r ≡ day_number y m d
day_is (Some n) y m d z e small some range none =
    let h = subst (λ (x : ℤ). HasDate n x m d) e some in
    let days : ℤ = days_from_civil (pos y) m d in
    let t : (is_civil y m d && is_in_range days) ≡ true =
    and_true (is_civil y m d) (is_in_range days) (civil_true y m d h.0)
    (in_range_true days (subst IsDay h.1 range)) in
    rw t (ap (λ (x : ℤ). Some x) h.1)
day_is None y m d z e small some range none =
    let days : ℤ = days_from_civil (pos y) m d in
    elim (cases_Bool (is_civil y m d && is_in_range days)) [
      | inl t ↦
          let b = both_true (is_civil y m d) (is_in_range days) t in
          let date : HasDate days (pos y) m d = (civil_is_true y m d small b.0, refl) in
          absurd (none days (range_is_true days b.1) (subst (λ (x : ℤ). HasDate days x m d) (sym e) date))
      | inr f ↦ rw f refl
    ]
