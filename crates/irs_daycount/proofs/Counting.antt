-- Counting the days one by one adds up to the difference of two places.
use Rattle.std.proofs.Common.{◌≡◌, ℕ, zero, suc, ◌+◌, ◌*◌, inl, inr, Bool, true, false, not, if◌then◌else◌, ℤ, pos}
use Rattle.std.proofs.Common.{negsuc, ◌+ℤ◌, ◌-ℤ◌, ◌*ℤ◌, ◌≤ℤ◌, ◌<ℤ◌, unsigned_abs, arith, refl, ap, subst, ◌∙◌}
use Rattle.std.proofs.lemmas.Bool.{cases_lt}
use Rattle.jiff_core.specs.Calendar.{days_in_year, is_leap_year}
use Rattle.jiff_core.proofs.SignedLemmas.{signed_arith}
use Rattle.jiff_core.proofs.CalendarLemmas.{day_count-next_year, days_in_year_bounds}
use Rattle.irs_base.specs.Days.{IsDay, year_part}
use Rattle.irs_base.proofs.DateWalks.{IsPlaced, year_place, placed_once}
use Rattle.irs_daycount.specs.Fractions.{ActAct, act_act_denominator, act_act_parts, in_leap_year, in_common_year}
use Rattle.irs_daycount.specs.Fractions.{days_counted}
use Rattle.irs_terms.specs.declared.results.Frac.{Frac}
use Rattle.irs_daycount.specs.Private.FractionLaws.{weight_of, place_at, place_of_day}

by_leap : (b : Bool) → (if b then 366 else 365) * (if b then 365 else 366) ≡ act_act_denominator
by_leap true = refl
by_leap false = refl

whole_year : (y : ℕ) → days_in_year (pos y) * weight_of y ≡ act_act_denominator
whole_year y = by_leap (is_leap_year (pos y))

step_at : (d : ℤ) (y o z p : ℕ) → IsPlaced d y o → IsPlaced (d +ℤ pos 1) z p → place_at z p ≡ place_at y o + weight_of y
step_at d y o z p a b = elim (cases_lt (o + 1) (days_in_year (pos y))) [
  | inl l ↦
      let next : IsPlaced (d +ℤ pos 1) y (o + 1) =
      record { there = omega (arith, signed_arith, a.there); within = l; from = a.from } in
      let e = placed_once (d +ℤ pos 1) z p y (o + 1) b next in
      let same : place_at z p ≡ place_at y (o + 1) =
      ap (λ (n : ℕ). place_at n p) e.0 ∙ ap (λ (n : ℕ). place_at y n) e.1 in
      omega (arith, same)
  | inr l ↦
      let last : o + 1 ≡ days_in_year (pos y) = omega (arith, l, a.within) in
      let n = day_count-next_year (pos y) (pos (y + 1)) (omega (arith, signed_arith)) (omega (arith, signed_arith)) in
      let next : IsPlaced (d +ℤ pos 1) (y + 1) 0 =
      record {
        there = omega (arith, signed_arith, a.there, n, last);
        within =
            omega (arith, days_in_year_bounds (pos (y + 1)));
        from = omega (arith, a.from);
      } in
      let e = placed_once (d +ℤ pos 1) z p (y + 1) 0 b next in
      let same : place_at z p ≡ place_at (y + 1) 0 =
      ap (λ (m : ℕ). place_at m p) e.0 ∙ ap (λ (m : ℕ). place_at (y + 1) m) e.1 in
      let w = whole_year y in
      let v : (o + 1) * weight_of y ≡ days_in_year (pos y) * weight_of y = ap (λ (m : ℕ). m * weight_of y) last in
      omega (arith, same, v, w)
]

step : (d : ℤ) → IsDay d → IsDay (d +ℤ pos 1) → place_of_day (d +ℤ pos 1) ≡ place_of_day d + weight_of (year_part d).0
step d a b =
    step_at d (year_part d).0 (year_part d).1 (year_part (d +ℤ pos 1)).0 (year_part (d +ℤ pos 1)).1 (year_place d a)
    (year_place (d +ℤ pos 1) b)

one_day : (b : Bool) (x y : ℕ) → 365 * x + 366 * y + (if b then 365 else 366)
    ≡ 365 * (x + (if b then 1 else 0)) + 366 * (y + (if not b then 1 else 0))
one_day true x y = omega arith
one_day false x y = omega arith

-- the places of two days differ by the parts of the days from the one to the other
pub counted : (s : ℤ) (n : ℕ) → IsDay s → IsDay (s +ℤ pos n) → place_of_day (s +ℤ pos n) ≡ place_of_day s + (act_act_parts s n)
counted s zero a b = let e : s +ℤ pos 0 ≡ s = omega (arith, signed_arith) in rw e (omega arith)
counted s (suc n) a b =
    let here : IsDay (s +ℤ pos n) = (omega (arith, signed_arith, a, b), omega (arith, signed_arith, a, b)) in
    let e : s +ℤ pos (suc n) ≡ s +ℤ pos n +ℤ pos 1 = omega (arith, signed_arith) in
    let next : IsDay (s +ℤ pos n +ℤ pos 1) = (omega (arith, signed_arith, a, b), omega (arith, signed_arith, a, b)) in
    let h = counted s n a here in
    let t = step (s +ℤ pos n) here next in
    let o = one_day (in_leap_year (s +ℤ pos n)) (days_counted in_leap_year s n) (days_counted in_common_year s n) in
    rw e (omega (arith, h, t, o))

positive : (z : ℤ) → pos 0 <ℤ z → z ≡ pos (unsigned_abs z)
positive (pos n) h = refl
positive (negsuc n) h = absurd (omega (arith, signed_arith, h))

later : (s e : ℤ) → s <ℤ e → (n : ℕ) × (e ≡ s +ℤ pos n)
later s e h = (
  unsigned_abs (e -ℤ s),
  let k = positive (e -ℤ s) (omega (arith, signed_arith, h)) in
      omega (arith, signed_arith, k),
)

-- the difference of two places is the numerator of ACT/ACT.ISDA
pub act_act_is : (s e : ℤ) (f : Frac) → s <ℤ e → IsDay s → IsDay e → f.num +ℤ pos (place_of_day s) ≡ pos (place_of_day e)
    → f.den ≡ pos act_act_denominator → ActAct s e f
act_act_is s e f h a b num den =
    let n = later s e h in
    let day : IsDay (s +ℤ pos n.0) = subst (λ (d : ℤ). IsDay d) n.1 b in
    let c = counted s n.0 a day in
    let p : place_of_day e ≡ place_of_day (s +ℤ pos n.0) = ap place_of_day n.1 in
    record { days = n.0; ends = n.1; num = omega (arith, signed_arith, num, c, p); den = den }

-- each day passes the test or fails it
tested : (b : Bool) (x y n : ℕ) → x + y ≡ n → x + (if b then 1 else 0) + (y + (if not b then 1 else 0)) ≡ suc n
tested true x y n h = omega (arith, h)
tested false x y n h = omega (arith, h)

-- the days that pass a test and those that don't are all days together
pub counts_all : (test : ℤ → Bool) (s : ℤ) (n : ℕ) → days_counted test s n + days_counted (λ d. not (test d)) s n ≡ n
counts_all test s zero = refl
counts_all test s (suc n) =
    tested (test (s +ℤ pos n)) (days_counted test s n) (days_counted (λ d. not (test d)) s n) n (counts_all test s n)

-- the numerator is from 0 to 366 times the days
pub act_act_within : (s e : ℤ) (f : Frac) → ActAct s e f → (pos 0 ≤ℤ f.num) × (f.num ≤ℤ (pos 366 *ℤ (e -ℤ s)))
act_act_within s e f a =
    let c = counts_all in_leap_year s a.days in (
      omega (arith, signed_arith, a.num),
      omega (arith, signed_arith, a.num, a.ends, c),
    )
