-- The day of a date's text is the day that has that date.
use Rattle.std.proofs.Common.{◌≡◌, inl, inr, ℕ, ◌+◌, ◌-◌, ◌*◌, ◌/◌, ◌%◌, ◌<◌, ◌≤◌, nat_le, true, ◌&&◌, ◌==◌, List, []}
use Rattle.std.proofs.Common.{◌∷◌, length, slice_index, Option, Some, None, IfSome, IfNone, ℤ, pos, refl, sym, ap}
use Rattle.std.proofs.Common.{subst, ◌∙◌, arith}
use Rattle.std.proofs.lemmas.Bool.Decides.{nat_tests}
use Rattle.std.proofs.lemmas.Bool.{cases_Bool}
use Rattle.jiff_core.specs.Calendar.{days_from_civil}
use Rattle.jiff_core.proofs.SignedLemmas.{signed_arith}
use Rattle.jiff_core.proofs.CalendarLemmas.{days_in_month_bounds}
use Rattle.irs_base.specs.Days.{IsDay, HasDate}
use Rattle.irs_base.specs.Texts.{is_digit, digit_pair, is_civil, is_in_range, day_number, date_of_parts, date_at}
use Rattle.irs_base.specs.Texts.{two_digits, date_text, IsPlainDate}
use Rattle.irs_base.proofs.Orders.{both_true}
use Rattle.irs_base.proofs.Dates.{year_range}
use Rattle.irs_base.proofs.DateTexts.{plain_text}
use Rattle.irs_base.proofs.DateLemmas.{day_is, range_is_true, civil_is_true}

pair_two : (n : ℕ) → n < 100 → digit_pair (48 + n / 10) (48 + n % 10) ≡ Some n
pair_two n h =
    let a : nat_le 48 (48 + n / 10) ≡ true = grind arith in
    let b : nat_le (48 + n / 10) 57 ≡ true = grind (arith, h) in
    let c : nat_le 48 (48 + n % 10) ≡ true = grind arith in
    let d : nat_le (48 + n % 10) 57 ≡ true = grind arith in
    rw (a, b, c, d) (ap (λ (k : ℕ). Some k) (omega arith))

date_of_text : (y m d : ℕ) → y < 10000 → m < 100 → d < 100 → date_at (date_text y m d) ≡ day_number y m d
date_of_text y m d h k l =
    let e : 100 * (y / 100) + y % 100 ≡ y = omega arith in
    rw (
      pair_two (y / 100) (omega (arith, h)),
      pair_two (y % 100) (omega arith),
      pair_two m k,
      pair_two d l,
    ) (ap (λ (z : ℕ). day_number z m d) e)

-- what the text of a date gives
pub plain_is : (text : List ℕ) (d : ℤ) → IsDay d → IsPlainDate text d → date_at text ≡ Some d
plain_is text d day p =
    let range = year_range d (pos p.year) p.month p.day day p.has in
    let short = days_in_month_bounds (pos p.year) p.month in
    let has = p.has.0 in
    let small : p.year < 10000 = omega (arith, signed_arith, range) in
    let t = date_of_text p.year p.month p.day small (omega (arith, has)) (omega (arith, has, short)) in
    let n = day_is (Some d) p.year p.month p.day (pos p.year) refl small p.has day tt in
    ap date_at p.is ∙ t ∙ sym n

nat_some : (m n : ℕ) → Some m ≡ Some n → m ≡ n
nat_some m n e = cc

two_of : (a b n : ℕ) → digit_pair a b ≡ Some n → (n < 100) × (two_digits n ≡ a ∷ b ∷ [])
two_of a b n e = elim (cases_Bool (is_digit a && is_digit b)) [
  | inl t ↦
      let p = both_true (is_digit a) (is_digit b) t in
      let q = both_true (nat_le 48 a) (nat_le a 57) p.0 in
      let r = both_true (nat_le 48 b) (nat_le b 57) p.1 in
      let k : 10 * (a - 48) + (b - 48) ≡ n = nat_some (10 * (a - 48) + (b - 48)) n (rw t at e) in
      let low : 48 ≤ a = grind (arith, nat_tests, q.0) in
      let high : a ≤ 57 = grind (arith, nat_tests, q.1) in
      let low₂ : 48 ≤ b = grind (arith, nat_tests, r.0) in
      let high₂ : b ≤ 57 = grind (arith, nat_tests, r.1) in
      let tens : 48 + n / 10 ≡ a = omega (arith, k, low, high, low₂, high₂) in
      let ones : 48 + n % 10 ≡ b = omega (arith, k, low, high, low₂, high₂) in
      (omega (arith, k, low, high, low₂, high₂), rw (tens, ones) refl)
  | inr f ↦ absurd (none_some n (rw f at e))
]
  where
    none_some : (n : ℕ) → None ≡ Some n → ⊥
    none_some n e = cc

-- the parts of a date that is there
record AreThere (a b c e : Option ℕ) (d : ℤ) : Type 0 where
  pub century : ℕ
  pub year : ℕ
  pub month : ℕ
  pub day : ℕ
  pub is_century : a ≡ Some century
  pub is_year : b ≡ Some year
  pub is_month : c ≡ Some month
  pub is_day : e ≡ Some day
  pub is : day_number (100 * century + year) month day ≡ Some d

parts_there : (a b c e : Option ℕ) (d : ℤ) → date_of_parts a b c e ≡ Some d → AreThere a b c e d
parts_there (Some w) (Some x) (Some y) (Some z) d h =
    record {
      century = w;
      year = x;
      month = y;
      day = z;
      is_century = refl;
      is_year = refl;
      is_month = refl;
      is_day =
          refl;
      is = h;
    }
parts_there (Some w) (Some x) (Some y) None d h = absurd cc
parts_there (Some w) (Some x) None e d h = absurd cc
parts_there (Some w) None c e d h = absurd cc
parts_there None b c e d h = absurd cc

day_there : (y m d : ℕ) (x : ℤ) → y < 10000 → day_number y m d ≡ Some x → IsDay x × HasDate x (pos y) m d
day_there y m d x small e = elim (cases_Bool (is_civil y m d && is_in_range (days_from_civil (pos y) m d))) [
  | inl t ↦
      let b = both_true (is_civil y m d) (is_in_range (days_from_civil (pos y) m d)) t in
      let same : days_from_civil (pos y) m d ≡ x = int_some (days_from_civil (pos y) m d) x (rw t at e) in
      (subst IsDay same (range_is_true (days_from_civil (pos y) m d) b.1), (civil_is_true y m d small b.0, sym same))
  | inr f ↦ absurd (none_some x (rw f at e))
]
  where
    int_some : (m n : ℤ) → Some m ≡ Some n → m ≡ n
    int_some m n e = cc

    none_some : (n : ℤ) → None ≡ Some n → ⊥
    none_some n e = cc

-- and a text that gives a day is that of its date
pub is_plain : (text : List ℕ) (d : ℤ) → date_at text ≡ Some d → IsDay d × IsPlainDate text d
is_plain text d e =
    elim (cases_Bool ((length text == 10) && ((slice_index text 4 == 45) && (slice_index text 7 == 45)))) [
      | inl t ↦
          let b = both_true (length text == 10) ((slice_index text 4 == 45) && (slice_index text 7 == 45)) t in
          let c = both_true (slice_index text 4 == 45) (slice_index text 7 == 45) b.1 in
          let len : length text ≡ 10 = grind (arith, nat_tests, b.0) in
          let dash₁ : slice_index text 4 ≡ 45 = grind (arith, nat_tests, c.0) in
          let dash₂ : slice_index text 7 ≡ 45 = grind (arith, nat_tests, c.1) in
          let p = parts_there (digit_pair (slice_index text 0) (slice_index text 1))
          (digit_pair (slice_index text 2) (slice_index text 3)) (digit_pair (slice_index text 5) (slice_index text 6))
          (digit_pair (slice_index text 8) (slice_index text 9)) d (rw t at e) in
          let ce = two_of (slice_index text 0) (slice_index text 1) p.century p.is_century in
          let ye = two_of (slice_index text 2) (slice_index text 3) p.year p.is_year in
          let mo = two_of (slice_index text 5) (slice_index text 6) p.month p.is_month in
          let da = two_of (slice_index text 8) (slice_index text 9) p.day p.is_day in
          let small : 100 * p.century + p.year < 10000 = omega (arith, ce.0, ye.0) in
          let h = day_there (100 * p.century + p.year) p.month p.day d small p.is in
          let is = plain_text text p.century p.year p.month p.day len dash₁ dash₂ ce.1 ye.1 mo.1 da.1 ye.0 in
          (h.0, record { year = 100 * p.century + p.year; month = p.month; day = p.day; has = h.1; is = is })
      | inr f ↦ absurd (none_some d (rw f at e))
    ]
  where
    none_some : (n : ℤ) → None ≡ Some n → ⊥
    none_some n e = cc

-- a date that is read is the one that the text spells
pub some_plain : (text : List ℕ) (r : Option ℤ) → r ≡ date_at text → IfSome r (IsPlainDate text)
some_plain text None e = tt
some_plain text (Some d) e = (is_plain text d (sym e)).1

-- where none is read the text spells none
pub none_plain : (text : List ℕ) (r : Option ℤ) → r ≡ date_at text
    → IfNone r ((d : ℤ) → IsDay d → IsPlainDate text d → ⊥)
none_plain text None e = λ d day p. none_some d (e ∙ plain_is text d day p)
  where
    none_some : (n : ℤ) → None ≡ Some n → ⊥
    none_some n e = cc
none_plain text (Some d) e = tt
