-- The days by months of 30 are from 0 to 366 times the days.
use Rattle.std.proofs.Common.{◌≡◌, ℕ, zero, suc, ◌+◌, ◌-◌, ◌*◌, ◌<◌, ◌≤◌, inl, inr, Bool, true, false, if◌then◌else◌}
use Rattle.std.proofs.Common.{◌==◌, ◌&&◌, ◌||◌, not, ℤ, pos, ◌+ℤ◌, ◌-ℤ◌, ◌*ℤ◌, ◌≤ℤ◌, ◌<ℤ◌, arith, refl, ap, ◌∙◌}
use Rattle.std.proofs.lemmas.Bool.{cases_lt}
use Rattle.std.proofs.lemmas.Bool.Decides.{nat_tests}
use Rattle.jiff_core.proofs.SignedLemmas.{signed_arith}
use Rattle.irs_base.specs.Days.{dim, month_start, IsDay, HasDate, year_of, month_of, day_of_month}
use Rattle.irs_base.proofs.MonthLemmas.{dim_bounds, month_start-next, month_start-later, days_from_civil-month}
use Rattle.irs_base.proofs.MonthLemmas.{dim-civil}
use Rattle.irs_base.proofs.DateWalks.{date_of_day}
use Rattle.jiff_core.specs.Calendar.{days_in_month}
use Rattle.jiff_core.proofs.CalendarLemmas.{days_in_month_bounds}
use Rattle.irs_daycount.specs.Fractions.{date_of, bond_days, euro_days, isda_days}

-- k months later begins at least 28 days for each month later
rises : (j k : ℕ) → (month_start (pos j) +ℤ pos (28 * k)) ≤ℤ month_start (pos (j + k))
rises j zero = let e : pos (j + 0) ≡ pos j = ap pos (omega arith) in let f = ap month_start e in
    omega (arith, signed_arith, f)
rises j (suc k) =
    let h = rises j k in
    let n = month_start-next (pos (j + k)) in
    let e : pos (j + suc k) ≡ pos (j + k) +ℤ pos 1 = omega (arith, signed_arith) in
    let f = ap month_start e in
    let b = dim_bounds (pos (j + k)) in
    omega (arith, signed_arith, h, n, f, b)

-- two days in the months j and k, with their day numbers, and the numbers that take part in the count
pub record Counted (s e : ℤ) (j k first second used_first used_second : ℕ) : Type 0 where
  pub first_is : s +ℤ pos 1 ≡ month_start (pos j) +ℤ pos first
  pub second_is : e +ℤ pos 1 ≡ month_start (pos k) +ℤ pos second
  pub first_in : (1 ≤ first) × (first ≤ dim (pos j))
  pub second_in : (1 ≤ second) × (second ≤ dim (pos k))
  pub used : (used_first ≤ 30) × (1 ≤ used_second) × (used_second ≤ 31)
  pub grows : j ≡ k → first < second → used_first ≤ used_second

-- a count by months of 30 days is from 0 to 366 times the actual days
pub within : (s e : ℤ) (j k m n f g : ℕ) (num : ℤ) → s <ℤ e → Counted s e j k m n f g
    → num ≡ pos 30 *ℤ (pos k -ℤ pos j) +ℤ (pos g -ℤ pos f) → (pos 0 ≤ℤ num) × (num ≤ℤ (pos 366 *ℤ (e -ℤ s)))
within s e j k m n f g num h c is = elim (cases_lt j k) [
  | inl less ↦
      let later : k ≡ j + 1 + (k - (j + 1)) = omega (arith, less) in
      let r = rises (j + 1) (k - (j + 1)) in
      let a = ap (λ (x : ℕ). month_start (pos x)) later in
      let x : pos (j + 1) ≡ pos j +ℤ pos 1 = omega (arith, signed_arith) in
      let b = month_start-next (pos j) in
      let y = ap month_start x in (
        omega (arith, signed_arith, is, c.used, less),
        omega (arith, signed_arith, is, c.used, less, r, a, b, y, c.first_is, c.second_is, c.first_in, c.second_in),
      )
  | inr k_first ↦ elim (cases_lt k j) [
    | inl more ↦
        let l = month_start-later (pos k) (pos j) (omega (arith, signed_arith, more)) in
        absurd (omega (arith, signed_arith, h, l, c.first_is, c.second_is, c.first_in, c.second_in))
    | inr j_first ↦
        let same : j ≡ k = omega (arith, k_first, j_first) in
        let a = ap (λ (x : ℕ). month_start (pos x)) same in
        let less : m < n = omega (arith, signed_arith, h, a, c.first_is, c.second_is) in
        let u = c.grows same less in (
          omega (arith, signed_arith, is, same, u),
          omega (arith, signed_arith, is, same, u, c.used, less, a, c.first_is, c.second_is),
        )
  ]
]

-- the tests of a day number
not_last : (d : ℕ) → d ≤ 31 → (d == 31) ≡ false → d ≤ 30
not_last d h t = grind (arith, nat_tests, h, t)

last_is : (d : ℕ) → (d == 31) ≡ true → 31 ≤ d
last_is d t = grind (arith, nat_tests, t)

same_length : (d n : ℕ) → (d == n) ≡ true → n ≤ d
same_length d n t = grind (arith, nat_tests, t)

month_end : (a b c : Bool) (d long : ℕ) → (a ≡ true → long ≤ d) → (c ≡ true → long ≤ d) → (a || (b && c)) ≡ true
    → long ≤ d
month_end true b c d long h k e = h refl
month_end false true c d long h k e = k e
month_end false false c d long h k e = cc

or_false : (a b : Bool) → (a || b) ≡ false → a ≡ false
or_false true b e = e
or_false false b e = refl

small_first : (a b : Bool) (d : ℕ) → d ≤ 31 → (a ≡ false → d ≤ 30) → (if a || b then 30 else d) ≤ 30
small_first true b d h k = omega arith
small_first false true d h k = omega arith
small_first false false d h k = k refl

second_bounds : (t : Bool) (d : ℕ) → 1 ≤ d → d ≤ 31 → (1 ≤ (if t then 30 else d)) × ((if t then 30 else d) ≤ 31)
second_bounds true d h k = (omega arith, omega arith)
second_bounds false d h k = (h, k)

grows_isda : (t u : Bool) (c d long : ℕ) → (t ≡ true → long ≤ c) → c < d → d ≤ long → long ≤ 31
    → (if t then 30 else c) ≤ (if u then 30 else d)
grows_isda true u c d long h less high top = absurd (omega (arith, h refl, less, high))
grows_isda false true c d long h less high top = omega (arith, less, high, top)
grows_isda false false c d long h less high top = omega (arith, less)

-- the numerator is from 0 to 366 times the actual days
abbrev pub Bounded : ℤ → ℤ → ℤ → Type 0
Bounded s e num = (pos 0 ≤ℤ num) × (num ≤ℤ (pos 366 *ℤ (e -ℤ s)))

from_dates : (s e : ℤ) (y₁ m₁ d₁ y₂ m₂ d₂ f g : ℕ) → s <ℤ e → HasDate s (pos y₁) m₁ d₁ → HasDate e (pos y₂) m₂ d₂
    → (f ≤ 30) × (1 ≤ g) × (g ≤ 31) → (y₁ ≡ y₂ → m₁ ≡ m₂ → d₁ < d₂ → f ≤ g)
    → Bounded s e (pos 360 *ℤ (pos y₂ -ℤ pos y₁) +ℤ pos 30 *ℤ (pos m₂ -ℤ pos m₁) +ℤ (pos g -ℤ pos f))
from_dates s e y₁ m₁ d₁ y₂ m₂ d₂ f g h a b used grows =
    let p = days_from_civil-month y₁ m₁ d₁ a.0.1.0 a.0.1.1 a.0.2.0 in
    let q = days_from_civil-month y₂ m₂ d₂ b.0.1.0 b.0.1.1 b.0.2.0 in
    let u = dim-civil y₁ m₁ a.0.1.0 a.0.1.1 in
    let v = dim-civil y₂ m₂ b.0.1.0 b.0.1.1 in
    let c : Counted s e (12 * y₁ + (m₁ - 1)) (12 * y₂ + (m₂ - 1)) d₁ d₂ f g = record {
      first_is = omega (arith, signed_arith, p, a.1);
      second_is = omega (arith, signed_arith, q, b.1);
      first_in = (a.0.2.0, omega (arith, u, a.0.2.1));
      second_in = (b.0.2.0, omega (arith, v, b.0.2.1));
      used = used;
      grows = λ same less. grows (omega (arith, same, a.0.1, b.0.1)) (omega (arith, same, a.0.1, b.0.1)) less;
    } in
    within s e (12 * y₁ + (m₁ - 1)) (12 * y₂ + (m₂ - 1)) d₁ d₂ f g _ h c (omega (arith, signed_arith, a.0.1, b.0.1))

isda_dates : (s e : ℤ) (y₁ m₁ d₁ y₂ m₂ d₂ : ℕ) (last : Bool) → s <ℤ e → HasDate s (pos y₁) m₁ d₁
    → HasDate e (pos y₂) m₂ d₂
    → Bounded s e (isda_days (record { year = pos y₁; month = m₁; day = d₁ })
    (record { year = pos y₂; month = m₂; day = d₂ }) last)
isda_dates s e y₁ m₁ d₁ y₂ m₂ d₂ last h a b =
    let long₁ = days_in_month_bounds (pos y₁) m₁ in
    let long₂ = days_in_month_bounds (pos y₂) m₂ in
    let t = (d₁ == 31) || ((m₁ == 2) && (d₁ == days_in_month (pos y₁) m₁)) in
    let u = (d₂ == 31) || (((m₂ == 2) && (d₂ == days_in_month (pos y₂) m₂)) && not last) in
    let top₁ : d₁ ≤ 31 = omega (arith, a.0.2, long₁) in
    let top₂ : d₂ ≤ 31 = omega (arith, b.0.2, long₂) in
    let ends : t ≡ true → days_in_month (pos y₁) m₁ ≤ d₁ =
    month_end (d₁ == 31) (m₁ == 2) (d₁ == days_in_month (pos y₁) m₁) d₁ (days_in_month (pos y₁) m₁)
    (λ x. omega (arith, last_is d₁ x, long₁)) (λ x. same_length d₁ (days_in_month (pos y₁) m₁) x) in
    from_dates s e y₁ m₁ d₁ y₂ m₂ d₂ (if t then 30 else d₁) (if u then 30 else d₂) h a b (
      small_first (d₁ == 31) ((m₁ == 2) && (d₁ == days_in_month (pos y₁) m₁)) d₁ top₁ (not_last d₁ top₁),
      (second_bounds u d₂ b.0.2.0 top₂).0,
      (second_bounds u d₂ b.0.2.0 top₂).1,
    )
    (λ same_year same_month less.
    let same : days_in_month (pos y₁) m₁ ≡ days_in_month (pos y₂) m₂ =
    ap (λ (y : ℕ). days_in_month (pos y) m₁) same_year ∙ ap (λ (m : ℕ). days_in_month (pos y₂) m) same_month in
    grows_isda t u d₁ d₂ (days_in_month (pos y₁) m₁) ends less (omega (arith, b.0.2.1, same)) long₁.0)

-- the days of 30E/360.ISDA are so bounded
pub isda_bounded : (s e : ℤ) (last : Bool) → IsDay s → IsDay e → s <ℤ e
    → Bounded s e (isda_days (date_of s) (date_of e) last)
isda_bounded s e last a b h =
    isda_dates s e (year_of s) (month_of s) (day_of_month s) (year_of e) (month_of e) (day_of_month e) last h
    (date_of_day s a) (date_of_day e b)

small_plain : (t : Bool) (d : ℕ) → (t ≡ false → d ≤ 30) → (if t then 30 else d) ≤ 30
small_plain true d k = omega arith
small_plain false d k = k refl

-- 30E/360: a first day 31 has no later day in its month
e_dates : (s e : ℤ) (y₁ m₁ d₁ y₂ m₂ d₂ : ℕ) → s <ℤ e → HasDate s (pos y₁) m₁ d₁ → HasDate e (pos y₂) m₂ d₂
    → Bounded s e (euro_days (record { year = pos y₁; month = m₁; day = d₁ })
    (record { year = pos y₂; month = m₂; day = d₂ }))
e_dates s e y₁ m₁ d₁ y₂ m₂ d₂ h a b =
    let long₁ = days_in_month_bounds (pos y₁) m₁ in
    let long₂ = days_in_month_bounds (pos y₂) m₂ in
    let top₁ : d₁ ≤ 31 = omega (arith, a.0.2, long₁) in
    let top₂ : d₂ ≤ 31 = omega (arith, b.0.2, long₂) in
    from_dates s e y₁ m₁ d₁ y₂ m₂ d₂ (if d₁ == 31 then 30 else d₁) (if d₂ == 31 then 30 else d₂) h a b (
      small_plain (d₁ == 31) d₁ (not_last d₁ top₁),
      (second_bounds (d₂ == 31) d₂ b.0.2.0 top₂).0,
      (second_bounds (d₂ == 31) d₂ b.0.2.0 top₂).1,
    )
    (λ same_year same_month less. grows_isda (d₁ == 31) (d₂ == 31) d₁ d₂ 31 (λ x. last_is d₁ x) less top₂ (omega arith))

us_dates : (s e : ℤ) (y₁ m₁ d₁ y₂ m₂ d₂ : ℕ) → s <ℤ e → HasDate s (pos y₁) m₁ d₁ → HasDate e (pos y₂) m₂ d₂
    → Bounded s e (bond_days (record { year = pos y₁; month = m₁; day = d₁ })
    (record { year = pos y₂; month = m₂; day = d₂ }))
us_dates s e y₁ m₁ d₁ y₂ m₂ d₂ h a b =
    let long₁ = days_in_month_bounds (pos y₁) m₁ in
    let long₂ = days_in_month_bounds (pos y₂) m₂ in
    let top₁ : d₁ ≤ 31 = omega (arith, a.0.2, long₁) in
    let top₂ : d₂ ≤ 31 = omega (arith, b.0.2, long₂) in
    let f = if d₁ == 31 then 30 else d₁ in
    let t = (d₂ == 31) && (f == 30) in
    from_dates s e y₁ m₁ d₁ y₂ m₂ d₂ f (if t then 30 else d₂) h a b (
      small_plain (d₁ == 31) d₁ (not_last d₁ top₁),
      (second_bounds t d₂ b.0.2.0 top₂).0,
      (second_bounds t d₂ b.0.2.0 top₂).1,
    )
    (λ same_year same_month less. grows_isda (d₁ == 31) t d₁ d₂ 31 (λ x. last_is d₁ x) less top₂ (omega arith))

-- the days of 30E/360 are so bounded
pub e_bounded : (s e : ℤ) → IsDay s → IsDay e → s <ℤ e → Bounded s e (euro_days (date_of s) (date_of e))
e_bounded s e a b h =
    e_dates s e (year_of s) (month_of s) (day_of_month s) (year_of e) (month_of e) (day_of_month e) h (date_of_day s a)
    (date_of_day e b)

-- the days of 30/360 are so bounded
pub us_bounded : (s e : ℤ) → IsDay s → IsDay e → s <ℤ e → Bounded s e (bond_days (date_of s) (date_of e))
us_bounded s e a b h =
    us_dates s e (year_of s) (month_of s) (day_of_month s) (year_of e) (month_of e) (day_of_month e) h (date_of_day s a)
    (date_of_day e b)
