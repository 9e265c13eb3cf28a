-- The texts of days and numbers: no byte of them is a space or a tab, and what their digits spell.
use Rattle.std.proofs.Common.{◌≡◌, ◌≢◌, ℕ, zero, suc, ◌+◌, ◌-◌, ◌*◌, ◌/◌, ◌%◌, ◌^◌, ◌<◌, ◌≤◌, List, [], ◌∷◌, ◌++◌, ℤ}
use Rattle.std.proofs.Common.{refl, sym, subst, ap, ◌∙◌, arith}
use Rattle.std.proofs.Math.Nat.{div-div-eq-div-mul, pow-succ'}
use Rattle.std.proofs.lemmas.Fmt.{decimal_by_steps}
use Rattle.std.specs.Fmt.{decimal}
use Rattle.irs_base.proofs.DateWalks.{date_of_day}
use Rattle.irs_base.proofs.TextLemmas.{with_point}
use Rattle.irs_base.specs.Days.{year_of, month_of, day_of_month, IsDay}
use Rattle.irs_base.specs.Texts.{AreDigits, number_after, number_of, IsPlainDate, day_text, digit_row, two_digits}
use Rattle.irs_base.specs.Texts.{unsigned_dec}

-- each byte is above the space
abbrev pub Visible : List ℕ → Type 0
Visible [] = Unit {0}
Visible (x ∷ xs) = (33 ≤ x) × Visible xs

-- visible texts are visible together
pub visible_append : (a b : List ℕ) → Visible a → Visible b → Visible (a ++ b)
visible_append [] b h k = k
visible_append (x ∷ a) b h k = (h.0, visible_append a b h.1 k)

-- ---- days

-- two digits are visible
pub two_visible : (n : ℕ) → Visible (two_digits n)
two_visible n = (omega arith, (omega arith, tt))

-- a date is visible
pub day_visible : (d : ℤ) → Visible (day_text d)
unfolding day_text
day_visible d =
    let y = year_of d in
    let m = month_of d in
    let t = day_of_month d in
    let dash : 33 ≤ 45 = omega arith in
    let day : Visible (45 ∷ two_digits t) = (dash, two_visible t) in
    let month : Visible (45 ∷ (two_digits m ++ 45 ∷ two_digits t)) =
    (dash, visible_append (two_digits m) (45 ∷ two_digits t) (two_visible m) day) in
    let rest = 45 ∷ (two_digits m ++ 45 ∷ two_digits t) in
    visible_append (two_digits (y / 100)) (two_digits (y % 100) ++ rest) (two_visible (y / 100))
    (visible_append (two_digits (y % 100)) rest (two_visible (y % 100)) month)

-- the text of a day is a date of it
pub plain : (d : ℤ) → IsDay d → IsPlainDate (day_text d) d
unfolding day_text
plain d day = record { year = year_of d; month = month_of d; day = day_of_month d; has = date_of_day d day; is = refl }

-- ---- digits

-- digits are visible
pub digits_visible : (s : List ℕ) → AreDigits s → Visible s
digits_visible [] h = tt
digits_visible (c ∷ cs) h = (omega (arith, h.0), digits_visible cs h.2)

-- digits after digits are digits
pub digits_append : (a b : List ℕ) → AreDigits a → AreDigits b → AreDigits (a ++ b)
digits_append [] b h k = k
digits_append (x ∷ a) b h k = (h.0, h.1, digits_append a b h.2 k)

-- digits after others
pub digits_behind : (n : ℕ) (a b : List ℕ) → number_after n (a ++ b) ≡ number_after (number_after n a) b
digits_behind n [] b = refl
digits_behind n (x ∷ a) b = digits_behind (10 * n + (x - 48)) a b

-- a digit is a digit
pub one_digit : (n : ℕ) → n < 10 → AreDigits ((48 + n) ∷ [])
one_digit n h = (omega arith, omega arith, tt)

-- the digits spell the number
abbrev pub IsSpelt : ℕ → List ℕ → Type 0
IsSpelt n ds = AreDigits ds × (number_of ds ≡ n)

spells_one : (n : ℕ) → n < 10 → IsSpelt n ((48 + n) ∷ [])
spells_one n h = (one_digit n h, omega arith)

one_more : (a n : ℕ) → a ≡ n / 10 → 10 * a + (48 + n % 10 - 48) ≡ n
one_more a n e = omega (arith, e)

spells_more : (n : ℕ) (ds : List ℕ) → 10 ≤ n → IsSpelt (n / 10) ds → IsSpelt n (ds ++ (48 + n % 10) ∷ [])
spells_more n ds l h = (
  digits_append ds ((48 + n % 10) ∷ []) h.0 (one_digit (n % 10) (omega arith)),
  digits_behind 0 ds ((48 + n % 10) ∷ []) ∙ one_more (number_of ds) n h.1,
)

-- a whole number's text spells it
pub spells_decimal : (n : ℕ) → n < 2 ^ 64 → IsSpelt n (decimal n)
spells_decimal n h = decimal_by_steps IsSpelt spells_one spells_more n h

-- a row of digits has digits alone
pub row_digits : (k n : ℕ) → AreDigits (digit_row k n)
row_digits zero n = tt
row_digits (suc k) n =
    digits_append (digit_row k (n / 10)) ((48 + n % 10) ∷ []) (row_digits k (n / 10)) (one_digit (n % 10) (omega arith))

-- after the digits of the whole part they spell the whole
pub row_spells : (k n : ℕ) → number_after (n / 10 ^ k) (digit_row k n) ≡ n
row_spells zero n = omega arith
row_spells (suc k) n =
    let up : n / 10 ^ suc k ≡ n / 10 / 10 ^ k =
    ap (λ m. n / m) (pow-succ' 10 k) ∙ sym (div-div-eq-div-mul n 10 (10 ^ k)) in
    let rest : number_after (n / 10 ^ suc k) (digit_row k (n / 10)) ≡ n / 10 =
    ap (λ m. number_after m (digit_row k (n / 10))) up ∙ row_spells k (n / 10) in
    digits_behind (n / 10 ^ suc k) (digit_row k (n / 10)) ((48 + n % 10) ∷ [])
    ∙ one_more (number_after (n / 10 ^ suc k) (digit_row k (n / 10))) n rest

-- the number after a number is not 0
pub not_none : (k : ℕ) → suc k ≢ 0
not_none k e = omega (arith, e)

-- a decimal with places whose whole part is short
pub places_visible : (n k : ℕ) → n / 10 ^ suc k < 10 ^ 18 → Visible (unsigned_dec n (suc k))
places_visible n k h =
    let a = n / 10 ^ suc k in
    let row : Visible (46 ∷ digit_row (suc k) n) =
    (omega arith, digits_visible (digit_row (suc k) n) (row_digits (suc k) n)) in
    subst Visible (sym (with_point n (suc k) (not_none k)))
    (visible_append (decimal a) (46 ∷ digit_row (suc k) n)
    (digits_visible (decimal a) (spells_decimal a (omega (arith, h))).0) row)
