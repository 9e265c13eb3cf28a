-- The text of each leaf is read back as its value.
use Rattle.irs_base.proofs.DecimalLemmas.{no_point}
use Rattle.irs_base.proofs.TextLemmas.{length_digit_row, with_point}
use Rattle.irs_base.proofs.VisibleTexts.{Visible, digits_behind, digits_visible, not_none, places_visible, plain}
use Rattle.irs_base.proofs.VisibleTexts.{row_digits, row_spells, spells_decimal}
use Rattle.irs_base.specs.Days.{IsDay}
use Rattle.irs_base.specs.Texts.{DecText, bare, minus, IsUnsigned, number_after, number_of, day_text, dec_text}
use Rattle.irs_base.specs.Texts.{digit_row, unsigned_dec, has_no_point}
use Rattle.irs_elements.proofs.DatesAt.{day_is}
use Rattle.irs_elements.proofs.DecimalsAt.{dec_is, fraction_exact, one_fraction}
use Rattle.irs_elements.proofs.Exact.{both_true, exact_same, true_both}
use Rattle.irs_elements.specs.Numbers.{IsFraction, fraction_at, amount_at, digits_of, is_whole_number, whole_at}
use Rattle.irs_elements.specs.Leaves.{currency_at, is_capital, is_currency, leaf_date_at}
use Rattle.irs_base.specs.Limits.{Rounded}
use Rattle.irs_base.specs.declared.rounding.Direction.TheVariants.{Nearest}
use Rattle.std.specs.List.{list_all}
use Rattle.std.proofs.lemmas.List.{take_all}
use Rattle.irs_elements.specs.Elements.{leaf_text_in}
use Rattle.irs_json.proofs.Trims.{front_stays, back_stays}
use Rattle.irs_json.specs.Leaves.{is_white_space, trim, trim_back}
use Rattle.irs_json.specs.Private.Trim.{NoSpaceFirst, NoSpaceLast}
use Rattle.jiff_core.proofs.SignedLemmas.{signed_arith}
use Rattle.serde_json.specs.Data.{string}
use Rattle.std.proofs.Common.{◌≡◌, inl, inr, ℕ, zero, suc, ◌+◌, ◌-◌, ◌*◌, ◌/◌, ◌^◌, ◌<◌, ◌≤◌, List, [], ◌∷◌, ◌++◌}
use Rattle.std.proofs.Common.{length, Bool, true, false, nat_le, ◌==◌, ◌||◌, if◌then◌else◌, take, ℤ, pos, negsuc, ◌*ℤ◌}
use Rattle.std.proofs.Common.{unsigned_abs, Some, refl, sym, ap, ◌∙◌, subst, arith, append-nil}
use Rattle.std.proofs.Math.Nat.{mul_assoc}
use Rattle.std.proofs.lemmas.Bool.Decides.{nat_tests}
use Rattle.std.proofs.lemmas.Fmt.{decimal_nonempty, length-decimal-le}
use Rattle.std.proofs.lemmas.Nat.{pow-add}
use Rattle.std.specs.Fmt.{decimal, signed_decimal}

-- ---- texts without white space

no_space : (x : ℕ) → 33 ≤ x → is_white_space x ≡ false
no_space x h = grind (arith, nat_tests)

last_visible : (rest : List ℕ) (x : ℕ) → Visible (rest ++ x ∷ []) → 33 ≤ x
last_visible [] x h = h.0
last_visible (y ∷ rest) x h = last_visible rest x h.1

first_of : (s : List ℕ) → Visible s → NoSpaceFirst s
first_of s h x rest e = no_space x ((subst Visible e h).0)

last_of : (s : List ℕ) → Visible s → NoSpaceLast s
last_of s h x rest e = no_space x (last_visible rest x (subst Visible e h))

-- nothing is trimmed
pub trimmed : (s : List ℕ) → Visible s → trim s ≡ s
trimmed s h = ap trim_back (front_stays s (first_of s h)) ∙ back_stays s (last_of s h)

-- a string without white space is read as its text
pub visible_text : (s : List ℕ) → Visible s → leaf_text_in (Some (string s)) ≡ Some s
visible_text s h = ap Some (ap trim_back (front_stays s (first_of s h)) ∙ back_stays s (last_of s h))

-- ---- dates

-- a date is read back as its day
pub day_back : (d : ℤ) → IsDay d → leaf_date_at (day_text d) ≡ Some d
day_back d day = sym (day_is (day_text d) (Some d) (day, inl (plain d day)) tt)

-- ---- decimals

small : (n : ℕ) → n < 10 ^ 18 → n < 2 ^ 64
small n h = omega arith

whole_short : (n : ℕ) → n < 10 ^ 18 → length (decimal n) ≤ 18
whole_short n h = length-decimal-le 18 n (omega arith) h (small n h)

scaled : (n p : ℕ) → p ≤ 12 → n * 10 ^ (12 - p) * 10 ^ p ≡ n * 10 ^ 12
scaled n p h =
    let e : 10 ^ (12 - p) * 10 ^ p ≡ 10 ^ (12 - p + p) = sym (pow-add 10 (12 - p) p) in
    let t : 12 - p + p ≡ 12 = omega arith in
    mul_assoc n (10 ^ (12 - p)) (10 ^ p) ∙ ap (λ m. n * m) (e ∙ ap (λ k. 10 ^ k) t)

some_digit : (a b : ℕ) → 0 < a → 0 < a + b
some_digit a b h = omega (arith, h)

whole_value : (n : ℕ) → n < 10 ^ 18 → n * 10 ^ 12 * 10 ^ 0 ≡ number_of (decimal n ++ []) * 10 ^ 12
whole_value n h = let e : number_of (decimal n ++ []) ≡ n =
    ap number_of (append-nil (decimal n)) ∙ (spells_decimal n (small n h)).1 in omega (arith, e)

whole_unsigned : (n : ℕ) → n < 10 ^ 18 → IsUnsigned (decimal n) 12 (n * 10 ^ 12)
whole_unsigned n h = record {
  whole = decimal n;
  fraction = [];
  whole_digits = (spells_decimal n (small n h)).0;
  fraction_digits = tt;
  some = some_digit (length (decimal n)) 0 (decimal_nonempty n (small n h));
  short = whole_short n h;
  is = inl (refl, refl);
  value = whole_value n h;
}

pointed_unsigned : (n k : ℕ) → suc k ≤ 12 → n / 10 ^ suc k < 10 ^ 18
    → IsUnsigned (unsigned_dec n (suc k)) 12 (n * 10 ^ (12 - suc k))
pointed_unsigned n k l h =
    let a = n / 10 ^ suc k in
    let row = digit_row (suc k) n in
    let len : length row ≡ suc k = length_digit_row (suc k) n in
    let spelled : number_of (decimal a ++ row) ≡ n =
    digits_behind 0 (decimal a) row ∙ ap (λ m. number_after m row) (spells_decimal a (small a h)).1
    ∙ row_spells (suc k) n in
    record {
      whole = decimal a;
      fraction = row;
      whole_digits = (spells_decimal a (small a h)).0;
      fraction_digits = row_digits (suc k) n;
      some = some_digit (length (decimal a)) (length row) (decimal_nonempty a (small a h));
      short = whole_short a h;
      is = inr (with_point n (suc k) (not_none k));
      value = ap (λ m. n * 10 ^ (12 - suc k) * 10 ^ m) len ∙ scaled n (suc k) l ∙ ap (λ m. m * 10 ^ 12) (sym spelled);
    }

unsigned_back : (n p : ℕ) → p ≤ 12 → n / 10 ^ p < 10 ^ 18 → IsUnsigned (unsigned_dec n p) 12 (n * 10 ^ (12 - p))
unsigned_back n zero l h = whole_unsigned n (omega (arith, h))
unsigned_back n (suc k) l h = pointed_unsigned n k l h

dec_spelled : (z : ℤ) (p : ℕ) → p ≤ 12 → unsigned_abs z / 10 ^ p < 10 ^ 18
    → DecText (dec_text z p) 12 (z *ℤ pos (10 ^ (12 - p)))
dec_spelled (pos n) p l h = bare (unsigned_dec n p) 12 (n * 10 ^ (12 - p)) (unsigned_back n p l h)
dec_spelled (negsuc n) p l h = minus (unsigned_dec (suc n) p) 12 (suc n * 10 ^ (12 - p)) (unsigned_back (suc n) p l h)

-- a decimal with few digits before its point is read back as its value
pub number_back : (z : ℤ) (p : ℕ) → p ≤ 12 → unsigned_abs z / 10 ^ p < 10 ^ 18
    → amount_at (dec_text z p) ≡ Some (z *ℤ pos (10 ^ (12 - p)))
number_back z p l h = sym (dec_is (dec_text z p) 12 (Some (z *ℤ pos (10 ^ (12 - p)))) (dec_spelled z p l h) tt)

unsigned_visible : (n p : ℕ) → n / 10 ^ p < 10 ^ 18 → Visible (unsigned_dec n p)
unsigned_visible n zero h = let s : n < 10 ^ 18 = omega (arith, h) in
    digits_visible (decimal n) (spells_decimal n (small n s)).0
unsigned_visible n (suc k) h = places_visible n k h

-- the text of a number has no white space
pub number_visible : (z : ℤ) (p : ℕ) → unsigned_abs z / 10 ^ p < 10 ^ 18 → Visible (dec_text z p)
number_visible (pos n) p h = unsigned_visible n p h
number_visible (negsuc n) p h = (omega arith, unsigned_visible (suc n) p h)

-- ---- whole numbers

whole_spelled_by : (n : ℕ) → n < 10 ^ 9 → IsUnsigned (decimal n) 0 n
whole_spelled_by n h = record {
  whole = decimal n;
  fraction = [];
  whole_digits = (spells_decimal n (omega arith)).0;
  fraction_digits = tt;
  some = some_digit (length (decimal n)) 0 (decimal_nonempty n (omega arith));
  short = whole_short n (omega arith);
  is = inl (refl, refl);
  value = let e : number_of (decimal n ++ []) ≡ n =
      ap number_of (append-nil (decimal n)) ∙ (spells_decimal n (omega arith)).1 in omega (arith, e);
}

nine_digits : (n : ℕ) → n < 10 ^ 9 → length (decimal n) ≤ 9
nine_digits n h = length-decimal-le 9 n (omega arith) h (omega arith)

sign_left : (c : ℕ) (cs : List ℕ) (b : Bool) → length (if b then cs else c ∷ cs) ≤ length (c ∷ cs)
sign_left c cs true = omega arith
sign_left c cs false = omega arith

no_longer : (s : List ℕ) → length (digits_of s) ≤ length s
no_longer [] = omega arith
no_longer (c ∷ cs) = sign_left c cs ((c == 43) || (c == 45))

is_nine : (n : ℕ) → n ≤ 9 → nat_le n 9 ≡ true
is_nine n h = grind (arith, nat_tests)

whole_pos : (n : ℕ) → n < 10 ^ 9 → is_whole_number (decimal n) ≡ true
whole_pos n h = let l = no_longer (decimal n) in
    true_both (nat_le (length (digits_of (decimal n))) 9) (has_no_point (decimal n))
    (is_nine (length (digits_of (decimal n))) (omega (arith, l, nine_digits n h)))
    (no_point (decimal n) (spells_decimal n (omega arith)).0)

whole_neg : (n : ℕ) → n < 10 ^ 9 → is_whole_number (45 ∷ decimal n) ≡ true
whole_neg n h =
    true_both (nat_le (length (decimal n)) 9) (has_no_point (decimal n))
    (is_nine (length (decimal n)) (nine_digits n h)) (no_point (decimal n) (spells_decimal n (omega arith)).0)

-- a number below 10^9 in size is read back
pub count_back : (z : ℤ) → unsigned_abs z < 10 ^ 9 → whole_at (signed_decimal z) ≡ Some z
count_back (pos n) h =
    rw (whole_pos n h) (sym (dec_is (decimal n) 0 (Some (pos n)) (bare (decimal n) 0 n (whole_spelled_by n h)) tt))
count_back (negsuc n) h =
    rw (whole_neg (suc n) h)
    (sym (dec_is (45 ∷ decimal (suc n)) 0 (Some (negsuc n))
    (minus (decimal (suc n)) 0 (suc n) (whole_spelled_by (suc n) h)) tt))

-- the text of a number of days has no white space
pub count_visible : (z : ℤ) → unsigned_abs z < 10 ^ 9 → Visible (signed_decimal z)
count_visible (pos n) h = digits_visible (decimal n) (spells_decimal n (omega arith)).0
count_visible (negsuc n) h = (omega arith, digits_visible (decimal (suc n)) (spells_decimal (suc n) (omega arith)).0)

-- ---- fractions

exactly : (n a b : ℕ) → a ≡ n → b ≡ 10 → Rounded Nearest (pos (a * 10 ^ 10)) (pos (10 ^ b)) (pos n)
exactly n a b e f = rw (e, f) (omega (arith, signed_arith), omega (arith, signed_arith))

fraction_spelled : (n : ℕ) → n / 10 ^ 10 < 10 ^ 18
    → IsFraction (unsigned_dec n 10) (record { units = pos n; places = 10 })
fraction_spelled n h =
    let a = n / 10 ^ 10 in
    let row = digit_row 10 n in
    let len : length row ≡ 10 = length_digit_row 10 n in
    let all : take 12 row ≡ row = take_all 12 row (omega (arith, len)) in
    let spelled : number_of (decimal a ++ row) ≡ n =
    digits_behind 0 (decimal a) row ∙ ap (λ m. number_after m row) (spells_decimal a (small a h)).1
    ∙ row_spells 10 n in
    record {
      whole = decimal a;
      fraction = row;
      parts = (
        (spells_decimal a (small a h)).0,
        row_digits 10 n,
        some_digit (length (decimal a)) (length row) (decimal_nonempty a (small a h)),
        whole_short a h,
      );
      is = inr (with_point n 10 (not_none 9));
      places = sym (ap length all ∙ len);
      value = exactly n (number_of (decimal a ++ row)) (length row) spelled len;
    }

-- a fraction that isn't negative is read back
pub fraction_back : (n : ℕ) → n / 10 ^ 10 < 10 ^ 18
    → fraction_at (dec_text (pos n) 10) ≡ Some (record { units = pos n; places = 10 })
fraction_back n h = let s = unsigned_dec n 10 in
    sym (exact_same (IsFraction s) (fraction_at s) (Some (record { units = pos n; places = 10 })) (one_fraction s)
    (fraction_exact s) (fraction_spelled n h))

-- ---- currencies

capitals_visible : (s : List ℕ) → list_all is_capital s ≡ true → Visible s
capitals_visible [] h = tt
capitals_visible (c ∷ cs) h = let b = both_true (is_capital c) (list_all is_capital cs) h in
    (capital_visible c b.0, capitals_visible cs b.1)
  where
    capital_visible : (c : ℕ) → is_capital c ≡ true → 33 ≤ c
    capital_visible c e = grind (arith, nat_tests)

-- the text of a currency has no white space
pub currency_visible : (s : List ℕ) → is_currency s ≡ true → Visible s
currency_visible s h = capitals_visible s (both_true (length s == 3) (list_all is_capital s) h).1

-- the text of a currency is read back as the currency
pub currency_back : (s : List ℕ) → is_currency s ≡ true → currency_at s ≡ Some (record { letters = s })
currency_back s h = rw h refl
