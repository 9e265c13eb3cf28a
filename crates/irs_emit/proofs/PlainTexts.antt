-- The texts of leaves are of plain characters, so they are ASCII and need no escape.
use Rattle.std.proofs.Common.{◌≡◌, ℕ, zero, suc, ◌+◌, ◌/◌, ◌%◌, ◌^◌, ◌<◌, ◌≤◌, ◌==◌, Bool, true, false, List, [], ◌∷◌}
use Rattle.std.proofs.Common.{◌++◌}
use Rattle.std.proofs.Common.{if◌then◌else◌, ℤ, pos, negsuc, unsigned_abs, FitsSigned, refl, sym, ap, subst, ◌∙◌, arith}
use Rattle.std.proofs.Math.Nat.{div-le_self}
use Rattle.std.proofs.lemmas.Bool.Decides.{nat_tests}
use Rattle.std.proofs.lemmas.Fmt.{decimal_by_steps_wide}
use Rattle.std.proofs.lemmas.List.Elements.{All-head, All-tail}
use Rattle.std.proofs.lemmas.List.Folds.{list_all-append}
use Rattle.std.proofs.lemmas.Str.Ascii.{IsAscii-nil, IsAscii-cons}
use Rattle.std.specs.Fmt.{decimal, signed_decimal}
use Rattle.std.specs.Int.{w128}
use Rattle.std.specs.List.{All, list_all}
use Rattle.std.proofs.lemmas.Str.{IsUtf8-from_ascii, is_utf8-from_IsUtf8}
use Rattle.std.specs.Str.{IsAscii, is_utf8}
use Rattle.irs_base.proofs.DateWalks.{date_of_day}
use Rattle.irs_base.proofs.Dates.{year_range}
use Rattle.irs_base.proofs.TextLemmas.{with_point}
use Rattle.irs_base.proofs.TextLengths.{small_abs}
use Rattle.irs_base.proofs.VisibleTexts.{not_none}
use Rattle.irs_base.specs.Days.{year_of, month_of, day_of_month, IsDay}
use Rattle.irs_base.specs.Texts.{date_text, day_text, dec_text, digit_row, two_digits, unsigned_dec}
use Rattle.irs_elements.proofs.Exact.{both_true, true_both}
use Rattle.irs_emit.specs.Emitted.{utf8_or_empty}
use Rattle.irs_emit.specs.Private.Texts.{AreLeafChars, is_leaf_char}
use Rattle.irs_schedule.specs.Parts.{IsCode}
use Rattle.irs_terms.specs.declared.currency.Currency.{Currency}
use Rattle.jiff_core.proofs.CalendarLemmas.{days_in_month_bounds}
use Rattle.jiff_core.proofs.SignedLemmas.{signed_arith}
use Rattle.json.proofs.Printed.Strings.{escape_byte_plain}
use Rattle.json.specs.Print.{escape, escape_byte}

plain_append : (a b : List ℕ) → AreLeafChars a → AreLeafChars b → AreLeafChars (a ++ b)
plain_append a b h k = list_all-append is_leaf_char a b ∙ true_both (list_all is_leaf_char a) (list_all is_leaf_char b) h k

-- one more plain character in front
pub plain_cons : (c : ℕ) (cs : List ℕ) → is_leaf_char c ≡ true → AreLeafChars cs → AreLeafChars (c ∷ cs)
plain_cons c cs h k = true_both (is_leaf_char c) (list_all is_leaf_char cs) h k

-- a digit is plain
pub plain_digit : (d : ℕ) → d < 10 → is_leaf_char (48 + d) ≡ true
unfolding is_leaf_char
plain_digit d l = grind (arith, nat_tests)

plain_one : (n : ℕ) → n < 10 → AreLeafChars ((48 + n) ∷ [])
plain_one n l = plain_cons (48 + n) [] (plain_digit n l) refl

-- a whole number's digits are plain
pub decimal_plain : (n : ℕ) → n < 2 ^ 128 → AreLeafChars (decimal n)
decimal_plain n h =
    decimal_by_steps_wide (λ m ds. AreLeafChars ds) (λ m l. plain_one m l)
    (λ m ds l k. plain_append ds ((48 + m % 10) ∷ []) k (plain_one (m % 10) (omega arith))) n (omega arith)

-- ---- dates

dash : is_leaf_char 45 ≡ true
unfolding is_leaf_char
dash = refl

point : is_leaf_char 46 ≡ true
unfolding is_leaf_char
point = refl

two_plain : (n : ℕ) → n < 100 → AreLeafChars (two_digits n)
two_plain n l =
    plain_cons (48 + n / 10) ((48 + n % 10) ∷ []) (plain_digit (n / 10) (omega arith))
    (plain_one (n % 10) (omega arith))

date_plain : (y m d : ℕ) → y < 10000 → m < 100 → d < 100 → AreLeafChars (date_text y m d)
date_plain y m d a b c =
    let day = plain_cons 45 (two_digits d) dash (two_plain d c) in
    let month = plain_cons 45 (two_digits m ++ 45 ∷ two_digits d) dash
    (plain_append (two_digits m) (45 ∷ two_digits d) (two_plain m b) day) in
    let rest = 45 ∷ (two_digits m ++ 45 ∷ two_digits d) in
    let year = plain_append (two_digits (y % 100)) rest (two_plain (y % 100) (omega arith)) month in
    plain_append (two_digits (y / 100)) (two_digits (y % 100) ++ rest) (two_plain (y / 100) (omega arith)) year

-- the text of a day is plain
pub day_plain : (d : ℤ) → IsDay d → AreLeafChars (day_text d)
unfolding day_text
day_plain d day =
    let has = date_of_day d day in
    let range = year_range d (pos (year_of d)) (month_of d) (day_of_month d) day has in
    let short = days_in_month_bounds (pos (year_of d)) (month_of d) in
    let is = has.0 in
    date_plain (year_of d) (month_of d) (day_of_month d) (omega (arith, signed_arith, range)) (omega (arith, is))
    (omega (arith, is, short))

-- ---- numbers

row_plain : (k n : ℕ) → AreLeafChars (digit_row k n)
row_plain zero n = refl
row_plain (suc k) n =
    plain_append (digit_row k (n / 10)) ((48 + n % 10) ∷ []) (row_plain k (n / 10)) (plain_one (n % 10) (omega arith))

dec_plain_by : (n places : ℕ) (b : Bool) → n < 2 ^ 128
    → AreLeafChars (if b then decimal n else decimal (n / 10 ^ places) ++ 46 ∷ digit_row places n)
dec_plain_by n places true h = decimal_plain n h
dec_plain_by n places false h =
    plain_append (decimal (n / 10 ^ places)) (46 ∷ digit_row places n)
    (decimal_plain (n / 10 ^ places) (omega (arith, div-le_self n (10 ^ places))))
    (plain_cons 46 (digit_row places n) point (row_plain places n))

-- the text of a number is plain
pub dec_plain : (z : ℤ) (places : ℕ) → unsigned_abs z < 2 ^ 128 → AreLeafChars (dec_text z places)
dec_plain (pos n) places h = dec_plain_by n places (places == 0) h
dec_plain (negsuc n) places h =
    plain_cons 45 (unsigned_dec (suc n) places) dash (dec_plain_by (suc n) places (places == 0) h)

-- the text of a whole number is plain
pub whole_plain : (z : ℤ) → unsigned_abs z < 2 ^ 128 → AreLeafChars (signed_decimal z)
whole_plain (pos n) h = decimal_plain n h
whole_plain (negsuc n) h = plain_cons 45 (decimal (suc n)) dash (decimal_plain (suc n) h)

-- the text of a number that the code has is plain
pub number_plain : (z : ℤ) (places : ℕ) → FitsSigned w128 z → AreLeafChars (dec_text z places)
number_plain z places f = dec_plain z places (small_abs z f)

-- the text of a whole number that the code has is plain
pub count_plain : (z : ℤ) → FitsSigned w128 z → AreLeafChars (signed_decimal z)
count_plain z f = whole_plain z (small_abs z f)

short_by : (n p : ℕ) → n / 10 ^ p < 10 ^ 18 → AreLeafChars (unsigned_dec n p)
short_by n zero h = let s : n < 10 ^ 18 = omega (arith, h) in decimal_plain n (omega (arith, s))
short_by n (suc k) h =
    let a = n / 10 ^ suc k in
    subst AreLeafChars (sym (with_point n (suc k) (not_none k)))
    (plain_append (decimal a) (46 ∷ digit_row (suc k) n) (decimal_plain a (omega (arith, h)))
    (plain_cons 46 (digit_row (suc k) n) point (row_plain (suc k) n)))

-- the text of a number with at most 18 digits before its point is plain
pub short_plain : (z : ℤ) (p : ℕ) → unsigned_abs z / 10 ^ p < 10 ^ 18 → AreLeafChars (dec_text z p)
short_plain (pos n) p h = short_by n p h
short_plain (negsuc n) p h = plain_cons 45 (unsigned_dec (suc n) p) dash (short_by (suc n) p h)

-- ---- currencies

capital_plain : (c : ℕ) → (65 ≤ c) × (c ≤ 90) → is_leaf_char c ≡ true
unfolding is_leaf_char
capital_plain c h =
    let l = h.0 in
    let m = h.1 in
    grind (arith, nat_tests)

-- capital letters are plain
pub capitals_plain : (s : List ℕ) → All (λ c. (65 ≤ c) × (c ≤ 90)) s → AreLeafChars s
capitals_plain [] h = refl
capitals_plain (c ∷ cs) h =
    let P : ℕ → Type 0 = λ c. (65 ≤ c) × (c ≤ 90) in
    plain_cons c cs (capital_plain c (All-head P c cs h)) (capitals_plain cs (All-tail P c cs h))

-- the letters of a currency are plain
pub code_plain : (c : Currency) → IsCode c → AreLeafChars c.letters
code_plain c h = capitals_plain c.letters h.capitals

-- ---- what plain characters are

ascii_one : (c : ℕ) → is_leaf_char c ≡ true → c < 128
unfolding is_leaf_char
ascii_one c h = grind (arith, nat_tests)

-- a plain text is ASCII
pub plain_ascii : (s : List ℕ) → AreLeafChars s → IsAscii s
plain_ascii [] h = IsAscii-nil
plain_ascii (c ∷ cs) h =
    let both = both_true (is_leaf_char c) (list_all is_leaf_char cs) h in
    IsAscii-cons c cs (ascii_one c both.0) (plain_ascii cs both.1)

-- an ASCII text is kept as a text
pub text_kept : (s : List ℕ) → IsAscii s → utf8_or_empty s ≡ s
text_kept s h = let e : is_utf8 s ≡ true = is_utf8-from_IsUtf8 s (IsUtf8-from_ascii s h) in rw e refl

-- a plain text is kept as a text
pub plain_kept : (s : List ℕ) → AreLeafChars s → utf8_or_empty s ≡ s
plain_kept s h = text_kept s (plain_ascii s h)

-- the letters of a currency are kept as a text
pub code_kept : (c : Currency) → IsCode c → utf8_or_empty c.letters ≡ c.letters
code_kept c h = plain_kept c.letters (code_plain c h)

printed : (c : ℕ) → is_leaf_char c ≡ true → 32 ≤ c
unfolding is_leaf_char
printed c h = grind (arith, nat_tests)

no_quote : (c : ℕ) → is_leaf_char c ≡ true → c ≡ 34 → ⊥
unfolding is_leaf_char
no_quote c h e = let bad : false ≡ true = subst (λ x. is_leaf_char x ≡ true) e h in cc

no_backslash : (c : ℕ) → is_leaf_char c ≡ true → c ≡ 92 → ⊥
unfolding is_leaf_char
no_backslash c h e = let bad : false ≡ true = subst (λ x. is_leaf_char x ≡ true) e h in cc

escape_one : (c : ℕ) → is_leaf_char c ≡ true → escape_byte c ≡ c ∷ []
escape_one c h = escape_byte_plain c (no_quote c h) (no_backslash c h) (printed c h)

-- a plain text needs no escape
pub plain_escape : (s : List ℕ) → AreLeafChars s → escape s ≡ s
plain_escape [] h = refl
plain_escape (c ∷ cs) h =
    let both = both_true (is_leaf_char c) (list_all is_leaf_char cs) h in
    ap (λ t. t ++ escape cs) (escape_one c both.0) ∙ ap (λ t. c ∷ t) (plain_escape cs both.1)
