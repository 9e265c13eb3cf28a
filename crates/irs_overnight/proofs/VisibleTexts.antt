-- The texts of days, rates and tenors: no byte of them is a space or a tab, and they are read back.
use Rattle.std.proofs.Common.{◌≡◌, inr, ℕ, suc, ◌+◌, ◌*◌, ◌/◌, ◌^◌, ◌<◌, ◌≤◌, List, [], ◌∷◌, ◌++◌, length}
use Rattle.std.proofs.Common.{false, Option, Some, None, IfSome, ℤ, pos, negsuc, sym, subst, ap, ◌∙◌, arith}
use Rattle.std.proofs.lemmas.Bool.Decides.{nat_tests}
use Rattle.std.proofs.lemmas.Fmt.{decimal_nonempty, length-decimal-le}
use Rattle.std.specs.Fmt.{decimal}
use Rattle.irs_base.proofs.PlainDates.{plain_is}
use Rattle.irs_base.proofs.TextLemmas.{length_digit_row, with_point}
use Rattle.irs_base.proofs.VisibleTexts.{Visible, digits_behind, digits_visible, not_none, places_visible, plain}
use Rattle.irs_base.proofs.VisibleTexts.{row_digits, row_spells, spells_decimal, visible_append}
use Rattle.irs_base.specs.Texts.{date_at, DecText, bare, minus, IsUnsigned, number_after, number_of, is_space_or_tab}
use Rattle.irs_base.specs.Texts.{day_text, dec_text, digit_row, unsigned_dec}
use Rattle.irs_base.specs.Days.{IsDay}
use Rattle.irs_terms.specs.Lawful.{IsLawfulTenor, IsRate}
use Rattle.irs_terms.specs.declared.frequency.Frequency.{Frequency}
use Rattle.irs_resets.specs.FixingFiles.{tenor_text}
use Rattle.irs_resets.proofs.TenorWords.{tenor_made, unit_back}

-- a byte above the space is no white space
pub no_space : (x : ℕ) → 33 ≤ x → is_space_or_tab x ≡ false
no_space x h = grind (arith, nat_tests)

-- the text of a day in range is read back as the day
pub day_back : (d : ℤ) → IsDay d → date_at (day_text d) ≡ Some d
day_back d day = plain_is (day_text d) d day (plain d day)

-- ---- rates

some_digit : (a b : ℕ) → 0 < a → 0 < a + b
some_digit a b h = omega (arith, h)

rate_unsigned : (n k : ℕ) → n / 10 ^ suc k < 10 ^ 18 → IsUnsigned (unsigned_dec n (suc k)) (suc k) n
rate_unsigned n k h =
    let a = n / 10 ^ suc k in
    let row = digit_row (suc k) n in
    let low : a < 2 ^ 64 = omega (arith, h) in
    let len : length row ≡ suc k = length_digit_row (suc k) n in
    let spelled : number_of (decimal a ++ row) ≡ n =
    digits_behind 0 (decimal a) row ∙ ap (λ m. number_after m row) (spells_decimal a low).1
    ∙ row_spells (suc k) n in
    record {
      whole = decimal a;
      fraction = row;
      whole_digits = (spells_decimal a low).0;
      fraction_digits = row_digits (suc k) n;
      some = some_digit (length (decimal a)) (length row) (decimal_nonempty a low);
      short = length-decimal-le 18 a (omega arith) h low;
      is = inr (with_point n (suc k) (not_none k));
      value = ap (λ m. n * 10 ^ m) len ∙ ap (λ m. m * 10 ^ suc k) (sym spelled);
    }

short_rate : (n : ℕ) → n ≤ 10 ^ 10 → n / 10 ^ 9 < 10 ^ 18
short_rate n h = omega (arith, h)

-- the text of a rate is read back as the rate
pub rate_back : (x : ℤ) → IsRate x → DecText (dec_text x 9) 9 x
rate_back (pos n) h = bare (unsigned_dec n 9) 9 n (rate_unsigned n 8 (short_rate n h))
rate_back (negsuc n) h = minus (unsigned_dec (suc n) 9) 9 (suc n) (rate_unsigned (suc n) 8 (short_rate (suc n) h))

-- the text of a rate has no white space
pub rate_visible : (x : ℤ) → IsRate x → Visible (dec_text x 9)
rate_visible (pos n) h = places_visible n 8 (short_rate n h)
rate_visible (negsuc n) h = (omega arith, places_visible (suc n) 8 (short_rate (suc n) h))

-- ---- tenors

-- the first byte is after the space
abbrev pub StartsVisible : List ℕ → Type 0
StartsVisible [] = ⊥
StartsVisible (x ∷ xs) = 33 ≤ x

starts_before : (a : List ℕ) (x : ℕ) (b : List ℕ) → Visible a → 33 ≤ x → StartsVisible (a ++ x ∷ b)
starts_before [] x b h low = low
starts_before (y ∷ a) x b h low = h.0

rate_starts_by : (n k : ℕ) → n / 10 ^ suc k < 10 ^ 18 → StartsVisible (unsigned_dec n (suc k))
rate_starts_by n k h =
    let a = n / 10 ^ suc k in
    subst StartsVisible (sym (with_point n (suc k) (not_none k)))
    (starts_before (decimal a) 46 (digit_row (suc k) n)
    (digits_visible (decimal a) (spells_decimal a (omega (arith, h))).0) (omega arith))

-- the text of a rate begins with no white space
pub rate_starts : (x : ℤ) → IsRate x → StartsVisible (dec_text x 9)
rate_starts (pos n) h = rate_starts_by n 8 (short_rate n h)
rate_starts (negsuc n) h = omega arith

count_visible : (f : Frequency) → IsLawfulTenor f → Visible (decimal f.count)
count_visible f h = let high = h.0.1 in
    digits_visible (decimal f.count) (spells_decimal f.count (omega (arith, high))).0

-- the text of a tenor has no white space
pub tenor_visible : (tenor : Option Frequency) → IfSome tenor IsLawfulTenor → Visible (tenor_text tenor)
tenor_visible None h = (omega arith, tt)
tenor_visible (Some f) h = let u = unit_back f.unit h.1 in
    subst Visible (sym (tenor_made f u.0 u.1))
    (visible_append (decimal f.count) (u.0 ∷ []) (count_visible f h) (u.3, tt))

-- the text of a tenor begins with no white space
pub tenor_starts : (tenor : Option Frequency) → IfSome tenor IsLawfulTenor → StartsVisible (tenor_text tenor)
tenor_starts None h = omega arith
tenor_starts (Some f) h = let u = unit_back f.unit h.1 in
    subst StartsVisible (sym (tenor_made f u.0 u.1)) (starts_before (decimal f.count) u.0 [] (count_visible f h) u.3)
