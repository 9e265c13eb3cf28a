-- What is shown of a word holds no control.
use Rattle.std.proofs.Common.{◌≡◌, ℕ, ◌<◌, ◌≤◌, ◌/◌, ◌%◌, Bool, true, false, List, [], ◌∷◌, ◌++◌, length, get_or, suc, inl, inr, refl, sym, subst, arith, if◌then◌else◌, codes}
use Rattle.std.specs.Char.{encode_utf8}
use Rattle.std.specs.List.{flat_map}
use Rattle.std.proofs.lemmas.Bool.{cases_lt}
use Rattle.std.proofs.lemmas.List.{append-nil}
use Rattle.std.proofs.lemmas.Str.{inside_one}
use Rattle.irs_base.proofs.EveryLemmas.{every_both}
use Rattle.irs_base.specs.Lists.{Every}
use Rattle.std.specs.Str.{chars}
use Rattle.irs_main.specs.Shown.{hex_digit, is_control, shown, shown_char, turns_text, two_hex_digits, IsPrinted}

digit_printed : (n : ℕ) → n < 16 → IsPrinted (hex_digit n)
digit_printed n small = grind arith

digits_printed : (n : ℕ) → Every IsPrinted (two_hex_digits n)
digits_printed n = (digit_printed (n / 16 % 16) (grind arith), (digit_printed (n % 16) (grind arith), tt))

-- a byte from 128 on is no control by itself
above_printed : (b : ℕ) → 128 ≤ b → IsPrinted b
above_printed b above = (omega (arith, above), λ is. omega (arith, above, is))

low_printed : (c : ℕ) → is_control c ≡ false → c < 128 → IsPrinted c
low_printed c free low = grind arith

-- a byte of a character is the character itself, or from 128 on
byte_printed : (c k : ℕ) → is_control c ≡ false → k < length (encode_utf8 c) → IsPrinted (get_or (encode_utf8 c) k 0)
byte_printed c k free less = elim (cases_lt (get_or (encode_utf8 c) k 0) 128) [
  | inl low ↦
      let same = inside_one c [] (encode_utf8 c) k (sym (append-nil (encode_utf8 c))) less low in
      subst IsPrinted same (low_printed c free (subst (λ (b : ℕ). b < 128) (sym same) low))
  | inr high ↦ above_printed (get_or (encode_utf8 c) k 0) high
]

every_by : (xs : List ℕ) → ((k : ℕ) → k < length xs → IsPrinted (get_or xs k 0)) → Every IsPrinted xs
every_by [] each = tt
every_by (x ∷ xs) each = (each 0 (omega arith), every_by xs (λ k less. each (suc k) (omega (arith, less))))

encoded_printed : (c : ℕ) → is_control c ≡ false → Every IsPrinted (encode_utf8 c)
encoded_printed c free = every_by (encode_utf8 c) (λ k less. byte_printed c k free less)

letter_printed : (b : ℕ) → 32 ≤ b → b < 127 → IsPrinted b
letter_printed b least less = (least, λ is. omega (arith, less, is))

control_printed : (c : ℕ) → Every IsPrinted (codes "\\x" ++ two_hex_digits c)
control_printed c =
    (letter_printed 92 (omega arith) (omega arith), (letter_printed 120 (omega arith) (omega arith), digits_printed c))

turn_printed : (c : ℕ) → Every IsPrinted (codes "\\u" ++ two_hex_digits (c / 256) ++ two_hex_digits c)
turn_printed c =
    let digits = every_both IsPrinted (two_hex_digits (c / 256)) (two_hex_digits c) (digits_printed (c / 256)) (digits_printed c) in
    (letter_printed 92 (omega arith) (omega arith), (letter_printed 117 (omega arith) (omega arith), digits))

plain_printed : (turns : Bool) (c : ℕ) → is_control c ≡ false
    → Every IsPrinted (if turns then codes "\\u" ++ two_hex_digits (c / 256) ++ two_hex_digits c else encode_utf8 c)
plain_printed true c free = turn_printed c
plain_printed false c free = encoded_printed c free

char_by : (control : Bool) (c : ℕ) → is_control c ≡ control
    → Every IsPrinted (if control then codes "\\x" ++ two_hex_digits c
    else (if turns_text c then codes "\\u" ++ two_hex_digits (c / 256) ++ two_hex_digits c else encode_utf8 c))
char_by true c is = control_printed c
char_by false c free = plain_printed (turns_text c) c free

chars_printed : (cs : List ℕ) → Every IsPrinted (flat_map shown_char cs)
chars_printed [] = tt
chars_printed (c ∷ cs) =
    every_both IsPrinted (shown_char c) (flat_map shown_char cs) (char_by (is_control c) c refl) (chars_printed cs)

-- no byte of what is shown is a control: neither a line feed nor an escape
pub text_printed : (text : List ℕ) → Every IsPrinted (shown text)
text_printed text = chars_printed (chars text)
