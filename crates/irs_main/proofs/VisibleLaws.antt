-- What is shown of a name is visible ASCII.
use Rattle.std.proofs.Common.{◌≡◌, ℕ, ◌<◌, ◌/◌, ◌%◌, Bool, true, false, List, []}
use Rattle.std.proofs.Common.{◌∷◌, ◌++◌, codes, refl, arith, if◌then◌else◌}
use Rattle.irs_base.proofs.EveryLemmas.{every_both}
use Rattle.irs_base.specs.Lists.{Every}
use Rattle.irs_main.specs.Shown.{hex_digit, two_hex_digits, IsVisible, is_shown_as_it_is, shown_byte, shown_bytes}

digit_visible : (n : ℕ) → n < 16 → IsVisible (hex_digit n)
digit_visible n small = grind arith

digits_visible : (n : ℕ) → Every IsVisible (two_hex_digits n)
digits_visible n = (digit_visible (n / 16 % 16) (grind arith), (digit_visible (n % 16) (grind arith), tt))

plain_visible : (b : ℕ) → is_shown_as_it_is b ≡ true → IsVisible b
plain_visible b plain = grind arith

byte_by : (plain : Bool) (b : ℕ) → is_shown_as_it_is b ≡ plain
    → Every IsVisible (if plain then b ∷ [] else codes "\\x" ++ two_hex_digits b)
byte_by true b plain = (plain_visible b plain, tt)
byte_by false b other = ((omega arith, omega arith), ((omega arith, omega arith), digits_visible b))

-- each byte of what is shown is visible ASCII
pub bytes_visible : (bytes : List ℕ) → Every IsVisible (shown_bytes bytes)
bytes_visible [] = tt
bytes_visible (b ∷ bs) =
    every_both IsVisible (shown_byte b) (shown_bytes bs) (byte_by (is_shown_as_it_is b) b refl) (bytes_visible bs)
