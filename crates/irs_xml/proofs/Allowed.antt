-- The characters that XML allows are characters.
use Rattle.std.proofs.Common.{◌≡◌, ℕ, true, false, arith, inl, inr}
use Rattle.std.proofs.lemmas.Bool.{cases_Bool}
use Rattle.std.proofs.lemmas.Bool.Decides.{nat_tests}
use Rattle.std.specs.Char.{IsScalar}
use Rattle.irs_xml.specs.Characters.{is_char}

-- every character that XML allows is a Unicode scalar value
pub char_scalar : (c : ℕ) → is_char c ≡ true → IsScalar c
unfolding is_char
char_scalar c h = grind (arith, nat_tests)

-- XML allows nothing that isn't a Unicode scalar value
pub no_char : (c : ℕ) → (IsScalar c → ⊥) → is_char c ≡ false
no_char c h = elim (cases_Bool (is_char c)) [ inl e ↦ absurd (h (char_scalar c e)) | inr e ↦ e ]
