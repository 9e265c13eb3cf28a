-- A date is the first word of its line.
use Rattle.std.proofs.Common.{◌≡◌, ℕ, ◌+◌, ◌/◌, ◌%◌, ◌<◌, true, false, ◌==◌, List, [], ◌∷◌, take, drop}
use Rattle.std.proofs.Common.{length, get_or, arith, refl, sym, ap, subst, zero, suc, ℤ}
use Rattle.std.proofs.lemmas.Bool.Decides.{nat_tests}
use Rattle.irs_base.specs.Texts.{is_space_or_tab, date_text, IsPlainDate}
use Rattle.irs_resets.specs.FixingFiles.{word, behind_word}

-- no byte is a space
abbrev AreSolid : List ℕ → Type 0
AreSolid [] = Unit {0}
AreSolid (b ∷ bs) = (is_space_or_tab b ≡ false) × AreSolid bs

-- bytes that are no spaces, before a space, are the first word
solid_word : (line : List ℕ) (n : ℕ) → n < length line → is_space_or_tab (get_or line n 0) ≡ true → AreSolid (take n line)
    → (take n line ≡ word line) × (drop n line ≡ behind_word line)
solid_word [] n within gap solid = absurd (omega (arith, within))
solid_word (b ∷ bs) zero within gap solid = (rw gap refl, rw gap refl)
solid_word (b ∷ bs) (suc n) within gap solid =
    let rest = solid_word bs n (omega (arith, within)) gap solid.1 in
    (rw solid.0 (ap (λ (l : List ℕ). b ∷ l) rest.0), rw solid.0 rest.1)

-- digits are no spaces
solid_digit : (k : ℕ) → is_space_or_tab (48 + k) ≡ false
solid_digit k =
    let p : (48 + k == 32) ≡ false = grind (arith, nat_tests) in
    let q : (48 + k == 9) ≡ false = grind (arith, nat_tests) in
    rw (p, q) refl

solid_date : (y m d : ℕ) → AreSolid (date_text y m d)
solid_date y m d = (
  solid_digit (y / 100 / 10),
  (
    solid_digit (y / 100 % 10),
    (
      solid_digit (y % 100 / 10),
      (
        solid_digit (y % 100 % 10),
        (refl, (solid_digit (m / 10), (solid_digit (m % 10), (refl, (solid_digit (d / 10), (solid_digit (d % 10), tt)))))),
      ),
    ),
  ),
)

-- a date before a space is the first word
pub date_word : (line : List ℕ) (d : ℤ) → 10 < length line → is_space_or_tab (get_or line 10 0) ≡ true
    → IsPlainDate (take 10 line) d → (take 10 line ≡ word line) × (drop 10 line ≡ behind_word line)
date_word line d within gap plain =
    solid_word line 10 within gap (subst AreSolid (sym plain.is) (solid_date plain.year plain.month plain.day))
