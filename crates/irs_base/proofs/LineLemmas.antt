-- Where a line ends.
use Rattle.std.proofs.Common.{◌≡◌, ◌⊎◌, inl, inr, ℕ, zero, suc, ◌+◌, ◌-◌, ◌<◌, ◌≤◌, Bool, true, false, ◌&&◌, ◌==◌, List}
use Rattle.std.proofs.Common.{[], ◌∷◌, take, drop, length, get_or, arith, refl, ◌∙◌, ap}
use Rattle.std.proofs.Common.{length-drop}
use Rattle.std.proofs.lemmas.List.{take_all}
use Rattle.irs_base.specs.Texts.{with_byte, lines_of}
use Rattle.irs_base.specs.Private.Order.{without_cr}

is_eq : (a b : ℕ) → a ≡ b → (a == b) ≡ true
is_eq a b h = grind arith

not_eq : (a b : ℕ) → (a ≡ b → ⊥) → (a == b) ≡ false
not_eq a b h = grind arith

same_or_not : (a b : ℕ) → (a ≡ b) ⊎ (a ≡ b → ⊥)
same_or_not a b = grind arith

-- a CR at the end goes
pub cr_goes : (line : List ℕ) (n : ℕ) → suc n ≡ length line → get_or line n 0 ≡ 13 → take n line ≡ without_cr line
cr_goes [] n len at = absurd (omega (arith, len))
cr_goes (b ∷ []) zero len at = rw (is_eq b 13 at) refl
cr_goes (b ∷ []) (suc n) len at = absurd (omega (arith, len))
cr_goes (b ∷ c ∷ cs) zero len at = absurd (omega (arith, len))
cr_goes (b ∷ c ∷ cs) (suc n) len at = ap (λ (l : List ℕ). b ∷ l) (cr_goes (c ∷ cs) n (omega (arith, len)) at)

-- and nothing else does
pub cr_stays : (line : List ℕ) (n : ℕ) → suc n ≡ length line → (get_or line n 0 ≡ 13 → ⊥) → line ≡ without_cr line
cr_stays [] n len at = absurd (omega (arith, len))
cr_stays (b ∷ []) zero len at = rw (not_eq b 13 at) refl
cr_stays (b ∷ []) (suc n) len at = absurd (omega (arith, len))
cr_stays (b ∷ c ∷ cs) zero len at = absurd (omega (arith, len))
cr_stays (b ∷ c ∷ cs) (suc n) len at = ap (λ (l : List ℕ). b ∷ l) (cr_stays (c ∷ cs) n (omega (arith, len)) at)

-- the first LF ends the first line
pub line_at : (bytes : List ℕ) (i : ℕ) → i < length bytes → get_or bytes i 0 ≡ 10
    → ((k : ℕ) → k < i → get_or bytes k 0 ≡ 10 → ⊥)
    → lines_of bytes ≡ without_cr (take i bytes) ∷ lines_of (drop (suc i) bytes)
line_at [] i within at none = absurd (omega (arith, within))
line_at (b ∷ bs) zero within at none = rw (is_eq b 10 at) refl
line_at (b ∷ []) (suc i) within at none = absurd (omega (arith, within))
line_at (b ∷ c ∷ cs) (suc zero) within at none =
    let first : (b == 10) ≡ false = not_eq b 10 (none 0 (omega arith)) in
    let second : (c == 10) ≡ true = is_eq c 10 at in
    elim (same_or_not b 13) [
      | inl cr ↦ let t : (b == 13) ≡ true = is_eq b 13 cr in rw (first, second, t) refl
      | inr other ↦ let f : (b == 13) ≡ false = not_eq b 13 other in rw (first, second, f) refl
    ]
line_at (b ∷ c ∷ cs) (suc (suc i)) within at none =
    let first : (b == 10) ≡ false = not_eq b 10 (none 0 (omega arith)) in
    let second : (c == 10) ≡ false = not_eq c 10 (none 1 (omega arith)) in
    let rest = line_at (c ∷ cs) (suc i) (omega (arith, within)) at (λ k h. none (suc k) (omega (arith, h))) in
    begun b c cs first second ∙ ap (with_byte b) rest
  where
    both_false : (b : Bool) → (b && false) ≡ false
    both_false true = refl
    both_false false = refl

    begun : (b c : ℕ) (cs : List ℕ) → (b == 10) ≡ false → (c == 10) ≡ false
        → lines_of (b ∷ c ∷ cs) ≡ with_byte b (lines_of (c ∷ cs))
    begun b c cs first second = rw (first, second, both_false (b == 13)) refl

-- with no LF there is one line
pub line_alone : (bytes : List ℕ) → 0 < length bytes → ((k : ℕ) → k < length bytes → get_or bytes k 0 ≡ 10 → ⊥)
    → lines_of bytes ≡ bytes ∷ []
line_alone [] some none = absurd (omega (arith, some))
line_alone (b ∷ []) some none =
    let first : (b == 10) ≡ false = not_eq b 10 (none 0 (omega arith)) in
    rw (first, both_false (b == 13)) refl
  where
    both_false : (b : Bool) → (b && false) ≡ false
    both_false true = refl
    both_false false = refl
line_alone (b ∷ c ∷ cs) some none =
    let first : (b == 10) ≡ false = not_eq b 10 (none 0 (omega arith)) in
    let second : (c == 10) ≡ false = not_eq c 10 (none 1 (omega arith)) in
    let rest = line_alone (c ∷ cs) (omega arith) (λ k h. none (suc k) (omega (arith, h))) in
    begun b c cs first second ∙ ap (with_byte b) rest
  where
    both_false : (b : Bool) → (b && false) ≡ false
    both_false true = refl
    both_false false = refl

    begun : (b c : ℕ) (cs : List ℕ) → (b == 10) ≡ false → (c == 10) ≡ false
        → lines_of (b ∷ c ∷ cs) ≡ with_byte b (lines_of (c ∷ cs))
    begun b c cs first second = rw (first, second, both_false (b == 13)) refl

-- an empty line has no CR to lose
pub empty_stays : (line : List ℕ) → length line ≤ 0 → line ≡ without_cr line
empty_stays [] h = refl
empty_stays (b ∷ bs) h = absurd (omega (arith, h))

-- what comes after a byte, by two counts
pub rest_of : (bytes : List ℕ) (i : ℕ) → i < length bytes
    → take (length bytes - (i + 1)) (drop (i + 1) bytes) ≡ drop (suc i) bytes
rest_of bytes i h = let e : i + 1 ≡ suc i = omega arith in
    rw e (take_all (length bytes - suc i) (drop (suc i) bytes) (omega (arith, length-drop (suc i) bytes)))
