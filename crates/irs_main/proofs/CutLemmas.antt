-- How many bytes come before the first one of a value.
use Rattle.std.proofs.Common.{◌≡◌, ℕ, zero, suc, ◌<◌, ◌==◌, true, false, List, [], ◌∷◌, length, get_or, arith, refl, ap}
use Rattle.std.proofs.Common.{◌+◌, ◌∙◌}
use Rattle.irs_main.specs.Shown.{length_before}

is_same : (a b : ℕ) → a ≡ b → (a == b) ≡ true
is_same a b h = grind arith

is_other : (a b : ℕ) → (a ≡ b → ⊥) → (a == b) ≡ false
is_other a b h = grind arith

-- where the first such byte is at place i, i bytes come before it
pub length_at : (end : ℕ) (text : List ℕ) (i : ℕ) → i < length text → get_or text i 0 ≡ end
    → ((k : ℕ) → k < i → get_or text k 0 ≡ end → ⊥) → length_before end text ≡ i
length_at end [] i within at none = absurd (omega (arith, within))
length_at end (b ∷ bs) zero within at none = rw (is_same b end at) refl
length_at end (b ∷ bs) (suc i) within at none =
    let rest = length_at end bs i (omega (arith, within)) at (λ k h. none (suc k) (omega (arith, h))) in
    let more : i + 1 ≡ suc i = omega arith in
    rw (is_other b end (none 0 (omega arith))) (ap (λ (n : ℕ). n + 1) rest ∙ more)

-- where there is no such byte, all bytes count
pub length_whole : (end : ℕ) (text : List ℕ) → ((k : ℕ) → k < length text → get_or text k 0 ≡ end → ⊥)
    → length_before end text ≡ length text
length_whole end [] none = refl
length_whole end (b ∷ bs) none =
    let rest = length_whole end bs (λ k h. none (suc k) (omega (arith, h))) in
    let more : length bs + 1 ≡ length (b ∷ bs) = omega arith in
    rw (is_other b end (none 0 (omega arith))) (ap (λ (n : ℕ). n + 1) rest ∙ more)
