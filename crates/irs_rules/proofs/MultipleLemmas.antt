-- Whole multiples: by the rest of a division, and by size.
use Rattle.std.proofs.Common.{◌≡◌, ℕ, zero, suc, ◌*◌, ◌/◌, ◌%◌, ◌<◌, arith, ap, ◌∙◌}
use Rattle.std.proofs.Math.Nat.{mul-mod_left}
use Rattle.std.proofs.lemmas.Nat.{div-add-mod'}

-- what leaves no rest is a multiple
pub times_of : (whole part : ℕ) → whole % part ≡ 0 → (times : ℕ) × (whole ≡ times * part)
times_of whole part e = (whole / part, omega (arith, div-add-mod' whole part))

-- a multiple leaves no rest
pub rest_of : (whole part : ℕ) → ((times : ℕ) × (whole ≡ times * part)) → whole % part ≡ 0
rest_of whole part (times, e) = ap (λ (n : ℕ). n % part) e ∙ mul-mod_left times part

more_than_once : (whole part times : ℕ) → part < whole → whole ≡ times * part → 1 < times
more_than_once whole part zero h e = let f : whole ≡ 0 = e ∙ omega arith in absurd (omega arith)
more_than_once whole part (suc zero) h e = let f : whole ≡ part = e ∙ omega arith in absurd (omega arith)
more_than_once whole part (suc (suc n)) h e = omega arith

larger_than_part : (whole part times : ℕ) → 0 < part → 1 < times → whole ≡ times * part → part < whole
larger_than_part whole part zero some h e = absurd (omega arith)
larger_than_part whole part (suc zero) some h e = absurd (omega arith)
larger_than_part whole part (suc (suc n)) some h e = omega arith

-- a larger multiple is more than once its part
pub larger_times : (whole part : ℕ) → part < whole → ((times : ℕ) × (whole ≡ times * part))
    → (times : ℕ) × (1 < times) × (whole ≡ times * part)
larger_times whole part h (times, e) = (times, more_than_once whole part times h e, e)

-- more than once a part is larger
pub times_larger : (whole part : ℕ) → 0 < part → ((times : ℕ) × (1 < times) × (whole ≡ times * part)) → part < whole
times_larger whole part some (times, h, e) = larger_than_part whole part times some h e

-- more than once is a multiple
pub times_any : (whole part : ℕ) → ((times : ℕ) × (1 < times) × (whole ≡ times * part))
    → (times : ℕ) × (whole ≡ times * part)
times_any whole part (times, h, e) = (times, e)
