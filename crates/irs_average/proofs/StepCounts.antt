-- How many steps lie below a number of days.
use Rattle.std.proofs.Common.{◌≡◌, ◌↔◌, ℕ, ◌+◌, ◌-◌, ◌*◌, ◌/◌, ◌<◌, ◌≤◌, ℤ, pos, ◌+ℤ◌, ◌<ℤ◌, arith}
use Rattle.std.proofs.Math.Nat.{le-div_iff_mul-le}
use Rattle.jiff_core.proofs.SignedLemmas.{signed_arith}

up_to : (k q : ℕ) → k < q + 1 → k ≤ q
up_to k q h = omega (arith, h)

below : (k q : ℕ) → k ≤ q → k < q + 1
below k q h = omega (arith, h)

less : (m d : ℕ) → 1 ≤ d → m ≤ d - 1 → m < d
less m d some h = omega (arith, some, h)

no_more : (m d : ℕ) → m < d → m ≤ d - 1
no_more m d h = omega (arith, h)

-- the steps that begin before the end are those below (days - 1) / step + 1
pub multiples_below : (days step k : ℕ) → 1 ≤ days → 1 ≤ step → k < (days - 1) / step + 1 ↔ k * step < days
multiples_below days step k some wide =
    let both : (k ≤ (days - 1) / step) ↔ (k * step ≤ days - 1) = le-div_iff_mul-le wide in (
      λ h. less (k * step) days some (both.0 (up_to k ((days - 1) / step) h)),
      λ h. below k ((days - 1) / step) (both.1 (no_more (k * step) days h)),
    )

-- the days before the end are those of the steps below their number
pub before_end : (s e : ℤ) (days m : ℕ) → s +ℤ pos days ≡ e → m < days ↔ (s +ℤ pos m) <ℤ e
before_end s e days m is = (λ h. omega (arith, signed_arith, is, h), λ h. omega (arith, signed_arith, is, h))

-- a count with the same numbers below it is the same
pub one_count : (m n : ℕ) (P : ℕ → Type 0) → ((k : ℕ) → k < m ↔ P k) → ((k : ℕ) → k < n ↔ P k) → m ≡ n
one_count m n P a b =
    let not_less : m < n → ⊥ = λ h. let there = (a m).1 ((b m).0 h) in omega (arith, there) in
    let not_more : n < m → ⊥ = λ h. let there = (b n).1 ((a n).0 h) in omega (arith, there) in
    grind (arith, not_less, not_more)
