-- What is decided: it holds, or it doesn't.
use Rattle.std.proofs.Common.{◌≡◌, ◌⊎◌, inl, inr, ℤ, ◌<ℤ◌, arith}
use Rattle.jiff_core.proofs.SignedLemmas.{signed_arith}
use Rattle.irs_base.specs.Private.Order.{IsDecided}

-- which of two numbers is the lower
pub order_of : (a b : ℤ) → (a <ℤ b) ⊎ ((b <ℤ a) ⊎ (a ≡ b))
order_of a b = grind (arith, signed_arith)

-- two numbers are equal, or not
pub decides_same : (a b : ℤ) → IsDecided (a ≡ b)
decides_same a b = elim (order_of a b) [
  | inl below ↦ inr (λ e. omega (arith, signed_arith, below, e))
  | inr rest ↦ elim rest [
    | inl above ↦ inr (λ e. omega (arith, signed_arith, above, e))
    | inr same ↦ inl same
  ]
]
