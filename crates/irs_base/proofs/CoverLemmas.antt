-- Members that cover numbers in order: where the numbers of each of them lie.
use Rattle.std.proofs.Common.{◌≡◌, ℕ, zero, suc, ◌+◌, ◌<◌, ◌≤◌, List, [], ◌∷◌, map, Some, slice_get, ap, arith}
use Rattle.std.proofs.lemmas.Option.{same_Some, slice_get_within}
use Rattle.irs_base.specs.Lists.{CoverNumbers, Every}
use Rattle.irs_base.proofs.MemberLemmas.{every_get}

-- the numbers from `first` to `end` lie in order among those from `low` to `high`
pub record LieAmong (low high first end : ℕ) : Type 0 where
  pub from : low ≤ first
  pub order : first ≤ end
  pub to : end ≤ high

-- the same list by what its members are made of
pub covers_made : {X Y : Type 0} (from to : X → ℕ) (f : Y → X) (n last : ℕ) (ys : List Y)
    → CoverNumbers from to n (map f ys) last → CoverNumbers (λ y. from (f y)) (λ y. to (f y)) n ys last
covers_made from to f n last [] h = h
covers_made from to f n last (y ∷ ys) h = (h.0, h.1, covers_made from to f (to (f y) + 1) last ys h.2)

module _ {X : Type 0} (from to : X → ℕ) where
  -- they begin right after the last number at the latest
  pub covers_low : (n last : ℕ) (xs : List X) → CoverNumbers from to n xs last → n ≤ last + 1
  covers_low n last [] h = omega (arith, h)
  covers_low n last (x ∷ xs) h = omega (arith, h.0, h.1, covers_low (to x + 1) last xs h.2)

  pub covers_each : (m n last : ℕ) (xs : List X) → m ≤ n → CoverNumbers from to n xs last
      → Every (λ x. LieAmong m last (from x) (to x)) xs
  covers_each m n last [] low h = tt
  covers_each m n last (x ∷ xs) low h =
      let rest = covers_low (to x + 1) last xs h.2 in (
        record { from = omega (arith, low, h.0); order = h.1; to = omega (arith, rest) },
        covers_each m (to x + 1) last xs (omega (arith, low, h.0, h.1)) h.2,
      )

  pub covers_at : (n last : ℕ) (xs : List X) (j : ℕ) (x : X) → CoverNumbers from to n xs last → slice_get xs j ≡ Some x
      → LieAmong n last (from x) (to x)
  covers_at n last xs j x h at =
      every_get (λ y. LieAmong n last (from y) (to y)) xs j x (covers_each n n last xs (omega arith) h) at

  -- the numbers of an earlier member come before those of a later one
  pub covers_in_order : (n last : ℕ) (xs : List X) (i j : ℕ) (x y : X) → CoverNumbers from to n xs last → i < j
      → slice_get xs i ≡ Some x → slice_get xs j ≡ Some y → to x < from y
  covers_in_order n last [] i j x y h less d e =
      let inside = slice_get_within [] i x d in absurd (omega (arith, inside))
  covers_in_order n last (z ∷ xs) i zero x y h less d e = absurd (omega (arith, less))
  covers_in_order n last (z ∷ xs) zero (suc j) x y h less d e =
      let same = ap to (same_Some z x d) in
      let rest = (covers_at (to z + 1) last xs j y h.2 e).from in
      omega (arith, same, rest)
  covers_in_order n last (z ∷ xs) (suc i) (suc j) x y h less d e =
      covers_in_order (to z + 1) last xs i j x y h.2 (omega (arith, less)) d e
