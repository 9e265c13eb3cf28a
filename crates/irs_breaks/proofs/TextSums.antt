-- Sums of counts that fit a machine number.
use Rattle.std.proofs.Common.{◌≡◌, ℕ, ◌+◌, ◌*◌, ◌<◌, ◌≤◌, ◌^◌, List, length, take, get_or, arith, refl, ap, ◌∙◌}
use Rattle.std.specs.List.{sum_by}
use Rattle.std.proofs.lemmas.List.{take_all}
use Rattle.std.proofs.lemmas.List.Sums.{sum_by_more}

-- a sum over the first i members, of counts below 2^32
pub record SumsTo {X : Type 0} (f : X → ℕ) (xs : List X) (i sum : ℕ) : Type 0 where
  pub is : sum ≡ sum_by f (take i xs)
  pub few : sum ≤ 4294967295 * i
  pub fits : sum < 2 ^ 127

-- the sum of no members
pub sums_none : {X : Type 0} (f : X → ℕ) (xs : List X) → SumsTo f xs 0 0
sums_none f xs = record { is = refl; few = omega arith; fits = omega arith }

-- the next member is summed too
pub sums_more : {X : Type 0} (f : X → ℕ) (xs : List X) (i : ℕ) (d : X) (sum one : ℕ) → i < length xs → i < 2 ^ 64
    → one ≡ f (get_or xs i d) → one < 2 ^ 32 → SumsTo f xs i sum → SumsTo f xs (i + 1) (sum + one)
sums_more f xs i d sum one less low same small h =
    let before = h.is in
    let few = h.few in
    let more = sum_by_more f xs i d less in
    record {
      is = omega (arith, before, same, more);
      few = omega (arith, few, small);
      fits = omega (arith, few, small, low);
    }

-- all are summed
pub sums_all : {X : Type 0} (f : X → ℕ) (xs : List X) (i sum : ℕ) → length xs ≤ i → SumsTo f xs i sum → sum ≡ sum_by f xs
sums_all f xs i sum more h = h.is ∙ ap (λ (l : List _). sum_by f l) (take_all i xs more)
