-- The first of a list are kept one by one.
use Rattle.std.proofs.Common.{◌≡◌, ℕ, ◌+◌, List, [], ◌∷◌, ◌++◌, Some, take, sym, ap, ◌∙◌}
use Rattle.std.specs.Prelude.{slice_get}
use Rattle.std.proofs.lemmas.List.{take_more}
use Rattle.std.proofs.lemmas.Option.{get_or_from_slice_get, slice_get_within}

-- one more is kept
pub kept_more : {X : Type 0} (xs : List X) (i : ℕ) (x : X) (kept : List X) → slice_get xs i ≡ Some x → kept ≡ take i xs
    → kept ++ x ∷ [] ≡ take (i + 1) xs
kept_more {X} xs i x kept at is =
    ap (λ (ks : List X). ks ++ x ∷ []) is
    ∙ sym (take_more xs i x (slice_get_within xs i x at)
    ∙ ap (λ (y : X). take i xs ++ y ∷ []) (get_or_from_slice_get xs i x x at))
