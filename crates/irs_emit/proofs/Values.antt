-- What `get` finds in a slice.
use Rattle.std.proofs.Common.{◌≡◌, ℕ, ◌<◌, ◌≤◌, List, length, get_or, Option, Some, None, IfSome, option_map, Bor, sym}
use Rattle.std.proofs.Common.{ap, ◌∙◌}
use Rattle.std.proofs.lemmas.Option.{slice_get-get_or, slice_get_past}
use Rattle.std.specs.List.{HoldsAt}
use Rattle.std.specs.Prelude.{slice_get, MatchOption}

-- what `get` finds in a slice
pub found : {X : Type 0} (xs : List X) (i : ℕ) (o : Option (Bor X)) → IfSome o (λ x. x.now ≡ get_or xs i x.now)
    → MatchOption o (length xs ≤ i) (λ x. (i < length xs) × HoldsAt (λ y. x.now ≡ y) xs i)
    → option_map (λ x. x.now) o ≡ slice_get xs i
found xs i None same there = sym (slice_get_past xs i there)
found xs i (Some x) same there = sym (slice_get-get_or xs i x.now there.0 ∙ ap Some (sym same))
