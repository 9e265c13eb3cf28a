-- How long paths are, and that the list of them is whole.
use Rattle.std.proofs.Common.{◌≡◌, ℕ, zero, suc, ◌≤◌, Bool, true, nat_le, List, [], ◌∷◌, length, map, slice_get, Some}
use Rattle.std.proofs.Common.{codes, refl, sym, ap, subst, arith}
use Rattle.std.specs.List.{list_all}
use Rattle.std.proofs.lemmas.Bool.Decides.{nat_tests}
use Rattle.std.proofs.lemmas.Option.{same_Some}
use Rattle.irs_terms.specs.Elements.{name_or_empty, named_elements}
use Rattle.irs_terms.specs.Paths.{paths, printed_paths, are_whole, path_of, longest_path}
use Rattle.irs_terms.specs.declared.elements.TheConstants.{PATHS}
use Rattle.irs_base.proofs.Orders.{both_true}

-- whether a path is no longer than the longest one stated
abbrev is_short : List ℕ → Bool
is_short p = nat_le (length p) longest_path

all_short : list_all is_short (map (λ p. p.now) PATHS) ≡ true
all_short = refl

short_at : (ps : List (List ℕ)) (i : ℕ) (p : List ℕ) → list_all is_short ps ≡ true → slice_get ps i ≡ Some p
    → is_short p ≡ true
short_at [] i p h e = absurd cc
short_at (q ∷ qs) zero p h e =
    subst (λ (x : List ℕ). is_short x ≡ true) (same_Some q p e) (both_true (is_short q) (list_all is_short qs) h).0
short_at (q ∷ qs) (suc i) p h e = short_at qs i p (both_true (is_short q) (list_all is_short qs) h).1 e

-- no path of the table is longer than the longest
pub path_short : (i : ℕ) (p : List ℕ) → slice_get (map (λ p. p.now) PATHS) i ≡ Some p → length p ≤ longest_path
path_short i p e = let s = short_at (map (λ p. p.now) PATHS) i p all_short e in grind (arith, nat_tests, s)

-- the code's table of paths is that of the specification
pub paths_are : map (λ p. p.now) PATHS ≡ printed_paths
unfolding paths printed_paths
paths_are = refl

-- the path at a place of the code is that of the specification
pub path_found : (i : ℕ) (p : List ℕ) → slice_get (map (λ p. p.now) PATHS) i ≡ Some p → p ≡ path_of i
unfolding path_of
path_found i p e = sym (ap name_or_empty (subst (λ (ps : List (List ℕ)). slice_get ps i ≡ Some p) paths_are e))

-- no path stands twice, and each that is no name continues an earlier one
pub paths_whole : are_whole [] printed_paths ≡ true
unfolding paths printed_paths
paths_whole = refl

-- the elements that are named have their paths
pub named_paths : map (λ e. path_of e.0) named_elements ≡ map (λ e. codes e.1) named_elements
unfolding named_elements path_of paths printed_paths
named_paths = refl
