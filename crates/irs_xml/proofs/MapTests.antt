-- Testing items through a view is testing their views.
use Rattle.std.proofs.Common.{◌≡◌, Bool, ◌&&◌, ◌||◌, List, [], ◌∷◌, map, refl, ap}
use Rattle.std.specs.List.{list_all, list_any}

-- testing every item through a view is testing every view
pub list_all-map : {A B : Type 0} (f : A → B) (p : B → Bool) (xs : List A) → list_all (λ x. p (f x)) xs ≡ list_all p (map f xs)
list_all-map f p [] = refl
list_all-map f p (x ∷ xs) = ap (λ b. p (f x) && b) (list_all-map f p xs)

-- some item passes a test through a view just where some view passes it
pub list_any-map : {A B : Type 0} (f : A → B) (p : B → Bool) (xs : List A) → list_any (λ x. p (f x)) xs ≡ list_any p (map f xs)
list_any-map f p [] = refl
list_any-map f p (x ∷ xs) = ap (λ b. p (f x) || b) (list_any-map f p xs)
