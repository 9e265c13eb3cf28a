-- What holds of each member of a list, and of each of the lists that are made of it.
use Rattle.std.proofs.Common.{◌≡◌, ℕ, zero, suc, ◌+◌, ◌<◌, ◌≤◌, List, [], ◌∷◌, ◌++◌, map, length, All, Some, slice_get}
use Rattle.std.proofs.Common.{refl, sym, ap, ap₂, subst, ◌∙◌, inl, inr, arith}
use Rattle.std.specs.List.{range_with_len, flat_map, enumerate_from}
use Rattle.std.proofs.lemmas.Bool.{cases_lt}
use Rattle.std.proofs.lemmas.List.Elements.{All-cons, All-head, All-nil, All-tail}
use Rattle.std.proofs.lemmas.Option.{same_Some}
use Rattle.irs_base.specs.Lists.{EachNumbered, Every, Pairs}

-- ---- lists that are made of others

-- what holds of each member of two lists holds of each member of both together
pub every_both : {X : Type 0} (P : X → Type 0) (xs ys : List X) → Every P xs → Every P ys → Every P (xs ++ ys)
every_both P [] ys h k = k
every_both P (x ∷ xs) ys h k = (h.0, every_both P xs ys h.1 k)

-- what holds of each member of the list made of a member holds of all these lists together
pub every_flat : {X Y : Type 0} (P : Y → Type 0) (Q : X → Type 0) (f : X → List Y) → ((x : X) → Q x → Every P (f x))
    → (xs : List X) → Every Q xs → Every P (flat_map f xs)
every_flat P Q f each [] h = tt
every_flat P Q f each (x ∷ xs) h = every_both P (f x) (flat_map f xs) (each x h.0) (every_flat P Q f each xs h.1)

-- what holds of what is made of a member holds of each member made
pub every_map : {X Y : Type 0} (P : Y → Type 0) (Q : X → Type 0) (f : X → Y) → ((x : X) → Q x → P (f x)) → (xs : List X)
    → Every Q xs → Every P (map f xs)
every_map P Q f each [] h = tt
every_map P Q f each (x ∷ xs) h = (each x h.0, every_map P Q f each xs h.1)

-- what holds of each member made holds of what is made of each member
pub every_made : {X Y : Type 0} (P : Y → Type 0) (f : X → Y) (xs : List X) → Every P (map f xs)
    → Every (λ x. P (f x)) xs
every_made P f [] h = tt
every_made P f (x ∷ xs) h = (h.0, every_made P f xs h.1)

-- what holds of each member holds of each numbered member
pub every_enumerated : {X : Type 0} (P : X → Type 0) (n : ℕ) (xs : List X) → Every P xs
    → Every (λ (e : ℕ × X). P e.1) (enumerate_from n xs)
every_enumerated P n [] h = tt
every_enumerated P n (x ∷ xs) h = (h.0, every_enumerated P (n + 1) xs h.1)

-- ---- from other words for each member

-- what holds of all holds of each member
pub every_any : {X : Type 0} (P : X → Type 0) → ((x : X) → P x) → (xs : List X) → Every P xs
every_any P each [] = tt
every_any P each (x ∷ xs) = (each x, every_any P each xs)

-- the two words for each member agree
pub every_all : {X : Type 0} (P : X → Type 0) (xs : List X) → All P xs → Every P xs
every_all P [] h = tt
every_all P (x ∷ xs) h = (All-head P x xs h, every_all P xs (All-tail P x xs h))

-- what holds of each numbered member, holds of each
pub every_numbered : {X : Type 0} (P : ℕ → X → Type 0) (Q : X → Type 0) (n : ℕ) (xs : List X)
    → ((i : ℕ) (x : X) → P i x → Q x) → EachNumbered P n xs → Every Q xs
every_numbered P Q n [] law h = tt
every_numbered P Q n (x ∷ xs) law h = (law n x h.0, every_numbered P Q (n + 1) xs law h.1)

-- what follows for each number of the list holds of each member
pub all_numbered : {X : Type 0} (P : ℕ → X → Type 0) (Q : X → Type 0) (n : ℕ) (xs : List X)
    → ((i : ℕ) (x : X) → n ≤ i → i < n + length xs → P i x → Q x) → EachNumbered P n xs → All Q xs
all_numbered P Q n [] law h = All-nil Q
all_numbered P Q n (x ∷ xs) law h =
    All-cons Q x xs (law n x (omega arith) (omega arith) h.0)
    (all_numbered P Q (n + 1) xs (λ i y low high p. law i y (omega (arith, low)) (omega (arith, high)) p) h.1)

-- a list made of a function of the number
pub numbered_computed : {X : Type 0} (P : ℕ → X → Type 0) (f : ℕ → X) (n k : ℕ)
    → ((i : ℕ) → n ≤ i → i < n + k → P i (f i)) → EachNumbered P n (map f (range_with_len n k))
numbered_computed P f n zero each = tt
numbered_computed P f n (suc k) each = (
  each n (omega arith) (omega arith),
  numbered_computed P f (n + 1) k (λ i low high. each i (omega (arith, low)) (omega (arith, high))),
)

-- ---- lists of which another is made

-- where each member is made of one with Q, there is a list of which they are made
pub made_there : {X Y : Type 0} (f : Y → X) (P : X → Type 0) (Q : Y → Type 0)
    → ((x : X) → P x → (y : Y) × (f y ≡ x) × Q y) → (xs : List X) → Every P xs
    → (ys : List Y) × (map f ys ≡ xs) × Every Q ys
made_there f P Q make [] h = ([], refl, tt)
made_there f P Q make (x ∷ xs) h =
    let first = make x h.0 in
    let rest = made_there f P Q make xs h.1 in
    (first.0 ∷ rest.0, ap₂ ◌∷◌ first.1 rest.1, (first.2, rest.2))

-- and one list, where each is made of one alone
pub one_made : {X Y : Type 0} (f : Y → X) (P : X → Type 0) (Q : Y → Type 0)
    → ((y z : Y) → P (f y) → f y ≡ f z → Q y → Q z → y ≡ z) → (ys zs : List Y) → map f ys ≡ map f zs
    → Every P (map f ys) → Every Q ys → Every Q zs → ys ≡ zs
one_made f P Q one [] [] e within h k = refl
one_made f P Q one [] (z ∷ zs) e within h k = absurd (cc)
one_made f P Q one (y ∷ ys) [] e within h k = absurd (cc)
one_made f P Q one (y ∷ ys) (z ∷ zs) e within h k =
    let head : f y ≡ f z = cc in
    let rest : map f ys ≡ map f zs = cc in
    ap₂ ◌∷◌ (one y z within.0 head h.0 k.0) (one_made f P Q one ys zs rest within.1 h.1 k.1)

-- ---- partners

-- lists that are paired have one length
pub pairs_length : {X Y : Type 0} (R : X → Y → Type 0) (xs : List X) (ys : List Y) → Pairs R xs ys
    → length ys ≡ length xs
pairs_length R [] [] h = refl
pairs_length R [] (y ∷ ys) h = absurd h
pairs_length R (x ∷ xs) [] h = absurd h
pairs_length R (x ∷ xs) (y ∷ ys) h = let e = pairs_length R xs ys h.1 in omega (arith, e)

-- what holds of a partner of each member, holds of each partner
pub every_partner : {X Y : Type 0} (R : X → Y → Type 0) (P : X → Type 0) (Q : Y → Type 0)
    → ((x : X) (y : Y) → P x → R x y → Q y) → (xs : List X) (ys : List Y) → All P xs → Pairs R xs ys → Every Q ys
every_partner R P Q law [] [] all h = tt
every_partner R P Q law [] (y ∷ ys) all h = absurd h
every_partner R P Q law (x ∷ xs) [] all h = absurd h
every_partner R P Q law (x ∷ xs) (y ∷ ys) all h =
    (law x y (All-head P x xs all) h.0, every_partner R P Q law xs ys (All-tail P x xs all) h.1)

-- where each member has at most one partner there is one list of partners
pub one_partners : {X Y : Type 0} (R : X → Y → Type 0) (xs : List X)
    → ((i : ℕ) (x : X) → slice_get xs i ≡ Some x → (y z : Y) → R x y → R x z → y ≡ z) → (ys zs : List Y) → Pairs R xs ys
    → Pairs R xs zs → ys ≡ zs
one_partners R [] one [] [] h k = refl
one_partners R [] one [] (z ∷ zs) h k = absurd k
one_partners R [] one (y ∷ ys) zs h k = absurd h
one_partners R (x ∷ xs) one [] zs h k = absurd h
one_partners R (x ∷ xs) one (y ∷ ys) [] h k = absurd k
one_partners R (x ∷ xs) one (y ∷ ys) (z ∷ zs) h k =
    ap₂ ◌∷◌ (one zero x refl y z h.0 k.0) (one_partners R xs (λ i w at. one (suc i) w at) ys zs h.1 k.1)

-- what holds of each of the first n members and of the next one holds of each of the first n + 1
pub below_more : {X : Type 0} (P : X → Type 0) (xs : List X) (n : ℕ) (x : X) → slice_get xs n ≡ Some x → P x
    → ((i : ℕ) (y : X) → i < n → slice_get xs i ≡ Some y → P y) → (i : ℕ) (y : X) → i < n + 1
    → slice_get xs i ≡ Some y → P y
below_more P xs n x at holds before i y below there = elim (cases_lt i n) [
  | inl less ↦ before i y less there
  | inr more ↦
      let place : i ≡ n = omega (arith, below, more) in
      subst P (same_Some x y (sym at ∙ ap (slice_get xs) (sym place) ∙ there)) holds
]
