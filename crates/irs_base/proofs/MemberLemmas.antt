-- Members of a list one after another, by their numbers or with their partners.
use Rattle.std.proofs.Common.{◌≡◌, ℕ, zero, suc, ◌+◌, ◌-◌, ◌<◌, ◌≤◌, List, [], ◌∷◌, ◌++◌, length, take, arith, refl}
use Rattle.std.proofs.Common.{sym, ◌∙◌, subst, ap, ap₂, inl, inr, Some}
use Rattle.std.specs.List.{slice_get}
use Rattle.std.specs.Prelude.{unwrap_or}
use Rattle.std.proofs.lemmas.Bool.{cases_lt}
use Rattle.std.proofs.lemmas.List.{take_more}
use Rattle.std.proofs.lemmas.Option.{slice_get_within, get_or_from_slice_get}
use Rattle.irs_base.specs.Lists.{EachNumbered, Every, Pairs, HoldsOf}

-- what is there is the same where both are the same
pub some_is : {X : Type 0} (a b : X) → Some a ≡ Some b → a ≡ b
some_is a b e = cc

-- what holds of each member holds of the one at a place
pub every_get : {X : Type 0} (P : X → Type 0) (xs : List X) (j : ℕ) (x : X) → Every P xs → slice_get xs j ≡ Some x → P x
every_get P [] j x h e = absurd (cc)
every_get P (y ∷ ys) zero x h e = subst P (ap (λ o. unwrap_or o y) e) h.0
every_get P (y ∷ ys) (suc j) x h e = every_get P ys j x h.1 e

-- none of the first i members has P
abbrev pub NoneOf : {X : Type 0} → (X → Type 0) → List X → ℕ → Type 0
NoneOf P xs i = (n : ℕ) → n ≤ i → HoldsOf P xs n → ⊥

-- none of the first members has it, and the next has it not
pub none_of_more : {X : Type 0} (P : X → Type 0) (xs : List X) (i : ℕ) (x : X) → slice_get xs i ≡ Some x → (P x → ⊥)
    → NoneOf P xs i → NoneOf P xs (i + 1)
none_of_more P xs i x at good below n le h = elim (cases_lt n (i + 1)) [
  | inl less ↦ below n (omega arith) h
  | inr more ↦
      let place : n - 1 ≡ i = omega arith in
      let same : h.member ≡ x = some_is h.member x (sym h.at ∙ ap (slice_get xs) place ∙ at) in
      good (subst P same h.holds)
]

-- paired lists stay paired with one more pair
pub pairs_push : {X Y : Type 0} (R : X → Y → Type 0) (xs : List X) (ys : List Y) (x : X) (y : Y) → Pairs R xs ys → R x y
    → Pairs R (xs ++ x ∷ []) (ys ++ y ∷ [])
pairs_push R [] [] x y h r = (r, tt)
pairs_push R [] (z ∷ ys) x y h r = absurd h
pairs_push R (z ∷ xs) [] x y h r = absurd h
pairs_push R (z ∷ xs) (w ∷ ys) x y h r = (h.0, pairs_push R xs ys x y h.1 r)

-- the first members are paired with one more
pub pairs_more : {X Y : Type 0} (R : X → Y → Type 0) (xs : List X) (i : ℕ) (ys : List Y) (x : X) (y : Y)
    → slice_get xs i ≡ Some x → Pairs R (take i xs) ys → R x y → Pairs R (take (i + 1) xs) (ys ++ y ∷ [])
pairs_more R xs i ys x y at h r =
    let within = slice_get_within xs i x at in
    let longer : take (i + 1) xs ≡ take i xs ++ x ∷ [] =
    take_more xs i x within ∙ ap (λ z. take i xs ++ z ∷ []) (get_or_from_slice_get xs i x x at) in
    rw longer (pairs_push R (take i xs) ys x y h r)

-- where each member has a partner there is the list of partners
pub pairs_there : {X Y : Type 0} (R : X → Y → Type 0) (xs : List X)
    → ((i : ℕ) (x : X) → slice_get xs i ≡ Some x → (y : Y) × R x y) → (ys : List Y) × Pairs R xs ys
pairs_there R [] partner = ([], tt)
pairs_there R (x ∷ xs) partner =
    let first = partner zero x refl in
    let rest = pairs_there R xs (λ i z at. partner (suc i) z at) in
    (first.0 ∷ rest.0, (first.1, rest.1))

-- a list is paired with one list if a member is with one
pub one_paired : {X Y : Type 0} (R : X → Y → Type 0) → ((x : X) (y z : Y) → R x y → R x z → y ≡ z)
    → (xs : List X) (ys zs : List Y) → Pairs R xs ys → Pairs R xs zs → ys ≡ zs
one_paired R one [] [] [] h k = refl
one_paired R one [] [] (z ∷ zs) h k = absurd k
one_paired R one [] (y ∷ ys) zs h k = absurd h
one_paired R one (x ∷ xs) [] zs h k = absurd h
one_paired R one (x ∷ xs) (y ∷ ys) [] h k = absurd k
one_paired R one (x ∷ xs) (y ∷ ys) (z ∷ zs) h k = ap₂ ◌∷◌ (one x y z h.0 k.0) (one_paired R one xs ys zs h.1 k.1)

-- a list numbered by a relation with one more member
pub numbered_push : {X : Type 0} (P : ℕ → X → Type 0) (n m : ℕ) (xs : List X) (x : X) → EachNumbered P n xs
    → n + length xs ≡ m → P m x → EachNumbered P n (xs ++ x ∷ [])
numbered_push P n m [] x h e p = (subst (λ (k : ℕ). P k x) (omega (arith, e)) p, tt)
numbered_push P n m (y ∷ xs) x h e p = (h.0, numbered_push P (n + 1) m xs x h.1 (omega (arith, e)) p)

-- a relation with one member for each number has one list of a length
pub one_numbered : {X : Type 0} (P : ℕ → X → Type 0) → ((n : ℕ) (x y : X) → P n x → P n y → x ≡ y)
    → (n : ℕ) (xs ys : List X) → length xs ≡ length ys → EachNumbered P n xs → EachNumbered P n ys → xs ≡ ys
one_numbered P one n [] [] e h k = refl
one_numbered P one n [] (y ∷ ys) e h k = absurd (omega (arith, e))
one_numbered P one n (x ∷ xs) [] e h k = absurd (omega (arith, e))
one_numbered P one n (x ∷ xs) (y ∷ ys) e h k =
    ap₂ ◌∷◌ (one n x y h.0 k.0) (one_numbered P one (n + 1) xs ys (omega (arith, e)) h.1 k.1)

-- what follows of each numbered member
pub numbered_map : {X : Type 0} (P Q : ℕ → X → Type 0) (n : ℕ) (xs : List X)
    → ((m : ℕ) (x : X) → n ≤ m → m < n + length xs → P m x → Q m x) → EachNumbered P n xs → EachNumbered Q n xs
numbered_map P Q n [] f h = tt
numbered_map P Q n (x ∷ xs) f h = (
  f n x (omega arith) (omega arith) h.0,
  numbered_map P Q (n + 1) xs (λ m y low high p. f m y (omega arith) (omega (arith, high)) p) h.1,
)

-- m members from the number n on, where each of these numbers has one
pub numbered_there : {X : Type 0} (P : ℕ → X → Type 0) (m n : ℕ) → ((k : ℕ) → n ≤ k → k < n + m → (x : X) × P k x)
    → (xs : List X) × (length xs ≡ m) × EachNumbered P n xs
numbered_there P zero n member = ([], refl, tt)
numbered_there P (suc m) n member =
    let first = member n (omega arith) (omega arith) in
    let rest = numbered_there P m (n + 1) (λ k low high. member k (omega (arith, low)) (omega (arith, high))) in
    (first.0 ∷ rest.0, omega (arith, rest.1), (first.1, rest.2))

-- the member with a number, and what holds of the one at a place
pub numbered_has : {X : Type 0} (P : ℕ → X → Type 0) (n : ℕ) (xs : List X) (k : ℕ) → EachNumbered P n xs → n ≤ k
    → k < n + length xs → (x : X) × P k x
numbered_has P n [] k h low high = absurd (omega (arith, low, high))
numbered_has P n (x ∷ xs) k h low high = elim (cases_lt n k) [
  | inl more ↦ numbered_has P (n + 1) xs k h.1 (omega (arith, more)) (omega (arith, high))
  | inr less ↦ let same : n ≡ k = omega (arith, low, less) in (x, subst (λ (j : ℕ). P j x) same h.0)
]

-- the member at a place of a numbered list
pub numbered_get : {X : Type 0} (P : ℕ → X → Type 0) (n k : ℕ) (xs : List X) (x : X) → EachNumbered P n xs
    → slice_get xs k ≡ Some x → P (n + k) x
numbered_get P n k [] x h at = absurd (let low = slice_get_within [] k x at in omega (arith, low))
numbered_get P n zero (y ∷ xs) x h at = let e : y ≡ x = cc in let same : n ≡ n + 0 = omega arith in
    subst (λ (m : ℕ). P m x) same (subst (P n) e h.0)
numbered_get P n (suc k) (y ∷ xs) x h at = let same : n + 1 + k ≡ n + suc k = omega arith in
    subst (λ (m : ℕ). P m x) same (numbered_get P (n + 1) k xs x h.1 at)
