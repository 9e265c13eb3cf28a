-- The pairing of two lists of dates is the only one: ordered lists with the same members are the same.
use Rattle.std.proofs.Common.{◌≡◌, ◌⊎◌, inl, inr, ℕ, zero, suc, ◌<◌, List, [], ◌∷◌, Option, Some, None}
use Rattle.std.proofs.Common.{ℤ, ◌<ℤ◌, arith, refl, sym, subst, ap, ap₂, ◌∙◌}
use Rattle.std.specs.List.{Contains}
use Rattle.std.proofs.lemmas.Option.{same_Some, slice_get-get_or}
use Rattle.jiff_core.proofs.SignedLemmas.{signed_arith}
use Rattle.irs_breaks.specs.Pairing.{At, Ahead, AreRowsInOrder, ComesBefore, IsPairing}
use Rattle.irs_breaks.specs.declared.dated.PairedRow.{PairedRow}
use Rattle.irs_breaks.proofs.Merging.{contains_at}

at_contains : {X : Type 0} (xs : List X) (x : X) → Contains xs x → (k : ℕ) × At xs k x
at_contains xs x c = (c.0, slice_get-get_or xs c.0 x c.1 ∙ ap (λ z. Some z) c.2)

-- ---- no row comes before one that comes before it

ahead_back : {X : Type 0} (Less : X → X → Type 0) (a b : Option X) (P Q : Type 0) → ((x y : X) → Less x y → Less y x → ⊥)
    → (P → Q → ⊥) → Ahead Less a b P → Ahead Less b a Q → ⊥
ahead_back Less (Some x) (Some y) P Q strict next (inl h) (inl k) = strict x y h k
ahead_back Less (Some x) (Some y) P Q strict next (inl h) (inr k) =
    strict x x (subst (λ z. Less x z) k.0 h) (subst (λ z. Less x z) k.0 h)
ahead_back Less (Some x) (Some y) P Q strict next (inr h) (inl k) =
    strict y y (subst (λ z. Less y z) h.0 k) (subst (λ z. Less y z) h.0 k)
ahead_back Less (Some x) (Some y) P Q strict next (inr h) (inr k) = next h.1 k.1
ahead_back Less (Some x) None P Q strict next h k = k
ahead_back Less None (Some y) P Q strict next h k = h
ahead_back Less None None P Q strict next h k = next h k

days_strict : (x y : ℤ) → x <ℤ y → y <ℤ x → ⊥
days_strict x y h k = omega (arith, signed_arith, h, k)

places_strict : (x y : ℕ) → x < y → y < x → ⊥
places_strict x y h k = omega (arith, h, k)

before_back : (m n : PairedRow) → ComesBefore m n → ComesBefore n m → ⊥
before_back m n h k =
    ahead_back ◌<ℤ◌ m.day n.day (Ahead ◌<◌ m.ours n.ours (Ahead ◌<◌ m.theirs n.theirs ⊥))
    (Ahead ◌<◌ n.ours m.ours (Ahead ◌<◌ n.theirs m.theirs ⊥)) days_strict
    (ahead_back ◌<◌ m.ours n.ours (Ahead ◌<◌ m.theirs n.theirs ⊥) (Ahead ◌<◌ n.theirs m.theirs ⊥) places_strict
    (ahead_back ◌<◌ m.theirs n.theirs ⊥ ⊥ places_strict (λ a b. a))) h k

-- ---- lists in order

-- the rows after the first of ordered rows are in order
pub order_rest : (m : PairedRow) (ms : List PairedRow) → AreRowsInOrder (m ∷ ms) → AreRowsInOrder ms
order_rest m ms h p q a b less ata atb = h (suc p) (suc q) a b (omega (arith, less)) ata atb

at_rest : (m n : PairedRow) (ms : List PairedRow) (k : ℕ) → At (m ∷ ms) k n → (m ≡ n) ⊎ Contains ms n
at_rest m n ms zero at = inl (same_Some m n at)
at_rest m n ms (suc k) at = inr (contains_at ms k n at)

-- a row of a list is its first row or one of the rest
pub contains_rest : (m n : PairedRow) (ms : List PairedRow) → Contains (m ∷ ms) n → (m ≡ n) ⊎ Contains ms n
contains_rest m n ms c = let place = at_contains (m ∷ ms) n c in at_rest m n ms place.0 place.1

-- a list contains its first row
pub contains_first : (m : PairedRow) (ms : List PairedRow) → Contains (m ∷ ms) m
contains_first m ms = contains_at (m ∷ ms) zero m refl

-- and each row of the rest
pub contains_more : (m n : PairedRow) (ms : List PairedRow) → Contains ms n → Contains (m ∷ ms) n
contains_more m n ms c = let place = at_contains ms n c in contains_at (m ∷ ms) (suc place.0) n place.1

-- the first row comes before each other
pub first_before : (m n : PairedRow) (ms : List PairedRow) → AreRowsInOrder (m ∷ ms) → Contains ms n → ComesBefore m n
first_before m n ms h c =
    let place = at_contains ms n c in h zero (suc place.0) m n (omega arith) refl place.1

first_same : (m n : PairedRow) (ms ns : List PairedRow) → AreRowsInOrder (m ∷ ms) → AreRowsInOrder (n ∷ ns)
    → Contains (n ∷ ns) m → Contains (m ∷ ms) n → m ≡ n
first_same m n ms ns h k c d = elim (contains_rest n m ns c) [
  | inl same ↦ sym same
  | inr later ↦ elim (contains_rest m n ms d) [
    | inl same ↦ same
    | inr back ↦ absurd (before_back m n (first_before m n ms h back) (first_before n m ns k later))
  ]
]

-- a member of both that isn't the first of one isn't the first of the other
in_rest : (m n x : PairedRow) (ms ns : List PairedRow) → AreRowsInOrder (m ∷ ms) → m ≡ n → Contains ms x → Contains (n ∷ ns) x
    → Contains ns x
in_rest m n x ms ns h same inside c = elim (contains_rest n x ns c) [
  | inl first ↦
      let less : ComesBefore m m = subst (ComesBefore m) (sym (same ∙ first)) (first_before m x ms h inside) in
      absurd (before_back m m less less)
  | inr later ↦ later
]

-- two ordered lists with the same members are the same
pub one_in_order : (ms ns : List PairedRow) → AreRowsInOrder ms → AreRowsInOrder ns
    → ((x : PairedRow) → Contains ms x → Contains ns x) → ((x : PairedRow) → Contains ns x → Contains ms x) → ms ≡ ns
one_in_order [] [] h k to back = refl
one_in_order [] (n ∷ ns) h k to back = let c = (back n (contains_first n ns)).1 in absurd (omega (arith, c))
one_in_order (m ∷ ms) [] h k to back = let c = (to m (contains_first m ms)).1 in absurd (omega (arith, c))
one_in_order (m ∷ ms) (n ∷ ns) h k to back =
    let same = first_same m n ms ns h k (to m (contains_first m ms)) (back n (contains_first n ns)) in
    ap₂ ◌∷◌ same (one_in_order ms ns (order_rest m ms h) (order_rest n ns k)
    (λ x c. in_rest m n x ms ns h same c (to x (contains_more m x ms c)))
    (λ x c. in_rest n m x ns ms k (sym same) c (back x (contains_more n x ns c))))

-- two lists of dates have one pairing only
pub one_pairing : (from : ℤ) (ours theirs : List (Option ℤ)) (a b : List PairedRow) → IsPairing from ours theirs a
    → IsPairing from ours theirs b → a ≡ b
one_pairing from ours theirs a b h k =
    one_in_order a b h.in_order k.in_order (λ x c. k.complete x (h.sound x c)) (λ x c. h.complete x (k.sound x c))
