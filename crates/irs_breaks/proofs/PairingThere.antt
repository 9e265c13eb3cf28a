-- Two lists of dates have a pairing, in that there can't be none: of all rows that could be listed those that are
-- listed, put in order.
use Rattle.std.proofs.Common.{◌≡◌, ◌⊎◌, inl, inr, ℕ, zero, suc, ◌<◌, List, [], ◌∷◌, ◌++◌, length, map, Option, Some}
use Rattle.std.proofs.Common.{None, ℤ, ◌<ℤ◌, arith, refl, sym, subst, ap, ◌∙◌}
use Rattle.std.specs.List.{Contains, flat_map}
use Rattle.std.proofs.lemmas.Bool.{cases_lt, cases_order}
use Rattle.std.proofs.lemmas.List.Elements.{Contains-append_left, Contains-append_right}
use Rattle.std.proofs.lemmas.Option.{none-some, same_Some, slice_get_within}
use Rattle.jiff_core.proofs.SignedLemmas.{signed_arith}
use Rattle.irs_base.proofs.Decided.{order_of}
use Rattle.irs_breaks.specs.Pairing.{Ahead, AreRowsInOrder, At, ComesBefore, IsListedRow, IsPairing, extra, missing, paired}
use Rattle.irs_breaks.specs.Pairing.{row_of_ours, row_of_theirs, rows_from, undated, undated_extra, undated_ours}
use Rattle.irs_breaks.specs.Pairing.{undated_theirs}
use Rattle.irs_breaks.specs.declared.dated.DatedRow.{DatedRow}
use Rattle.irs_breaks.specs.declared.dated.PairedRow.{PairedRow}
use Rattle.irs_breaks.proofs.BlockLemmas.{at_contains}
use Rattle.irs_breaks.proofs.Merging.{contains_at}
use Rattle.irs_breaks.proofs.OnePairing.{contains_first, contains_more, contains_rest, first_before, order_rest}

-- ---- of two rows one comes before the other, or they are the same

-- which of two values is less, or that they are the same
abbrev Sides : {X : Type 0} → (X → X → Type 0) → X → X → Type 0
Sides Less x y = Less x y ⊎ (Less y x ⊎ (x ≡ y))

some_cases : {X : Type 0} (Less : X → X → Type 0) (x y : X) (P Q E : Type 0) → Sides Less x y → P ⊎ (Q ⊎ E)
    → Ahead Less (Some x) (Some y) P ⊎ (Ahead Less (Some y) (Some x) Q ⊎ ((Some x ≡ Some y) × E))
some_cases Less x y P Q E (inl less) next = inl (inl less)
some_cases Less x y P Q E (inr (inl more)) next = inr (inl (inl more))
some_cases Less x y P Q E (inr (inr same)) (inl p) = inl (inr (same, p))
some_cases Less x y P Q E (inr (inr same)) (inr (inl q)) = inr (inl (inr (sym same, q)))
some_cases {X} Less x y P Q E (inr (inr same)) (inr (inr e)) = inr (inr (ap (λ (z : X). Some z) same, e))

ahead_cases : {X : Type 0} (Less : X → X → Type 0) (a b : Option X) (P Q E : Type 0) → ((x y : X) → Sides Less x y)
    → P ⊎ (Q ⊎ E) → Ahead Less a b P ⊎ (Ahead Less b a Q ⊎ ((a ≡ b) × E))
ahead_cases Less (Some x) (Some y) P Q E sides next = some_cases Less x y P Q E (sides x y) next
ahead_cases Less (Some x) None P Q E sides next = inl tt
ahead_cases Less None (Some y) P Q E sides next = inr (inl tt)
ahead_cases Less None None P Q E sides (inl p) = inl p
ahead_cases Less None None P Q E sides (inr (inl q)) = inr (inl q)
ahead_cases Less None None P Q E sides (inr (inr e)) = inr (inr (refl, e))

place_sides : (a b : ℕ) → Sides ◌<◌ a b
place_sides a b = elim (cases_order a b) [
  | inl same ↦ inr (inr same)
  | inr (inl less) ↦ inl less
  | inr (inr more) ↦ inr (inl more)
]

same_row : (m n : PairedRow) → m.day ≡ n.day → m.ours ≡ n.ours → m.theirs ≡ n.theirs → m ≡ n
same_row m n d o t = λ i. record { day = d i; ours = o i; theirs = t i }

row_sides : (m n : PairedRow) → Sides ComesBefore m n
row_sides m n =
    let theirs = ahead_cases ◌<◌ m.theirs n.theirs ⊥ ⊥ (Unit {0}) place_sides (inr (inr tt)) in
    let ours = ahead_cases ◌<◌ m.ours n.ours (Ahead ◌<◌ m.theirs n.theirs ⊥) (Ahead ◌<◌ n.theirs m.theirs ⊥)
    ((m.theirs ≡ n.theirs) × Unit {0}) place_sides theirs in
    elim (ahead_cases ◌<ℤ◌ m.day n.day (Ahead ◌<◌ m.ours n.ours (Ahead ◌<◌ m.theirs n.theirs ⊥))
    (Ahead ◌<◌ n.ours m.ours (Ahead ◌<◌ n.theirs m.theirs ⊥))
    ((m.ours ≡ n.ours) × ((m.theirs ≡ n.theirs) × Unit {0})) order_of ours) [
      | inl before ↦ inl before
      | inr (inl after) ↦ inr (inl after)
      | inr (inr same) ↦ inr (inr (same_row m n same.0 same.1.0 same.1.1.0))
    ]

-- ---- a row that comes before another comes before all that follow

ahead_trans : {X : Type 0} (Less : X → X → Type 0) (a b c : Option X) (P Q R : Type 0)
    → ((x y z : X) → Less x y → Less y z → Less x z) → (P → Q → R) → Ahead Less a b P → Ahead Less b c Q
    → Ahead Less a c R
ahead_trans Less (Some x) (Some y) (Some z) P Q R trans next (inl h) (inl k) = inl (trans x y z h k)
ahead_trans Less (Some x) (Some y) (Some z) P Q R trans next (inl h) (inr k) = inl (subst (λ w. Less x w) k.0 h)
ahead_trans Less (Some x) (Some y) (Some z) P Q R trans next (inr h) (inl k) = inl (subst (λ w. Less w z) (sym h.0) k)
ahead_trans Less (Some x) (Some y) (Some z) P Q R trans next (inr h) (inr k) = inr (h.0 ∙ k.0, next h.1 k.1)
ahead_trans Less (Some x) (Some y) None P Q R trans next h k = tt
ahead_trans Less (Some x) None (Some z) P Q R trans next h k = absurd k
ahead_trans Less (Some x) None None P Q R trans next h k = tt
ahead_trans Less None (Some y) c P Q R trans next h k = absurd h
ahead_trans Less None None (Some z) P Q R trans next h k = absurd k
ahead_trans Less None None None P Q R trans next h k = next h k

days_trans : (x y z : ℤ) → x <ℤ y → y <ℤ z → x <ℤ z
days_trans x y z h k = omega (arith, signed_arith, h, k)

places_trans : (x y z : ℕ) → x < y → y < z → x < z
places_trans x y z h k = omega (arith, h, k)

before_trans : (l m n : PairedRow) → ComesBefore l m → ComesBefore m n → ComesBefore l n
before_trans l m n h k =
    ahead_trans ◌<ℤ◌ l.day m.day n.day (Ahead ◌<◌ l.ours m.ours (Ahead ◌<◌ l.theirs m.theirs ⊥))
    (Ahead ◌<◌ m.ours n.ours (Ahead ◌<◌ m.theirs n.theirs ⊥)) (Ahead ◌<◌ l.ours n.ours (Ahead ◌<◌ l.theirs n.theirs ⊥))
    days_trans
    (ahead_trans ◌<◌ l.ours m.ours n.ours (Ahead ◌<◌ l.theirs m.theirs ⊥) (Ahead ◌<◌ m.theirs n.theirs ⊥)
    (Ahead ◌<◌ l.theirs n.theirs ⊥) places_trans
    (ahead_trans ◌<◌ l.theirs m.theirs n.theirs ⊥ ⊥ ⊥ places_trans (λ p q. p))) h k

-- ---- a row more in a list in order

order_cons : (m : PairedRow) (ms : List PairedRow) → ((n : PairedRow) → Contains ms n → ComesBefore m n)
    → AreRowsInOrder ms → AreRowsInOrder (m ∷ ms)
order_cons m ms first rest zero zero a b less ata atb = absurd (omega (arith, less))
order_cons m ms first rest zero (suc q) a b less ata atb =
    subst (λ (w : PairedRow). ComesBefore w b) (same_Some m a ata) (first b (contains_at ms q b atb))
order_cons m ms first rest (suc p) zero a b less ata atb = absurd (omega (arith, less))
order_cons m ms first rest (suc p) (suc q) a b less ata atb = rest p q a b (omega (arith, less)) ata atb

-- rows in order, with one more at its place
record Placed (m : PairedRow) (rows : List PairedRow) : Type 0 where
  all : List PairedRow
  in_order : AreRowsInOrder all
  holds : Contains all m
  keeps : (n : PairedRow) → Contains rows n → Contains all n
  only : (n : PairedRow) → Contains all n → (m ≡ n) ⊎ Contains rows n

placed_by : (m x : PairedRow) (xs : List PairedRow) → AreRowsInOrder (x ∷ xs) → Placed m xs → Sides ComesBefore m x
    → Placed m (x ∷ xs)
placed_by m x xs sorted rest (inl before) = record {
  all = m ∷ x ∷ xs;
  in_order = order_cons m (x ∷ xs) (λ n c. elim (contains_rest x n xs c) [
    | inl same ↦ subst (ComesBefore m) same before
    | inr later ↦ before_trans m x n before (first_before x n xs sorted later)
  ]) sorted;
  holds = contains_first m (x ∷ xs);
  keeps = λ n c. contains_more m n (x ∷ xs) c;
  only = λ n c. contains_rest m n (x ∷ xs) c;
}
placed_by m x xs sorted rest (inr (inl after)) = record {
  all = x ∷ rest.all;
  in_order = order_cons x rest.all (λ n c. elim (rest.only n c) [
    | inl same ↦ subst (ComesBefore x) same after
    | inr later ↦ first_before x n xs sorted later
  ]) rest.in_order;
  holds = contains_more x m rest.all rest.holds;
  keeps = λ n c. elim (contains_rest x n xs c) [
    | inl same ↦ subst (Contains (x ∷ rest.all)) same (contains_first x rest.all)
    | inr later ↦ contains_more x n rest.all (rest.keeps n later)
  ];
  only = λ n c. elim (contains_rest x n rest.all c) [
    | inl same ↦ inr (subst (Contains (x ∷ xs)) same (contains_first x xs))
    | inr behind ↦ elim (rest.only n behind) [ inl same ↦ inl same | inr later ↦ inr (contains_more x n xs later) ]
  ];
}
placed_by m x xs sorted rest (inr (inr same)) = record {
  all = x ∷ xs;
  in_order = sorted;
  holds = subst (Contains (x ∷ xs)) (sym same) (contains_first x xs);
  keeps = λ n c. c;
  only = λ n c. inr c;
}

none_in : (n : PairedRow) → Contains [] n → ⊥
none_in n c = let low = c.1 in omega (arith, low)

placed : (m : PairedRow) (rows : List PairedRow) → AreRowsInOrder rows → Placed m rows
placed m [] sorted = record {
  all = m ∷ [];
  in_order = order_cons m [] (λ n c. absurd (none_in n c)) sorted;
  holds = contains_first m [];
  keeps = λ n c. absurd (none_in n c);
  only = λ n c. contains_rest m n [] c;
}
placed m (x ∷ xs) sorted = placed_by m x xs sorted (placed m xs (order_rest x xs sorted)) (row_sides m x)

-- ---- the rows of a list that meet a condition, in order

record AreSifted (P : PairedRow → Type 0) (all rows : List PairedRow) : Type 0 where
  sound : (m : PairedRow) → Contains rows m → P m
  complete : (m : PairedRow) → P m → Contains all m → Contains rows m
  in_order : AreRowsInOrder rows

with_row : (P : PairedRow → Type 0) (c : PairedRow) (cs rows : List PairedRow) → AreSifted P cs rows → P c
    → (rows : List PairedRow) × AreSifted P (c ∷ cs) rows
with_row P c cs rows h is =
    let p = placed c rows h.in_order in (
      p.all,
      record {
        sound = λ m k. elim (p.only m k) [ inl same ↦ subst P same is | inr later ↦ h.sound m later ];
        complete = λ m own k. elim (contains_rest c m cs k) [
          | inl same ↦ subst (Contains p.all) same p.holds
          | inr later ↦ p.keeps m (h.complete m own later)
        ];
        in_order = p.in_order;
      },
    )

without_row : (P : PairedRow → Type 0) (c : PairedRow) (cs rows : List PairedRow) → AreSifted P cs rows → ¬ (P c)
    → AreSifted P (c ∷ cs) rows
without_row P c cs rows h out = record {
  sound = h.sound;
  complete = λ m own k. elim (contains_rest c m cs k) [
    | inl same ↦ absurd (out (subst P (sym same) own))
    | inr later ↦ h.complete m own later
  ];
  in_order = h.in_order;
}

sifted : (P : PairedRow → Type 0) (all : List PairedRow) → ((rows : List PairedRow) → AreSifted P all rows → ⊥) → ⊥
sifted P [] none = none [] (record {
  sound = λ m c. absurd (none_in m c);
  complete = λ m own c. c;
  in_order = λ p q a b less ata atb. absurd (none-some a ata);
})
sifted P (c ∷ cs) none = sifted P cs (λ rows h.
    none rows (without_row P c cs rows h (λ is. let more = with_row P c cs rows h is in none more.0 more.1)))

-- ---- all rows that could be listed

at_map : {X Y : Type 0} (f : X → Y) (xs : List X) (k : ℕ) (x : X) → At xs k x → At (map f xs) k (f x)
at_map f [] k x at = absurd (none-some x at)
at_map {X} f (y ∷ ys) zero x at = ap (λ (z : X). Some (f z)) (same_Some y x at)
at_map f (y ∷ ys) (suc k) x at = at_map f ys k x at

contains_map : {X Y : Type 0} (f : X → Y) (xs : List X) (x : X) (k : ℕ) → At xs k x → Contains (map f xs) (f x)
contains_map f xs x k at = contains_at (map f xs) k (f x) (at_map f xs k x at)

contains_flat : {X Y : Type 0} (f : X → List Y) (xs : List X) (k : ℕ) (x : X) (z : Y) → At xs k x → Contains (f x) z
    → Contains (flat_map f xs) z
contains_flat f [] k x z at c = absurd (none-some x at)
contains_flat {X} f (y ∷ ys) zero x z at c =
    Contains-append_left (f y) (flat_map f ys) z (subst (λ (w : X). Contains (f w) z) (sym (same_Some y x at)) c)
contains_flat f (y ∷ ys) (suc k) x z at c =
    Contains-append_right (f y) (flat_map f ys) z (contains_flat f ys k x z at c)

-- the rows of the places below n
below : (ℕ → PairedRow) → ℕ → List PairedRow
below f zero = []
below f (suc n) = f n ∷ below f n

contains_below : (f : ℕ → PairedRow) (n k : ℕ) → k < n → Contains (below f n) (f k)
unfolding below
contains_below f zero k low = absurd (omega (arith, low))
contains_below f (suc n) k low = elim (cases_lt k n) [
  | inl less ↦ contains_more (f n) (f k) (below f n) (contains_below f n k less)
  | inr most ↦
      let e : n ≡ k = omega (arith, low, most) in
      subst (λ (j : ℕ). Contains (f n ∷ below f n) (f j)) e (contains_first (f n) (below f n))
]

-- a row of ours with each row of theirs
abbrev pairs_of : List DatedRow → DatedRow → List PairedRow
pairs_of ys x = map (λ (y : DatedRow). row_of_ours x (Some y.place)) ys

-- the rows of ours, each with each row of theirs and alone
abbrev of_ours : List DatedRow → List DatedRow → List PairedRow
of_ours xs ys = flat_map (pairs_of ys) xs ++ map (λ (x : DatedRow). row_of_ours x None) xs

-- the rows of both without a date
abbrev without_date : ℕ → ℕ → List PairedRow
without_date n m = below undated_ours n ++ below undated_theirs m

-- every row that could be listed
abbrev candidates : ℤ → List (Option ℤ) → List (Option ℤ) → List PairedRow
candidates from ours theirs =
    of_ours (rows_from from 0 ours) (rows_from from 0 theirs)
    ++ (map row_of_theirs (rows_from from 0 theirs) ++ without_date (length ours) (length theirs))

module _ (from : ℤ) (ours theirs : List (Option ℤ)) where
  abbrev xs : List DatedRow
  xs = rows_from from 0 ours

  abbrev ys : List DatedRow
  ys = rows_from from 0 theirs

  in_ours : (m : PairedRow) → Contains (of_ours xs ys) m → Contains (candidates from ours theirs) m
  in_ours m c =
      Contains-append_left (of_ours xs ys) (map row_of_theirs ys ++ without_date (length ours) (length theirs)) m c

  in_others : (m : PairedRow) → Contains (map row_of_theirs ys ++ without_date (length ours) (length theirs)) m
      → Contains (candidates from ours theirs) m
  in_others m c =
      Contains-append_right (of_ours xs ys) (map row_of_theirs ys ++ without_date (length ours) (length theirs)) m c

  in_undated : (m : PairedRow) → Contains (without_date (length ours) (length theirs)) m
      → Contains (candidates from ours theirs) m
  in_undated m c =
      in_others m (Contains-append_right (map row_of_theirs ys) (without_date (length ours) (length theirs)) m c)

  -- a row that is listed is one of them
  could_be : (m : PairedRow) → IsListedRow from ours theirs m → Contains (candidates from ours theirs) m
  could_be m (paired x y pair is) =
      let p = at_contains xs x pair.one_of_ours in
      let q = at_contains ys y pair.one_of_theirs in
      let row = row_of_ours x (Some y.place) in
      let one = contains_map (λ (z : DatedRow). row_of_ours x (Some z.place)) ys y q.0 q.1 in
      subst (Contains (candidates from ours theirs)) (sym is)
      (in_ours row (Contains-append_left (flat_map (pairs_of ys) xs) (map (λ (z : DatedRow). row_of_ours z None) xs) row
      (contains_flat (pairs_of ys) xs p.0 x row p.1 one)))
  could_be m (missing x inside alone is) =
      let p = at_contains xs x inside in
      subst (Contains (candidates from ours theirs)) (sym is)
      (in_ours (row_of_ours x None) (Contains-append_right (flat_map (pairs_of ys) xs)
      (map (λ (z : DatedRow). row_of_ours z None) xs) (row_of_ours x None)
      (contains_map (λ (z : DatedRow). row_of_ours z None) xs x p.0 p.1)))
  could_be m (extra y inside alone is) =
      let q = at_contains ys y inside in
      subst (Contains (candidates from ours theirs)) (sym is)
      (in_others (row_of_theirs y) (Contains-append_left (map row_of_theirs ys)
      (without_date (length ours) (length theirs)) (row_of_theirs y) (contains_map row_of_theirs ys y q.0 q.1)))
  could_be m (undated n at is) =
      subst (Contains (candidates from ours theirs)) (sym is)
      (in_undated (undated_ours n) (Contains-append_left (below undated_ours (length ours))
      (below undated_theirs (length theirs)) (undated_ours n)
      (contains_below undated_ours (length ours) n (slice_get_within ours n None at))))
  could_be m (undated_extra n at is) =
      subst (Contains (candidates from ours theirs)) (sym is)
      (in_undated (undated_theirs n) (Contains-append_right (below undated_ours (length ours))
      (below undated_theirs (length theirs)) (undated_theirs n)
      (contains_below undated_theirs (length theirs) n (slice_get_within theirs n None at))))

  -- it can't be that two lists of dates have no pairing
  pub pairing_there : ((rows : List PairedRow) → IsPairing from ours theirs rows → ⊥) → ⊥
  pairing_there none = sifted (IsListedRow from ours theirs) (candidates from ours theirs) (λ rows h. none rows (record {
    sound = h.sound;
    complete = λ m is. h.complete m is (could_be m is);
    in_order = h.in_order;
  }))
