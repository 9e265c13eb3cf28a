-- Dates with currencies, in their order.
use Rattle.std.proofs.Common.{◌≡◌, ◌⊎◌, inl, inr, ℕ, zero, suc, ◌<◌, true, List, [], ◌∷◌, length, get_or, Contains}
use Rattle.std.proofs.Common.{refl, sym, ap, ap₂, subst, ◌∙◌, ℤ, arith}
use Rattle.std.specs.List.{AllByRecursion}
use Rattle.std.specs.List.Sorted.{IsStrictlySortedBy}
use Rattle.std.proofs.lemmas.Map.Keys.{sorted_head, sorted_tail}
use Rattle.std.specs.Cmp.{IsTotalOrder, IsEquivalence}
use Rattle.std.specs.Cmp.Lexicographic.{slice_cmp}
use Rattle.std.specs.Ordering.{int_cmp, nat_cmp, ordering_then, is_eq, ordering_reverse}
use Rattle.std.specs.declared.cmp.Ordering.{Ordering}
use Rattle.std.specs.declared.cmp.Ordering.TheVariants.{Less, Equal, Greater}
use Rattle.std.proofs.lemmas.Cmp.{int_cmp_total, nat_list_cmp_total, then_total, on_total, eq_by_cmp_equiv, tied_itself}
use Rattle.std.proofs.lemmas.Map.Lookups.{exact_signed, exact_bytes}
use Rattle.irs_net.specs.Nets.{key_order, same_key}
use Rattle.irs_net.specs.declared.totals.NetKey.{NetKey}

-- keys have a total order
pub keys_total : IsTotalOrder key_order
keys_total =
    then_total (on_total (λ (k : NetKey). k.date) int_cmp_total)
    (on_total (λ (k : NetKey). k.letters) nat_list_cmp_total)

-- being the same key is an equivalence
pub keys_equiv : IsEquivalence same_key
keys_equiv = eq_by_cmp_equiv keys_total

both_equal : (o p : Ordering) → ordering_then o p ≡ Equal → (o ≡ Equal) × (p ≡ Equal)
both_equal Less p e = absurd (cc)
both_equal Equal p e = (refl, e)
both_equal Greater p e = absurd (cc)

is_equal : (o : Ordering) → is_eq o ≡ true → o ≡ Equal
is_equal Less e = absurd (cc)
is_equal Equal e = refl
is_equal Greater e = absurd (cc)

make_key : ℤ → List ℕ → NetKey
make_key date letters = record { date = date; letters = letters }

-- keys of which neither comes first are the same
pub tied_keys : (a b : NetKey) → key_order a b ≡ Equal → a ≡ b
unfolding make_key
tied_keys a b e =
    let h = both_equal (int_cmp a.date b.date) (slice_cmp nat_cmp a.letters b.letters) e in
    ap₂ make_key (exact_signed a.date b.date h.0) (exact_bytes a.letters b.letters h.1)

-- keys that compare the same are equal
pub same_keys : (a b : NetKey) → same_key a b ≡ true → a ≡ b
same_keys a b e = tied_keys a b (is_equal (key_order a b) e)

-- ---- two rising lists with the same members are the same

module _ {K : Type 0} where
  read_at : (P : K → Type 0) (xs : List K) (k : ℕ) (q : K) → k < length xs → get_or xs k q ≡ q
      → AllByRecursion P xs → P q
  read_at P [] k q low e h = absurd (omega (arith, low))
  read_at P (x ∷ xs) zero q low e h = subst P e h.0
  read_at P (x ∷ xs) (suc k) q low e h = read_at P xs k q (omega (arith, low)) e h.1

  -- what holds for each key of a list holds for a member
  pub read_all : (P : K → Type 0) (xs : List K) (q : K) → Contains xs q → AllByRecursion P xs → P q
  read_all P xs q c h = read_at P xs c.0 q c.1 c.2 h

  cases_at : (x : K) (xs : List K) (k : ℕ) (q : K) → k < length (x ∷ xs) → get_or (x ∷ xs) k q ≡ q
      → (x ≡ q) ⊎ Contains xs q
  cases_at x xs zero q low e = inl e
  cases_at x xs (suc k) q low e = inr (k, omega (arith, low), e)

  -- a member of a list is its first key or one of the others
  pub cons_cases : (x : K) (xs : List K) (q : K) → Contains (x ∷ xs) q → (x ≡ q) ⊎ Contains xs q
  cons_cases x xs q c = cases_at x xs c.0 q c.1 c.2

  -- the first key is a member
  pub head_in : (x : K) (xs : List K) → Contains (x ∷ xs) x
  head_in x xs = (0, omega arith, refl)

  -- a later key is a member
  pub tail_in : (x : K) (xs : List K) (q : K) → Contains xs q → Contains (x ∷ xs) q
  tail_in x xs q c = (suc c.0, let l = c.1 in omega (arith, l), c.2)

  -- an empty list has no member
  pub none_in : (q : K) → Contains [] q → ⊥
  none_in q c = let l = c.1 in omega (arith, l)

module _ {R : NetKey → NetKey → Ordering} (o : IsTotalOrder R) where
  not_both : (x y : NetKey) → R x y ≡ Less → R y x ≡ Less → ⊥
  not_both x y a b = let e = o.antisymm x y in
      let f : Less ≡ ordering_reverse Less = sym a ∙ e ∙ ap ordering_reverse b in absurd (cc)

  not_itself : (x y : NetKey) → x ≡ y → R x y ≡ Less → ⊥
  not_itself x y e a = let f : R y y ≡ Less = subst (λ (z : NetKey). R z y ≡ Less) e a in
      let g : R y y ≡ Equal = tied_itself o y in absurd (cc)

  same_heads : (x : NetKey) (xs : List NetKey) (y : NetKey) (ys : List NetKey) → IsStrictlySortedBy R (x ∷ xs)
      → IsStrictlySortedBy R (y ∷ ys) → Contains (y ∷ ys) x → Contains (x ∷ xs) y → x ≡ y
  same_heads x xs y ys s t c d = elim (cons_cases y ys x c) [
    | inl e ↦ sym e
    | inr later ↦ elim (cons_cases x xs y d) [
      | inl e ↦ e
      | inr after ↦
          absurd (not_both x y (read_all (λ z. R x z ≡ Less) xs y after (sorted_head R x xs s))
          (read_all (λ z. R y z ≡ Less) ys x later (sorted_head R y ys t)))
    ]
  ]

  in_tail : (x : NetKey) (xs : List NetKey) (y : NetKey) (ys : List NetKey) (q : NetKey) → x ≡ y
      → IsStrictlySortedBy R (x ∷ xs) → Contains xs q → Contains (y ∷ ys) q → Contains ys q
  in_tail x xs y ys q e s c d = elim (cons_cases y ys q d) [
    | inl same ↦ absurd (not_itself x q (e ∙ same) (read_all (λ z. R x z ≡ Less) xs q c (sorted_head R x xs s)))
    | inr later ↦ later
  ]

  same_lists : (xs ys : List NetKey) → IsStrictlySortedBy R xs → IsStrictlySortedBy R ys
      → ((q : NetKey) → Contains xs q → Contains ys q) → ((q : NetKey) → Contains ys q → Contains xs q) → xs ≡ ys
  same_lists [] [] s t to from = refl
  same_lists [] (y ∷ ys) s t to from = absurd (none_in y (from y (head_in y ys)))
  same_lists (x ∷ xs) [] s t to from = absurd (none_in x (to x (head_in x xs)))
  same_lists (x ∷ xs) (y ∷ ys) s t to from =
      let e : x ≡ y = same_heads x xs y ys s t (to x (head_in x xs)) (from y (head_in y ys)) in
      ap₂ ◌∷◌ e (same_lists xs ys (sorted_tail R x xs s) (sorted_tail R y ys t)
      (λ q c. in_tail x xs y ys q e s c (to q (tail_in x xs q c)))
      (λ q c. in_tail y ys x xs q (sym e) t c (from q (tail_in y ys q c))))

-- rising lists of keys with the same members are the same
pub same_sorted : (xs ys : List NetKey) → IsStrictlySortedBy key_order xs → IsStrictlySortedBy key_order ys
    → ((q : NetKey) → Contains xs q → Contains ys q) → ((q : NetKey) → Contains ys q → Contains xs q) → xs ≡ ys
same_sorted xs ys s t to from = same_lists keys_total xs ys s t to from
