-- The names of an object's elements are in order, and are just those that `child_of` finds.
use Rattle.std.proofs.Common.{◌≡◌, ℕ, zero, suc, ◌<◌, ◌⊎◌, inl, inr, ◌↔◌, List, [], ◌∷◌, length, None, IsSome, Less}
use Rattle.std.proofs.Common.{Equal, string_bytes, string_cmp, nat_cmp, bytes_eq, true, false, Bool, refl, sym, ap, ◌∙◌}
use Rattle.std.proofs.Common.{subst, arith, rules, slice_index_or, true≢false}
use Rattle.std.proofs.lemmas.Cmp.{nat_list_cmp_total, tied_itself}
use Rattle.std.proofs.lemmas.Slice.Eq.{bytes_eq-Decides}
use Rattle.std.specs.Cmp.Lexicographic.{slice_cmp}
use Rattle.std.specs.List.{AllByRecursion, Contains}
use Rattle.std.specs.List.Sorted.{IsStrictlySortedBy}
use Rattle.std.specs.Map.{keys_of}
use Rattle.std.specs.Prelude.{option_and_then}
use Rattle.serde_json.specs.Data.{Data, null, boolean, number, string, array, object, no_items, item, Members, member}
use Rattle.serde_json.specs.Find.{get_member}
use Rattle.serde_json.specs.View.{view, members_view}
use Rattle.serde_json.proofs.Views.{Entry, member_here, member_later}
use Rattle.irs_json.specs.Leaves.{present, member_names}

-- a first member counts as absent and has no name there, or it is present and has the first name
abbrev Stands : List ℕ → Data → Members → Type 0
Stands k d ms =
    ((present d ≡ None) × (member_names (member k d ms) ≡ member_names ms))
    ⊎ (IsSome (present d) × (member_names (member k d ms) ≡ k ∷ member_names ms))

stands : (k : List ℕ) (d : Data) (ms : Members) → Stands k d ms
stands k null ms = inl (refl, refl)
stands k (array no_items) ms = inl (refl, refl)
stands k (array (item d ds)) ms = inr (search rules, refl)
stands k (boolean b) ms = inr (search rules, refl)
stands k (number n) ms = inr (search rules, refl)
stands k (string s) ms = inr (search rules, refl)
stands k (object ns) ms = inr (search rules, refl)

-- ---- the order

-- the name k is before each of the names
abbrev Above : List ℕ → List (List ℕ) → Type 0
Above k names = AllByRecursion (λ n. slice_cmp nat_cmp k n ≡ Less) names

above_one : (k l : List ℕ) (d : Data) (ms : Members) → slice_cmp nat_cmp k l ≡ Less → Above k (member_names ms)
    → Above k (member_names (member l d ms))
above_one k l d ms less above =
    elim (stands l d ms) [ inl w ↦ subst (Above k) (sym w.1) above | inr w ↦ subst (Above k) (sym w.1) (less, above) ]

above_all : (first : Entry) (es : List Entry) → AllByRecursion (λ y. string_cmp first.0 y ≡ Less) (keys_of es)
    → Above (string_bytes first.0) (member_names (members_view es))
above_all first [] h = tt
above_all first (e ∷ es) h =
    above_one (string_bytes first.0) (string_bytes e.0) (view e.1) (members_view es) h.0 (above_all first es h.1)

sorted_one : (k : List ℕ) (d : Data) (ms : Members) → Above k (member_names ms)
    → IsStrictlySortedBy (slice_cmp nat_cmp) (member_names ms)
    → IsStrictlySortedBy (slice_cmp nat_cmp) (member_names (member k d ms))
unfolding IsStrictlySortedBy
sorted_one k d ms above rising =
    elim (stands k d ms) [
      | inl w ↦ subst (IsStrictlySortedBy (slice_cmp nat_cmp)) (sym w.1) rising
      | inr w ↦
          subst (IsStrictlySortedBy (slice_cmp nat_cmp)) (sym w.1) (above, rising)
    ]

-- the names of an object's members rise where its keys do
pub names_rise : (es : List Entry) → IsStrictlySortedBy string_cmp (keys_of es)
    → IsStrictlySortedBy (slice_cmp nat_cmp) (member_names (members_view es))
unfolding IsStrictlySortedBy
names_rise [] h = tt
names_rise (e ∷ es) h =
    sorted_one (string_bytes e.0) (view e.1) (members_view es) (above_all e es h.0) (names_rise es h.1)

-- ---- what is found

-- the members have a value of this name that counts as present
abbrev IsFound : List ℕ → Members → Type 0
IsFound name ms = IsSome (option_and_then present (get_member name ms))

contains_first : (x : List ℕ) (xs : List (List ℕ)) → Contains (x ∷ xs) x
contains_first x xs = (0, omega arith, refl)

contains_later : (x y : List ℕ) (xs : List (List ℕ)) → Contains xs y → Contains (x ∷ xs) y
contains_later x y xs h = (suc h.0, omega arith, h.2)

contains_cases : (x y : List ℕ) (xs : List (List ℕ)) → (k : ℕ) → k < length (x ∷ xs) → slice_index_or (x ∷ xs) k y ≡ y
    → (x ≡ y) ⊎ Contains xs y
contains_cases x y xs zero lt e = inl e
contains_cases x y xs (suc k) lt e = inr (k, omega arith, e)

-- a name that is not above k is none of those above it
not_above : (k : List ℕ) (names : List (List ℕ)) → Above k names → (i : ℕ) → i < length names
    → slice_index_or names i k ≡ k → ⊥
not_above k [] above i lt e = omega arith
not_above k (n ∷ ns) above zero lt e = let same : slice_cmp nat_cmp k n ≡ Equal =
    ap (slice_cmp nat_cmp k) e ∙ tied_itself nat_list_cmp_total k in
    let less : slice_cmp nat_cmp k n ≡ Less = above.0 in cc
not_above k (n ∷ ns) above (suc i) lt e = not_above k ns above.1 i (omega arith) e

-- ---- a name and a first member

-- the names of the members that count as present
abbrev Names : List Entry → List (List ℕ)
Names es = member_names (members_view es)

apart : (e : Entry) (es : List Entry) (name : List ℕ) → Above (string_bytes e.0) (Names es) → Contains (Names es) name
    → name ≡ string_bytes e.0 → ⊥
apart e es name above has same =
    not_above (string_bytes e.0) (Names es) above has.0 has.1
    (subst (λ n. slice_index_or (Names es) has.0 n ≡ n) same has.2)

found_later : (e : Entry) (es : List Entry) (name : List ℕ) → (name ≡ string_bytes e.0 → ⊥)
    → IsFound name (members_view es) → IsFound name (members_view (e ∷ es))
found_later e es name other found =
    subst (λ r. IsSome (option_and_then present r)) (sym (member_later name e es other)) found

found_before : (e : Entry) (es : List Entry) (name : List ℕ) → (name ≡ string_bytes e.0 → ⊥)
    → IsFound name (members_view (e ∷ es)) → IsFound name (members_view es)
found_before e es name other found =
    subst (λ r. IsSome (option_and_then present r)) (member_later name e es other) found

found_here : (e : Entry) (es : List Entry) (name : List ℕ) → name ≡ string_bytes e.0 → IsSome (present (view e.1))
    → IsFound name (members_view (e ∷ es))
found_here e es name same found =
    subst (λ r. IsSome (option_and_then present r)) (sym (member_here name e es same)) found

present_here : (e : Entry) (es : List Entry) (name : List ℕ) → name ≡ string_bytes e.0
    → IsFound name (members_view (e ∷ es)) → IsSome (present (view e.1))
present_here e es name same found = subst (λ r. IsSome (option_and_then present r)) (member_here name e es same) found

decided : (b : Bool) (P : Type 0) → (b ≡ true → P) → (P → b ≡ true) → P ⊎ (P → ⊥)
decided true P to from = inl (to refl)
decided false P to from = inr (λ p. true≢false (sym (from p)))

same_text_or_not : (xs ys : List ℕ) → (xs ≡ ys) ⊎ (xs ≡ ys → ⊥)
same_text_or_not xs ys = let d = bytes_eq-Decides xs ys in decided (bytes_eq xs ys) (xs ≡ ys) d.0 d.1

-- ---- what is named is found, and what is found is named

named_is_found : (es : List Entry) → IsStrictlySortedBy string_cmp (keys_of es) → (name : List ℕ)
    → Contains (Names es) name → IsFound name (members_view es)
unfolding IsStrictlySortedBy
named_is_found [] h name has = absurd (omega arith)
named_is_found (e ∷ es) h name has =
    let above = above_all e es h.0 in
    let later = λ (in_rest : Contains (Names es) name).
    found_later e es name (apart e es name above in_rest) (named_is_found es h.1 name in_rest) in
    elim (stands (string_bytes e.0) (view e.1) (members_view es)) [
      | inl w ↦ later (subst (λ ns. Contains ns name) w.1 has)
      | inr w ↦
          let has_there = subst (λ ns. Contains ns name) w.1 has in
          elim (contains_cases (string_bytes e.0) name (Names es) has_there.0 has_there.1 has_there.2) [
            | inl same ↦
                found_here e es name (sym same) w.0
            | inr in_rest ↦ later in_rest
          ]
    ]

add_name : (e : Entry) (es : List Entry) (name : List ℕ) → Contains (Names es) name → Contains (Names (e ∷ es)) name
add_name e es name has =
    elim (stands (string_bytes e.0) (view e.1) (members_view es)) [
      | inl w ↦ subst (λ ns. Contains ns name) (sym w.1) has
      | inr w ↦ subst (λ ns. Contains ns name) (sym w.1) (contains_later (string_bytes e.0) name (Names es) has)
    ]

first_name : (e : Entry) (es : List Entry) (name : List ℕ) → name ≡ string_bytes e.0 → IsSome (present (view e.1))
    → Contains (Names (e ∷ es)) name
first_name e es name same some =
    elim (stands (string_bytes e.0) (view e.1) (members_view es)) [
      | inl w ↦ absurd (true≢false (sym (subst IsSome w.0 some)))
      | inr w ↦ subst (λ ns. Contains ns name) (sym w.1)
          (subst (λ n. Contains (string_bytes e.0 ∷ Names es) n) (sym same)
          (contains_first (string_bytes e.0) (Names es)))
    ]

found_is_named : (es : List Entry) (name : List ℕ) → IsFound name (members_view es) → Contains (Names es) name
found_is_named [] name found = absurd (true≢false (sym found))
found_is_named (e ∷ es) name found =
    elim (same_text_or_not name (string_bytes e.0)) [
      | inl same ↦ first_name e es name same (present_here e es name same found)
      | inr other ↦ add_name e es name (found_is_named es name (found_before e es name other found))
    ]

-- a name is among the names of the members exactly where the object has a value of that name that counts as present
pub names_are_found : (es : List Entry) → IsStrictlySortedBy string_cmp (keys_of es) → (name : List ℕ)
    → Contains (member_names (members_view es)) name ↔ IsSome (option_and_then present (get_member name (members_view es)))
names_are_found es h name = (named_is_found es h name, found_is_named es name)
