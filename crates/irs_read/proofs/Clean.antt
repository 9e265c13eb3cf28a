-- What holds of a value that breaks no rule at its row.
use Rattle.irs_elements.proofs.Exact.{both_true}
use Rattle.irs_elements.specs.Elements.{FaultAt, FaultUnder, choice_unmet, index_in, inside, is_element, is_required}
use Rattle.irs_elements.specs.Elements.{missing, most, name_at, once, own, own_rule, place, shape, too_many, under}
use Rattle.irs_elements.specs.Elements.{unmet, values_in, values_of}
use Rattle.irs_elements.specs.Leaves.{has_value, leaf_rule, text_of_leaf, text_rule}
use Rattle.irs_elements.specs.declared.table.{Choice.Choice, Kind.TheVariants.Object, Kind.TheVariants.Leaf}
use Rattle.irs_elements.specs.declared.table.{Choice.TheVariants.ExactlyOne, Kind.Kind, Leaf.Leaf as LeafKind, Row.Row}
use Rattle.irs_json.specs.Leaves.{child_of, present, Leaf as LeafSaid, leaf_of, element_names, items_of}
use Rattle.irs_terms.specs.declared.places.Rule.TheVariants.{K3, K7}
use Rattle.irs_terms.specs.declared.places.Broken.{Broken}
use Rattle.serde_json.specs.{Data.Data, Data.null, Data.array, Data.no_items, Data.item, Find.get}
use Rattle.std.proofs.Common.{arith, ◌≡◌, ℕ, ◌≤◌, nat_lt, Bool, true, false, ◌&&◌, ◌==◌, inl, inr, List, if◌then◌else◌}
use Rattle.std.proofs.Common.{length, Option, Some, None, IfSome, is_some, option_and_then, option_map, slice_get, refl}
use Rattle.std.proofs.lemmas.{Bool.cases_lt, Bool.Decides.nat_tests, Option.same_Some}
use Rattle.std.{proofs.Common.sym, proofs.Common.◌∙◌, specs.Option.option_map_or}

-- ---- what the table says of a row

-- the kind is an object
abbrev is_object : Kind → Bool
is_object (Object choice) = true
is_object _ = false

-- the kind of a row
abbrev pub kind_at : Option Row → Option Kind
kind_at o = option_map (λ (row : Row). row.kind) o

-- the row exists and is an object
abbrev object_at : Option Row → Bool
object_at o = option_map_or is_object (kind_at o) false

-- the row exists and is an element of row r
abbrev is_below : ℕ → Option Row → Bool
is_below r o = option_map_or (λ (row : Row). (row.parent == r) && is_element row.kind) o false

-- whether row c is an element below the object at row r
abbrev pub is_child : List Row → ℕ → ℕ → Bool
is_child rows r c = nat_lt r c && (object_at (slice_get rows r) && is_below r (slice_get rows c))

-- the number of items that the count of a row allows
abbrev pub most_at : Option Row → ℕ
most_at o = option_map_or (λ (row : Row). most row.count) o 0

-- the count of a row requires an item
abbrev pub required_at : Option Row → Bool
required_at o = option_map_or (λ (row : Row). is_required row.count) o false

-- the leaf that a kind is, if it is one
abbrev leaf_in : Kind → Option LeafKind
leaf_in (Leaf leaf) = Some leaf
leaf_in _ = None

-- the kind of leaf of a row
abbrev pub leaf_at : Option Row → Option LeafKind
leaf_at o = option_and_then leaf_in (kind_at o)

object_kind : (k : Kind) → is_object k ≡ true → (choice : Choice) × (k ≡ Object choice)
object_kind (Object choice) e = (choice, refl)
object_kind _ e = cc

leaf_kind : (k : Kind) (leaf : LeafKind) → leaf_in k ≡ Some leaf → k ≡ Leaf leaf
leaf_kind (Leaf other) leaf e = cc
leaf_kind _ leaf e = cc

-- an element whose parent is row r
below_is : (r : ℕ) (o : Option Row) → is_below r o ≡ true
    → (row : Row) × ((o ≡ Some row) × ((row.parent ≡ r) × (is_element row.kind ≡ true)))
below_is r None e = cc
below_is r (Some row) e = (row, (refl, (grind (arith, nat_tests), grind (arith, nat_tests))))

-- ---- values that may be there

-- what holds of each value that there may be
pub if_there : {A : Type 0} {P : A → Type 0} (o : Option A) → ((a : A) → o ≡ Some a → P a) → IfSome o P
if_there None h = tt
if_there (Some a) h = h a refl

-- what is never there is absent
pub none_if : {A : Type 0} (o : Option A) → ((a : A) → o ≡ Some a → ⊥) → o ≡ None
none_if None h = refl
none_if (Some a) h = absurd (h a refl)

some_if : {A : Type 0} (o : Option A) → (o ≡ None → ⊥) → (a : A) × (o ≡ Some a)
some_if None h = absurd (h refl)
some_if (Some a) h = (a, refl)

-- an element without a first value is absent
absent_if : (o : Option Data) → option_and_then (λ m. slice_get (items_of m) 0) (option_and_then present o) ≡ None
    → option_and_then present o ≡ None
absent_if None e = refl
absent_if (Some null) e = refl
absent_if (Some (array no_items)) e = refl
absent_if (Some (array (item d ds))) e = cc
absent_if (Some d) e = cc

-- the first value is among the values
pub first_value : (o : Option Data) (x : Data) → option_and_then (λ m. slice_get (items_of m) 0) o ≡ Some x
    → slice_get (values_of o) 0 ≡ Some x
first_value None x e = cc
first_value (Some m) x e = e

-- what is an object by itself has names
pub names_if : (o : Option (List (List ℕ))) → (if is_some o then None else Some K3) ≡ None
    → (ns : List (List ℕ)) × (o ≡ Some ns)
names_if None e = cc
names_if (Some ns) e = (ns, refl)

-- the text of a leaf has a value of its kind
pub record Said (leaf : LeafKind) (d : Data) : Type 0 where
  pub says : LeafSaid
  pub found : leaf_of d ≡ Some says
  pub valued : has_value leaf (text_of_leaf says) ≡ true

said_if : (leaf : LeafKind) (d : Data) (o : Option LeafSaid) → leaf_of d ≡ o → leaf_rule leaf o ≡ None → Said leaf d
unfolding text_rule
said_if leaf d None h e = cc
said_if leaf d (Some says) h e = record { says = says; found = h; valued = grind arith }

-- ---- values that break no rule

module _ (rows : List Row) (names : List (List ℕ)) where
  -- d breaks no rule at row c
  pub record Clean (c : ℕ) (d : Data) : Type 0 where
    pub kind : Kind
    pub found : kind_at (slice_get rows c) ≡ Some kind
    pub stream : ℕ
    pub index : ℕ
    pub none : (f : Broken) → FaultAt rows names stream c kind index d f → ⊥

  -- none by itself
  no_own : (c : ℕ) (d : Data) (k : Clean c d) → own_rule k.kind d ≡ None
  no_own c d k =
      none_if (own_rule k.kind d) (λ u e. k.none (place rows k.stream u c k.index) (own c k.index u k.kind d e))

  -- an object has names
  named : (r : ℕ) (choice : Choice) (d : Data) (k : Clean r d) → k.kind ≡ Object choice
      → (ns : List (List ℕ)) × (element_names d ≡ Some ns)
  named r choice d k is = names_if (element_names d) (rw is at (no_own r d k))

  -- the row of an element below an object, and that the object breaks no rule by it
  record Member (c : ℕ) (d : Data) : Type 0 where
    row : Row
    found : slice_get rows c ≡ Some row
    element : is_element row.kind ≡ true
    stream : ℕ
    index : ℕ
    none : (f : Broken) → FaultUnder rows names stream c row index d f → ⊥

  member : (r c : ℕ) (d : Data) → is_child rows r c ≡ true → Clean r d → Member c d
  member r c d e k =
      let (later, both) = both_true (nat_lt r c) (object_at (slice_get rows r) && is_below r (slice_get rows c)) e in
      let (object, below) = both_true (object_at (slice_get rows r)) (is_below r (slice_get rows c)) both in
      let (choice, is) = object_kind k.kind (rw k.found at object) in
      let (ns, names_are) = named r choice d k is in
      let (row, (found, (parent, element))) = below_is r (slice_get rows c) below in
      record {
        row = row;
        found = found;
        element = element;
        stream = k.stream;
        index = k.index;
        none =
            λ f u. k.none f (rw is (under r k.index c choice d ns f row names_are
            (record { found = found; parent = parent; later = grind (arith, nat_tests) }) u));
      }

  -- there are no more values than the count allows, and none breaks a rule
  abbrev pub Fine : ℕ → List Data → Type 0
  Fine c ds = (length ds ≤ most_at (slice_get rows c)) × ((j : ℕ) (x : Data) → slice_get ds j ≡ Some x → Clean c x)

  fine_found : (c : ℕ) (d : Data) (p : Option Data) → Member c d → child_of (name_at names c) d ≡ p
      → Fine c (values_of p)
  fine_found c d None k h = (omega arith, λ j x e. cc)
  fine_found c d (Some m) k h = elim (cases_lt (most k.row.count) (length (items_of m))) [
    | inl lt ↦ absurd (k.none (place rows k.stream K7 c 0) (too_many c k.index k.row d m k.element h lt))
    | inr le ↦ (
      rw k.found le,
      λ j x at. record {
        kind = k.row.kind;
        found = rw k.found refl;
        stream = k.stream;
        index = index_in k.row.count k.index j;
        none = λ f g. k.none f (inside c k.index j k.row d m x f k.element h le at g);
      },
    )
  ]

  -- the values of a repeated element
  pub fine_values : (r c : ℕ) (d : Data) → is_child rows r c ≡ true → Clean r d
      → Fine c (values_in (name_at names c) (Some d))
  fine_values r c d e k = fine_found c d (child_of (name_at names c) d) (member r c d e k) refl

  -- the one value of an element of a clean value is clean
  pub clean_once : (r c : ℕ) (d : Data) → is_child rows r c ≡ true → Clean r d
      → IfSome (once (name_at names c) d) (Clean c)
  clean_once r c d e k =
      if_there (once (name_at names c) d)
      (λ x h. (fine_values r c d e k).1 0 x (first_value (child_of (name_at names c) d) x h))

  -- a required member of a clean value is there once, and clean
  pub clean_there : (r c : ℕ) (d : Data) → is_child rows r c ≡ true → required_at (slice_get rows c) ≡ true → Clean r d
      → (x : Data) × ((once (name_at names c) d ≡ Some x) × Clean c x)
  clean_there r c d e rq clean =
      let k = member r c d e clean in
      let (x, h) = some_if (once (name_at names c) d) (λ h. k.none _
      (missing c k.index k.row d k.element (rw k.found at rq) (absent_if (get (name_at names c) d) h))) in
      (x, (h, rw h at (clean_once r c d e clean)))

  -- a clean leaf has a value of its kind
  pub clean_leaf : (c : ℕ) (leaf : LeafKind) (d : Data) → leaf_at (slice_get rows c) ≡ Some leaf → Clean c d
      → Said leaf d
  clean_leaf c leaf d e k =
      said_if leaf d (leaf_of d) refl (rw (leaf_kind k.kind leaf (rw k.found at e)) at (no_own c d k))

  -- of two members of which an object has exactly one not both are absent
  pub either_there : (r a b : ℕ) (d : Data) → kind_at (slice_get rows r) ≡ Some (Object (ExactlyOne a b)) → Clean r d
      → once (name_at names a) d ≡ None → once (name_at names b) d ≡ None → ⊥
  either_there r a b d at k e f =
      let is = same_Some k.kind (Object (ExactlyOne a b)) (sym k.found ∙ at) in
      let (ns, names_are) = named r (ExactlyOne a b) d k is in
      let first = absent_if (get (name_at names a) d) e in
      let second = absent_if (get (name_at names b) d) f in
      let never = rw is at k.none in
      let met = none_if (choice_unmet names (ExactlyOne a b) d) (λ u h. never _
      (shape r k.index (ExactlyOne a b) d ns _ names_are (unmet r k.index u (ExactlyOne a b) d h))) in
      let h = rw (first, second) at met in cc
