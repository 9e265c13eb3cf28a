-- The emitted objects have no fault of the tables of cash flows.
use Rattle.irs_terms.specs.declared.places.Broken.{Broken}
use Rattle.irs_terms.specs.declared.places.Rule.{Rule}
use Rattle.irs_terms.specs.declared.places.Rule.TheVariants.{K3}
use Rattle.irs_elements.specs.Elements.{FaultAt, FaultUnder, has_odd, inside, index_in, is_element, is_refused}
use Rattle.irs_elements.specs.Elements.{is_required, is_unknown, missing, most, name_at, no_href, odd, own, refused}
use Rattle.irs_elements.specs.Elements.{shape, too_many, under, unknown, unmet}
use Rattle.irs_elements.specs.Leaves.{leaf_rule}
use Rattle.irs_elements.specs.declared.table.Choice.TheVariants.{Free}
use Rattle.irs_elements.specs.declared.table.Kind.{Kind}
use Rattle.irs_elements.specs.declared.table.Kind.TheVariants.{Object, Leaf}
use Rattle.irs_elements.specs.declared.table.Leaf.{Leaf as LeafKind}
use Rattle.irs_elements.specs.declared.table.Row.{Row}
use Rattle.irs_json.specs.Leaves.{child_of, leaf_of, element_names, items_of}
use Rattle.serde_json.specs.Data.{Data}
use Rattle.std.proofs.Common.{◌≡◌, ℕ, zero, suc, ◌+◌, ◌<◌, ◌≤◌, nat_lt, ◌==◌, ◌&&◌, if◌then◌else◌, Bool, true, false}
use Rattle.std.proofs.Common.{List, [], ◌∷◌, length, Option, Some, None, refl, sym, ap, ◌∙◌, subst, arith, true≢false}
use Rattle.std.proofs.lemmas.Bool.Decides.{nat_tests}
use Rattle.std.specs.List.{list_any}
use Rattle.std.specs.Prelude.{is_some, slice_get}

none_some : {A : Type 0} (x : A) (o : Option A) → o ≡ None → o ≡ Some x → ⊥
none_some x o e h = let bad : None ≡ Some x = sym e ∙ h in cc

same_some : {A : Type 0} (x y : A) (o : Option A) → o ≡ Some x → o ≡ Some y → x ≡ y
same_some x y o e h = let both : Some x ≡ Some y = sym e ∙ h in cc

false_true : (b : Bool) → b ≡ false → b ≡ true → ⊥
false_true b e h = true≢false (sym h ∙ e)

module _ (rows : List Row) (names : List (List ℕ)) (stream : ℕ) where
  -- the value has no fault at that row
  abbrev pub NoFault : ℕ → Kind → ℕ → Data → Type 0
  NoFault r kind i d = (f : Broken) → FaultAt rows names stream r kind i d f → ⊥

  -- the member at row c has no fault
  abbrev pub MemberFree : ℕ → Row → ℕ → Data → Type 0
  MemberFree c row i d = (f : Broken) → FaultUnder rows names stream c row i d f → ⊥

  -- a leaf that breaks no rule has no fault
  pub leaf_free : (r i : ℕ) (k : LeafKind) (d : Data) → leaf_rule k (leaf_of d) ≡ None → NoFault r (Leaf k) i d
  leaf_free r i k d e f (own _ _ rule _ _ h) = none_some rule (leaf_rule k (leaf_of d)) e h

  -- a member that may be absent, and is, has no fault
  pub absent_free : (c i : ℕ) (row : Row) (d : Data) → child_of (name_at names c) d ≡ None
      → is_required row.count ≡ false → MemberFree c row i d
  absent_free c i row d e q f (missing _ _ _ _ el rq h) = false_true (is_required row.count) q rq
  absent_free c i row d e q f (refused _ _ _ _ m el h) = none_some m (child_of (name_at names c) d) e h
  absent_free c i row d e q f (too_many _ _ _ _ m el h lt) = none_some m (child_of (name_at names c) d) e h
  absent_free c i row d e q f (inside _ _ j _ _ m x _ el h le at g) = none_some m (child_of (name_at names c) d) e h

  -- a member that is passed over has no fault
  pub passed_free : (c i : ℕ) (row : Row) (d : Data) → is_element row.kind ≡ false → is_refused row.kind ≡ false
      → MemberFree c row i d
  passed_free c i row d e q f (missing _ _ _ _ el rq h) = false_true (is_element row.kind) e el
  passed_free c i row d e q f (refused _ _ _ _ m el h) = false_true (is_refused row.kind) q el
  passed_free c i row d e q f (too_many _ _ _ _ m el h lt) = false_true (is_element row.kind) e el
  passed_free c i row d e q f (inside _ _ j _ _ m x _ el h le at g) = false_true (is_element row.kind) e el

  -- each value of the member is free of faults
  abbrev pub ValuesFree : ℕ → Row → ℕ → List Data → Type 0
  ValuesFree c row i ds = (j : ℕ) (x : Data) → slice_get ds j ≡ Some x → NoFault c row.kind (index_in row.count i j) x

  -- a member that occurs as often as it may has no fault where its values have none
  pub present_free : (c i : ℕ) (row : Row) (d m : Data) → child_of (name_at names c) d ≡ Some m
      → is_refused row.kind ≡ false → length (items_of m) ≤ most row.count → ValuesFree c row i (items_of m)
      → MemberFree c row i d
  present_free c i row d m e q l free f (missing _ _ _ _ el rq h) = none_some m (child_of (name_at names c) d) h e
  present_free c i row d m e q l free f (refused _ _ _ _ n el h) = false_true (is_refused row.kind) q el
  present_free c i row d m e q l free f (too_many _ _ _ _ n el h lt) = let same =
      same_some n m (child_of (name_at names c) d) h e in let k = ap (λ x. length (items_of x)) same in
      absurd (omega (arith, l, lt, k))
  present_free c i row d m e q l free f (inside _ _ j _ _ n x _ el h le at g) = let same =
      same_some n m (child_of (name_at names c) d) h e in
      free j x (ap (λ y. slice_get (items_of y) j) (sym same) ∙ at) f g

  -- where the only value has no fault, no value has one
  pub one_value : (c i : ℕ) (row : Row) (d : Data) → ((k : ℕ) → NoFault c row.kind k d) → ValuesFree c row i (d ∷ [])
  one_value c i row d free zero x e =
      subst (λ y. NoFault c row.kind (index_in row.count i zero) y) (same_some d x (Some d) refl e)
      (free (index_in row.count i zero))
  one_value c i row d free (suc j) x e = absurd (cc)

  -- ---- objects

  -- both statements where the test is true, otherwise the second alone
  abbrev EachIf : Bool → Type 0 → Type 0 → Type 0
  EachIf true A B = A × B
  EachIf false A B = B

  -- each member of the object d at row r has no fault; the rows are those from n on
  abbrev pub Each : ℕ → ℕ → Data → ℕ → List Row → Type 0
  Each r i d n [] = Unit {0}
  Each r i d n (row ∷ rest) = EachIf ((row.parent == r) && nat_lt r n) (MemberFree n row i d) (Each r i d (n + 1) rest)

  head_of : (A B : Type 0) (b : Bool) → b ≡ true → EachIf b A B → A
  head_of A B true e h = h.0
  head_of A B false e h = cc

  tail_of : (A B : Type 0) (b : Bool) → EachIf b A B → B
  tail_of A B true h = h.1
  tail_of A B false h = h

  tested : (a r n : ℕ) → a ≡ r → r < n → ((a == r) && nat_lt r n) ≡ true
  tested a r n e l = grind (arith, nat_tests)

  each_at : (r i : ℕ) (d : Data) (n : ℕ) (rs : List Row) (k : ℕ) (row : Row) → Each r i d n rs
      → slice_get rs k ≡ Some row → row.parent ≡ r → r < n + k → MemberFree (n + k) row i d
  each_at r i d n [] k row h e p l = cc
  each_at r i d n (first ∷ rest) zero row h e p l =
      let same : first ≡ row = same_some first row (Some first) refl e in
      let up : n + 0 ≡ n = omega arith in
      let parent : first.parent ≡ r = ap (λ (x : Row). x.parent) same ∙ p in
      let free = head_of (MemberFree n first i d) (Each r i d (n + 1) rest) ((first.parent == r) && nat_lt r n)
      (tested first.parent r n parent (omega (arith, l))) h in
      subst (λ c. MemberFree c row i d) (sym up) (subst (λ (x : Row). MemberFree n x i d) same free)
  each_at r i d n (first ∷ rest) (suc k) row h e p l =
      let up : n + 1 + k ≡ n + suc k = omega arith in
      let later = tail_of (MemberFree n first i d) (Each r i d (n + 1) rest) ((first.parent == r) && nat_lt r n) h in
      subst (λ c. MemberFree c row i d) up (each_at r i d (n + 1) rest k row later e p (omega (arith, l)))

  -- an object with known names has no fault where its members have none
  pub object_free : (r i : ℕ) (d : Data) (ns : List (List ℕ)) → element_names d ≡ Some ns
      → list_any (is_unknown rows names r) ns ≡ false → has_odd d ≡ false → Each r i d 0 rows
      → NoFault r (Object Free) i d
  object_free r i d ns e known even each f (own _ _ rule _ _ h) = own_none (element_names d) ns rule e h
    where
      own_none : (o : Option (List (List ℕ))) (ns : List (List ℕ)) (rule : Rule) → o ≡ Some ns
          → (if is_some o then None else Some K3) ≡ Some rule → ⊥
      own_none None ns rule e h = cc
      own_none (Some m) ns rule e h = cc
  object_free r i d ns e known even each f (shape _ _ choice _ ms _ g (unknown _ _ _ _ ks h u)) =
      let same = same_some ns ks (element_names d) e h in
      false_true (list_any (is_unknown rows names r) ks) (ap (list_any (is_unknown rows names r)) (sym same) ∙ known) u
  object_free r i d ns e known even each f (shape _ _ choice _ ms _ g (odd _ _ _ _ h)) = false_true (has_odd d) even h
  object_free r i d ns e known even each f (shape _ _ choice _ ms _ g (no_href _ _ _ _ h)) = cc
  object_free r i d ns e known even each f (shape _ _ choice _ ms _ g (unmet _ _ u _ _ h)) = cc
  object_free r i d ns e known even each f (under _ _ c choice _ ms _ row g m u) =
      let up : 0 + c ≡ c = omega arith in
      let free = each_at r i d 0 rows c row each m.found m.parent (let l = m.later in omega (arith, l)) in
      subst (λ k. MemberFree k row i d) up free f u
