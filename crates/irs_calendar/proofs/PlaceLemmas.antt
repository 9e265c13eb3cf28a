-- The places of names in a list of sections.
use Rattle.std.proofs.Common.{◌≡◌, inl, inr, ℕ, zero, suc, Bool, true, false, cond, Ordering, Less, Equal, Greater}
use Rattle.std.proofs.Common.{List, [], ◌∷◌, ◌++◌, length, Option, Some, None, is_some, slice_get, Vec, Global}
use Rattle.std.proofs.Common.{if◌then◌else◌, refl, sym, ◌∙◌, ap, subst}
use Rattle.std.specs.Ordering.{is_eq, nat_cmp, match_ordering}
use Rattle.std.specs.Cmp.Lexicographic.{slice_cmp}
use Rattle.std.specs.Map.{lookup}
use Rattle.std.specs.BTreeMap.{BTreeMap, insert_entry}
use Rattle.std.specs.Str.{bytes_eq}
use Rattle.std.proofs.lemmas.Map.Text.{is_eq-slice_cmp}
use Rattle.std.proofs.lemmas.Option.{same_Some}
use Rattle.std.proofs.lemmas.Slice.Eq.{bytes_eq-Decides}
use Rattle.std.proofs.lemmas.Bool.{cases_Bool}
use Rattle.irs_calendar.specs.declared.sections.Section.{Section}
use Rattle.irs_calendar.specs.Sections.{is_named, section_named, AreDistinct, place_for_name, IsIndex}
use Rattle.irs_calendar.proofs.RunLemmas.{place_any}
use Rattle.irs_calendar.proofs.CalendarLemmas.{found_is}
use Rattle.irs_calendar.proofs.DistinctLemmas.{turned, named_behind}

-- the key is the name
abbrev is_key : List ℕ → Vec ℕ Global → Bool
is_key name k = is_eq (slice_cmp nat_cmp name k.items)

-- the order of two names
abbrev order : Vec ℕ Global → Vec ℕ Global → Ordering
order a b = slice_cmp nat_cmp a.items b.items

-- what the map finds once a name has its place
inserted : (es : List (Vec ℕ Global × ℕ)) (k : Vec ℕ Global) (v : ℕ) (name : List ℕ)
    → lookup (is_key name) (insert_entry order es k v)
    ≡ (if bytes_eq name k.items then Some v else lookup (is_key name) es)
inserted [] k v name = rw (is_eq-slice_cmp name k.items) refl
inserted (e ∷ es) k v name = by_order (inserted es k v name) (order k e.0) refl
  where
    by_order : lookup (is_key name) (insert_entry order es k v)
        ≡ (if bytes_eq name k.items then Some v else lookup (is_key name) es) → (o : Ordering) → order k e.0 ≡ o
        → lookup (is_key name) (match_ordering o ((k, v) ∷ e ∷ es) ((e.0, v) ∷ es) (e ∷ insert_entry order es k v))
        ≡ (if bytes_eq name k.items then Some v else cond (is_key name e.0) (Some e.1) (lookup (is_key name) es))
    by_order rest Less o = rw (is_eq-slice_cmp name k.items) refl
    by_order rest Equal o =
        let same : k.items ≡ e.0.items =
        (bytes_eq-Decides k.items e.0.items).0 (sym (is_eq-slice_cmp k.items e.0.items) ∙ ap is_eq o) in
        let here : is_key name e.0 ≡ bytes_eq name k.items =
        is_eq-slice_cmp name e.0.items ∙ ap (bytes_eq name) (sym same) in
        elim (cases_Bool (bytes_eq name k.items)) [
          | inl t ↦ rw (here, t) refl
          | inr f ↦ rw (here, f) refl
        ]
    by_order rest Greater o = elim (cases_Bool (bytes_eq name k.items)) [
      | inl t ↦
          let same : name ≡ k.items = (bytes_eq-Decides name k.items).0 t in
          let other : is_key name e.0 ≡ false =
          ap (λ (n : List ℕ). is_eq (slice_cmp nat_cmp n e.0.items)) same ∙ ap is_eq o in
          rw (other, rest, t) refl
      | inr f ↦ rw (rest, f) refl
    ]

front_stays : (ss : List Section) (s x : Section) (i : ℕ) → slice_get ss i ≡ Some x
    → slice_get (ss ++ s ∷ []) i ≡ Some x
front_stays [] s x i at = absurd (cc at)
front_stays (t ∷ ts) s x zero at = at
front_stays (t ∷ ts) s x (suc i) at = front_stays ts s x i at

last_is : (ss : List Section) (s : Section) → slice_get (ss ++ s ∷ []) (length ss) ≡ Some s
last_is [] s = refl
last_is (t ∷ ts) s = last_is ts s

-- one section more at the end
pub index_with : (m n : BTreeMap (Vec ℕ Global) ℕ) (ss : List Section) (s : Section) (k : Vec ℕ Global) → IsIndex m ss
    → n.entries ≡ insert_entry order m.entries k (length ss) → k.items ≡ s.name → IsIndex n (ss ++ s ∷ [])
index_with m n ss s k index entries named = record {
  found = λ name i at. elim (cases_Bool (bytes_eq name k.items)) [
    | inl t ↦
        let e : Some (length ss) ≡ Some i =
        subst (λ (b : Bool). (if b then Some (length ss) else place_for_name m name) ≡ Some i) t (sym (here name) ∙ at) in
        let same : name ≡ k.items = (bytes_eq-Decides name k.items).0 t in (
          s,
          subst (λ (j : ℕ). slice_get (ss ++ s ∷ []) j ≡ Some s) (same_Some (length ss) i e) (last_is ss s),
          sym (same ∙ named),
        )
    | inr f ↦
        let old = index.found name i
        (subst (λ (b : Bool). (if b then Some (length ss) else place_for_name m name) ≡ Some i) f (sym (here name)
        ∙ at)) in
        (old.0, front_stays ss s old.0 i old.1, old.2)
  ];
  missing = λ name at. elim (cases_Bool (bytes_eq name k.items)) [
    | inl t ↦ absurd (some_none (length ss)
        (subst (λ (b : Bool). (if b then Some (length ss) else place_for_name m name) ≡ None) t (sym (here name) ∙ at)))
    | inr f ↦
        let old = index.missing name
        (subst (λ (b : Bool). (if b then Some (length ss) else place_for_name m name) ≡ None) f (sym (here name) ∙ at)) in
        named_behind name ss s old (turned name s.name (subst (λ (l : List ℕ). bytes_eq name l ≡ false) named f))
  ];
}
  where
    here : (name : List ℕ) → place_for_name n name ≡ (if bytes_eq name k.items then Some (length ss) else place_for_name m name)
    here name = ap (lookup (is_key name)) entries ∙ inserted m.entries k (length ss) name

    some_none : (x : ℕ) → ◌≡◌ {A = Option ℕ} (Some x) None → ⊥
    some_none x e = cc e

-- a section at some place has its name in the list
pub named_at : (ss : List Section) (i : ℕ) (s : Section) (name : List ℕ) → slice_get ss i ≡ Some s → s.name ≡ name
    → is_named name ss ≡ true
named_at ss i s name at named = place_any (λ t. bytes_eq t.name name) ss i s at ((bytes_eq-Decides s.name name).1 named)

-- a name has a place where a section has it
pub has_place : (m : BTreeMap (Vec ℕ Global) ℕ) (ss : List Section) (name : List ℕ) → IsIndex m ss
    → is_some (place_for_name m name) ≡ is_named name ss
has_place m ss name index = by_place (place_for_name m name) refl
  where
    by_place : (o : Option ℕ) → place_for_name m name ≡ o → is_some o ≡ is_named name ss
    by_place (Some i) at = let f = index.found name i at in sym (named_at ss i f.0 name f.1 f.2)
    by_place None at = sym (index.missing name at)

-- the section at the place of its name is the one that is found
pub found_at : (ss : List Section) (i : ℕ) (s : Section) (name : List ℕ) → AreDistinct ss → slice_get ss i ≡ Some s
    → s.name ≡ name → section_named ss name ≡ Some s
found_at [] i s name apart at named = absurd (cc at)
found_at (t ∷ ts) zero s name apart at named =
    let same = same_Some t s at in
    let hit : bytes_eq t.name name ≡ true =
    (bytes_eq-Decides t.name name).1 (ap (λ (x : Section). x.name) same ∙ named) in
    rw hit at
found_at (t ∷ ts) (suc i) s name apart at named = elim (cases_Bool (bytes_eq t.name name)) [
  | inl hit ↦
      let same = (bytes_eq-Decides t.name name).0 hit in
      let twice = named_at ts i s t.name at (named ∙ sym same) in
      absurd (let f = apart.0 in cc (twice, f))
  | inr other ↦ rw other (found_at ts i s name apart.1 at named)
]

-- a name that no section has finds none
pub none_found : (ss : List Section) (name : List ℕ) → is_named name ss ≡ false → section_named ss name ≡ None
none_found ss name none = empty (section_named ss name) (sym (found_is ss name) ∙ none)
  where
    empty : (o : Option Section) → is_some o ≡ false → o ≡ None
    empty (Some s) h = absurd (cc h)
    empty None h = refl
