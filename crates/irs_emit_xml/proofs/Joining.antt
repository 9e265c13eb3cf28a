-- Children of one name are one member, an array where there are several.
use Rattle.std.proofs.Common.{◌≡◌, ℕ, true, false, cond, List, [], ◌∷◌, ◌++◌, map, Some, None, Ordering, Less, Equal}
use Rattle.std.proofs.Common.{Greater, nat_cmp, is_eq, refl, sym, ap, ◌∙◌, append_assoc}
use Rattle.std.proofs.lemmas.List.{append-nil}
use Rattle.std.proofs.lemmas.Map.Text.{is_eq-slice_cmp}
use Rattle.std.proofs.lemmas.Slice.Eq.{bytes_eq-Decides}
use Rattle.std.specs.Cmp.Lexicographic.{slice_cmp}
use Rattle.std.specs.Ordering.{match_ordering}
use Rattle.serde_json.proofs.Views.{get_member-put}
use Rattle.serde_json.specs.Data.{Data, null, boolean, number, string, array, object, item, Members, no_members, member}
use Rattle.serde_json.specs.Data.{put}
use Rattle.serde_json.specs.Find.{get_member}
use Rattle.serde_json.specs.View.{items_of}
use Rattle.irs_xml.specs.Content.{Child, item_last, joined_values, without, with_child, with_children}
use Rattle.irs_emit_xml.specs.Trees.{value_alone, ones, ones_items}

-- ---- a member that isn't there yet

-- how a name compares with that of a member: it isn't that name where it isn't found
absent_first : (k l : List ℕ) (e : Data) (ms : Members) → get_member k (member l e ms) ≡ None
    → is_eq (slice_cmp nat_cmp k l) ≡ false
absent_first k l e ms h = by_order (slice_cmp nat_cmp k l) h
  where
    by_order : (o : Ordering) → match_ordering o (get_member k ms) (Some e) (get_member k ms) ≡ None → is_eq o ≡ false
    by_order Less h = refl
    by_order Equal h = absurd (cc h)
    by_order Greater h = refl

absent_later : (k l : List ℕ) (e : Data) (ms : Members) → get_member k (member l e ms) ≡ None → get_member k ms ≡ None
absent_later k l e ms h = by_order (slice_cmp nat_cmp k l) h
  where
    by_order : (o : Ordering) → match_ordering o (get_member k ms) (Some e) (get_member k ms) ≡ None
        → get_member k ms ≡ None
    by_order Less h = h
    by_order Equal h = absurd (cc h)
    by_order Greater h = h

-- a name that isn't there is removed from nothing
without_absent : (k : List ℕ) (ms : Members) → get_member k ms ≡ None → without k ms ≡ ms
without_absent k no_members h = refl
without_absent k (member l e ms) h =
    ap (λ b. cond b ms (member l e (without k ms))) (absent_first k l e ms h)
    ∙ ap (member l e) (without_absent k ms (absent_later k l e ms h))

same_name : (k : List ℕ) → is_eq (slice_cmp nat_cmp k k) ≡ true
same_name k = is_eq-slice_cmp k k ∙ (bytes_eq-Decides k k).1 refl

removed : (k : List ℕ) (d : Data) (ms : Members) → without k (member k d ms) ≡ ms
removed k d ms = ap (λ b. cond b ms (member k d (without k ms))) (same_name k)

-- what was added is removed again
without_put : (k : List ℕ) (d : Data) (ms : Members) → get_member k ms ≡ None → without k (put k d ms) ≡ ms
without_put k d no_members h = removed k d no_members
without_put k d (member l e ms) h =
    by_order (slice_cmp nat_cmp k l) refl (without_put k d ms (absent_later k l e ms h))
  where
    by_order : (o : Ordering) → slice_cmp nat_cmp k l ≡ o → without k (put k d ms) ≡ ms
        → without k (match_ordering o (member k d (member l e ms)) (member l d ms) (member l e (put k d ms)))
        ≡ member l e ms
    by_order Less is later = removed k d (member l e ms)
    by_order Equal is later = absurd (let no = absent_first k l e ms h in let yes = ap is_eq is in let both =
        sym yes ∙ no in cc both)
    by_order Greater is later =
        ap (λ b. cond b (put k d ms) (member l e (without k (put k d ms)))) (absent_first k l e ms h)
        ∙ ap (member l e) later

-- ---- children of one name

-- the first child of a name
first_child : (k : List ℕ) (d : Data) (ms : Members) → get_member k ms ≡ None → with_child (k, d) ms ≡ put k d ms
first_child k d ms h = ap (λ o. put k (joined_values o d) (without k ms)) h ∙ ap (put k d) (without_absent k ms h)

-- one more child of the name
next_child : (k : List ℕ) (d e : Data) (ms : Members) → get_member k ms ≡ None
    → with_child (k, e) (put k d ms) ≡ put k (joined_values (Some d) e) ms
next_child k d e ms h =
    ap (λ o. put k (joined_values o e) (without k (put k d ms))) (get_member-put k d ms)
    ∙ ap (put k (joined_values (Some d) e)) (without_put k d ms h)

-- the values of children of one name, after the first
abbrev joins : Data → List Data → Data
joins d [] = d
joins d (e ∷ es) = joins (joined_values (Some d) e) es

-- children that all have this name
abbrev pub all_named : List ℕ → List Data → List Child
all_named k ds = map (λ d. (k, d)) ds

next_children : (k : List ℕ) (d : Data) (es : List Data) (ms : Members) → get_member k ms ≡ None
    → with_children (all_named k es) (put k d ms) ≡ put k (joins d es) ms
next_children k d [] ms h = refl
next_children k d (e ∷ es) ms h =
    ap (with_children (all_named k es)) (next_child k d e ms h) ∙ next_children k (joined_values (Some d) e) es ms h

last_of : (ds : List Data) (e : Data) → item_last (items_of ds) e ≡ items_of (ds ++ e ∷ [])
last_of [] e = refl
last_of (d ∷ ds) e = ap (item d) (last_of ds e)

joins_array : (ds es : List Data) → joins (array (items_of ds)) es ≡ array (items_of (ds ++ es))
joins_array ds [] = ap (λ l. array (items_of l)) (sym (append-nil ds))
joins_array ds (e ∷ es) =
    ap (λ is. joins (array is) es) (last_of ds e) ∙ joins_array (ds ++ e ∷ []) es
    ∙ ap (λ l. array (items_of l)) (append_assoc ds (e ∷ []) es)

joins_object : (m : Members) (es : List Data) → joins (object m) es ≡ value_alone (items_of (object m ∷ es))
joins_object m [] = refl
joins_object m (e ∷ es) = joins_array (object m ∷ e ∷ []) es

-- the value is an object
abbrev pub IsObject : Data → Type 0
IsObject null = ⊥
IsObject (boolean b) = ⊥
IsObject (number n) = ⊥
IsObject (string s) = ⊥
IsObject (array ds) = ⊥
IsObject (object ms) = Unit {0}

-- the first value is an object
abbrev pub Begins : List Data → Type 0
Begins [] = ⊥
Begins (d ∷ ds) = IsObject d

-- what begins with an object does so also where more follows
pub begins_append : (ds es : List Data) → Begins ds → Begins (ds ++ es)
begins_append [] es h = absurd h
begins_append (d ∷ ds) es h = h

-- children of one name are one member
pub all_children : (k : List ℕ) (ds : List Data) (ms : Members) → Begins ds → get_member k ms ≡ None
    → with_children (all_named k ds) ms ≡ put k (value_alone (items_of ds)) ms
all_children k [] ms b h = absurd b
all_children k (null ∷ ds) ms b h = absurd b
all_children k (boolean x ∷ ds) ms b h = absurd b
all_children k (number n ∷ ds) ms b h = absurd b
all_children k (string s ∷ ds) ms b h = absurd b
all_children k (array is ∷ ds) ms b h = absurd b
all_children k (object m ∷ ds) ms b h =
    ap (with_children (all_named k ds)) (first_child k (object m) ms h) ∙ next_children k (object m) ds ms h
    ∙ ap (λ d. put k d ms) (joins_object m ds)

-- children after others
pub children_append : (cs es : List Child) (ms : Members)
    → with_children (cs ++ es) ms ≡ with_children es (with_children cs ms)
children_append [] es ms = refl
children_append (c ∷ cs) es ms = children_append cs es (with_child c ms)

-- the items of a value as XML carries it
pub ones_listed : (ds : List Data) → ones_items (items_of ds) ≡ items_of (map ones ds)
ones_listed [] = refl
ones_listed (d ∷ ds) = ap (item (ones d)) (ones_listed ds)
