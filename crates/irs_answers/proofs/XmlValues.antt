-- The value of FpML XML has strings for leaves, and nests no deeper than serde_json reads.
use Rattle.std.proofs.Common.{◌≡◌, ℕ, zero, suc, ◌+◌, ◌-◌, ◌≤◌, Bool, true, false, cond, List, [], ◌∷◌}
use Rattle.std.proofs.Common.{Option, Some, None, Ordering, Less, Equal, Greater, nat_cmp, is_eq, refl, subst, arith}
use Rattle.std.proofs.Common.{codes}
use Rattle.std.proofs.lemmas.Option.{same_Some}
use Rattle.std.specs.Prelude.{IfSome}
use Rattle.std.specs.Cmp.Lexicographic.{slice_cmp}
use Rattle.std.specs.Ordering.{match_ordering}
use Rattle.serde_json.specs.Data.{Data, null, boolean, number, string, array, object, Items, no_items, item, Members}
use Rattle.serde_json.specs.Data.{no_members, member, put}
use Rattle.serde_json.specs.Find.{get_member}
use Rattle.irs_emit.proofs.ReadBack.{Built, ItemsBuilt, MembersBuilt}
use Rattle.irs_xml.specs.Characters.{is_white}
use Rattle.irs_xml.specs.Content.{Element, empty, full, Content, nothing, character, reference, cdata, comment}
use Rattle.irs_xml.specs.Content.{instruction, child, IsElement, IsContent, most_levels, Child, both, children_in}
use Rattle.irs_xml.specs.Content.{element_child, element_data, is_counted, item_last, joined_values, leaf_value}
use Rattle.irs_xml.specs.Content.{named_child, value_from, with_child, with_children, with_settings, without}
use Rattle.irs_xml.specs.Document.{XmlReads, rooted, root_key, root_value}
use Rattle.irs_xml.specs.Tags.{Setting, Scope, first_scope}

-- ---- what nests to a lesser depth

mutual
  deeper : (n m : ℕ) (d : Data) → n ≤ m → Built n d → Built m d
  deeper n m null less h = h
  deeper n m (boolean b) less h = h
  deeper n m (number x) less h = h
  deeper n m (string s) less h = tt
  deeper n m (array ds) less h =
      let some = h.0 in (omega (arith, some, less), items_deeper (n - 1) (m - 1) ds (omega (arith, less)) h.1)
  deeper n m (object ms) less h =
      let some = h.0 in (omega (arith, some, less), members_deeper (n - 1) (m - 1) ms (omega (arith, less)) h.1)

  items_deeper : (n m : ℕ) (ds : Items) → n ≤ m → ItemsBuilt n ds → ItemsBuilt m ds
  items_deeper n m no_items less h = tt
  items_deeper n m (item d ds) less h = (deeper n m d less h.0, items_deeper n m ds less h.1)

  members_deeper : (n m : ℕ) (ms : Members) → n ≤ m → MembersBuilt n ms → MembersBuilt m ms
  members_deeper n m no_members less h = tt
  members_deeper n m (member k d ms) less h = (deeper n m d less h.0, members_deeper n m ms less h.1)

object_built : (n : ℕ) (ms : Members) → MembersBuilt n ms → Built (n + 1) (object ms)
object_built n ms h =
    let e : n ≡ n + 1 - 1 = omega arith in (omega arith, subst (λ (k : ℕ). MembersBuilt k ms) e h)

array_built : (n : ℕ) (ds : Items) → ItemsBuilt n ds → Built (n + 1) (array ds)
array_built n ds h = let e : n ≡ n + 1 - 1 = omega arith in (omega arith, subst (λ (k : ℕ). ItemsBuilt k ds) e h)

-- ---- members: each is the value of a child, or the array of the values of several

-- a member is a string, an object or an array built to this depth
abbrev In : ℕ → Data → Type 0
In n null = ⊥
In n (boolean b) = ⊥
In n (number x) = ⊥
In n (string s) = Unit {0}
In n (array ds) = ItemsBuilt n ds
In n (object ms) = Built n (object ms)

-- each member is built to this depth
abbrev MembersIn : ℕ → Members → Type 0
MembersIn n no_members = Unit {0}
MembersIn n (member k d ms) = In n d × MembersIn n ms

one_in : (n : ℕ) (d : Data) → Built n d → In n d
one_in n null h = h
one_in n (boolean b) h = h
one_in n (number x) h = h
one_in n (string s) h = tt
one_in n (array ds) h = items_deeper (n - 1) n ds (omega arith) h.1
one_in n (object ms) h = h

in_built : (n : ℕ) (d : Data) → In n d → Built (n + 1) d
in_built n null h = h
in_built n (boolean b) h = h
in_built n (number x) h = h
in_built n (string s) h = tt
in_built n (array ds) h = array_built n ds h
in_built n (object ms) h = deeper n (n + 1) (object ms) (omega arith) h

members_built : (n : ℕ) (ms : Members) → MembersIn n ms → MembersBuilt (n + 1) ms
members_built n no_members h = tt
members_built n (member k d ms) h = (in_built n d h.0, members_built n ms h.1)

match_in : (n : ℕ) (o : Ordering) (a b c : Members) → MembersIn n a → MembersIn n b → MembersIn n c
    → MembersIn n (match_ordering o a b c)
match_in n Less a b c p q r = p
match_in n Equal a b c p q r = q
match_in n Greater a b c p q r = r

put_in : (n : ℕ) (k : List ℕ) (d : Data) (ms : Members) → In n d → MembersIn n ms → MembersIn n (put k d ms)
put_in n k d no_members h t = (h, tt)
put_in n k d (member l e ms) h t =
    match_in n (slice_cmp nat_cmp k l) (member k d (member l e ms)) (member l d ms) (member l e (put k d ms)) (h, t) (
      h,
      t.1,
    ) (t.0, put_in n k d ms h t.1)

get_in : (n : ℕ) (k : List ℕ) (ms : Members) → MembersIn n ms → IfSome (get_member k ms) (In n)
get_in n k no_members h = tt
get_in n k (member l e ms) h = by_order (slice_cmp nat_cmp k l) (get_in n k ms h.1)
  where
    by_order : (o : Ordering) → IfSome (get_member k ms) (In n)
        → IfSome (match_ordering o (get_member k ms) (Some e) (get_member k ms)) (In n)
    by_order Less t = t
    by_order Equal t = h.0
    by_order Greater t = t

without_in : (n : ℕ) (k : List ℕ) (ms : Members) → MembersIn n ms → MembersIn n (without k ms)
without_in n k no_members h = tt
without_in n k (member l e ms) h = by_test (is_eq (slice_cmp nat_cmp k l)) (without_in n k ms h.1)
  where
    by_test : (b : Bool) → MembersIn n (without k ms) → MembersIn n (cond b ms (member l e (without k ms)))
    by_test true t = h.1
    by_test false t = (h.0, t)

last_built : (n : ℕ) (ds : Items) (d : Data) → ItemsBuilt n ds → Built n d → ItemsBuilt n (item_last ds d)
last_built n no_items d h k = (k, tt)
last_built n (item e es) d h k = (h.0, last_built n es d h.1 k)

joined_in : (n : ℕ) (o : Option Data) (d : Data) → IfSome o (In n) → Built n d → In n (joined_values o d)
joined_in n None d h k = one_in n d k
joined_in n (Some null) d h k = absurd h
joined_in n (Some (boolean b)) d h k = absurd h
joined_in n (Some (number x)) d h k = absurd h
joined_in n (Some (string s)) d h k = (tt, (k, tt))
joined_in n (Some (array ds)) d h k = last_built n ds d h k
joined_in n (Some (object ms)) d h k = (h, (k, tt))

-- ---- children and attributes

-- the value of each child is built to this depth
abbrev AreBuilt : ℕ → List Child → Type 0
AreBuilt n [] = Unit {0}
AreBuilt n (c ∷ cs) = Built n c.1 × AreBuilt n cs

children_built : (n : ℕ) (cs : List Child) (ms : Members) → AreBuilt n cs → MembersIn n ms
    → MembersIn n (with_children cs ms)
children_built n [] ms h t = t
children_built n (c ∷ cs) ms h t =
    children_built n cs (with_child c ms) h.1
    (put_in n c.0 (joined_values (get_member c.0 ms) c.1) (without c.0 ms)
    (joined_in n (get_member c.0 ms) c.1 (get_in n c.0 ms t) h.0) (without_in n c.0 ms t))

settings_in : (n : ℕ) (ss : List Setting) (ms : Members) → MembersIn n ms → MembersIn n (with_settings ss ms)
settings_in n [] ms t = t
settings_in n (s ∷ ss) ms t =
    by_count (is_counted s)
    (settings_in n ss (put (64 ∷ s.local) (string s.value) ms)
    (put_in n (64 ∷ s.local) (string s.value) ms tt t)) (settings_in n ss ms t)
  where
    by_count : (b : Bool) → MembersIn n (with_settings ss (put (64 ∷ s.local) (string s.value) ms))
        → MembersIn n (with_settings ss ms)
        → MembersIn n (with_settings ss (cond b (put (64 ∷ s.local) (string s.value) ms) ms))
    by_count true h k = h
    by_count false h k = k

-- ---- values of elements

object_in : (n : ℕ) (ms : Members) → MembersIn n ms → Built (n + 2) (object ms)
object_in n ms h =
    let e : n + 1 + 1 ≡ n + 2 = omega arith in
    subst (λ (k : ℕ). Built k (object ms)) e (object_built (n + 1) ms (members_built n ms h))

leaf_built : (n : ℕ) (text : List ℕ) (ms : Members) → MembersIn n ms → Built (n + 2) (leaf_value text ms)
leaf_built n text no_members h = tt
leaf_built n text (member k d ms) h = by_white (is_white text)
  where
    by_white : (b : Bool)
        → Built (n + 2)
        (cond b (object (member k d ms)) (object (put (codes "#text") (string text) (member k d ms))))
    by_white true = object_in n (member k d ms) h
    by_white false =
        object_in n (put (codes "#text") (string text) (member k d ms))
        (put_in n (codes "#text") (string text) (member k d ms) tt h)

value_built : (n : ℕ) (ss : List Setting) (text : List ℕ) (cs : List Child) (d : Data) → AreBuilt n cs
    → value_from ss text cs ≡ Some d → Built (n + 2) d
value_built n ss text [] d h e =
    subst (Built (n + 2)) (same_Some (leaf_value text (with_settings ss no_members)) d e)
    (leaf_built n text (with_settings ss no_members) (settings_in n ss no_members tt))
value_built n ss text (c ∷ cs) d h e = by_white (is_white text) e
  where
    ms : Members
    ms = with_children (c ∷ cs) (with_settings ss no_members)

    by_white : (b : Bool) → cond b (Some (object ms)) None ≡ Some d → Built (n + 2) d
    by_white true k =
        subst (Built (n + 2)) (same_Some (object ms) d k)
        (object_in n ms (children_built n (c ∷ cs) (with_settings ss no_members) h (settings_in n ss no_members tt)))
    by_white false k = absurd (cc k)

data_built : (n : ℕ) (kept : Bool) (ss : List Setting) (text : List ℕ) (children : Option (List Child)) (d : Data)
    → ((cs : List Child) → children ≡ Some cs → AreBuilt n cs) → element_data kept ss text children ≡ Some d
    → Built (n + 2) d
data_built n false ss text children d f e = subst (Built (n + 2)) (same_Some (string []) d e) tt
data_built n true ss text None d f e = absurd (cc e)
data_built n true ss text (Some cs) d f e = value_built n ss text cs d (f cs refl) e

named_built : (n : ℕ) (key : List ℕ) (o : Option Data) (c : Child) → ((d : Data) → o ≡ Some d → Built n d)
    → named_child key o ≡ Some c → Built n c.1
named_built n key None c f e = absurd (cc e)
named_built n key (Some d) c f e = subst (λ (x : Child). Built n x.1) (same_Some (key, d) c e) (f d refl)

both_built : (n : ℕ) (o : Option Child) (children : Option (List Child)) (cs : List Child)
    → ((c : Child) → o ≡ Some c → Built n c.1) → ((more : List Child) → children ≡ Some more → AreBuilt n more)
    → both o children ≡ Some cs → AreBuilt n cs
both_built n None children cs f g e = absurd (cc e)
both_built n (Some c) None cs f g e = absurd (cc e)
both_built n (Some c) (Some more) cs f g e =
    subst (AreBuilt n) (same_Some (c ∷ more) cs e) (f c refl, g more refl)

no_children : (n : ℕ) (cs : List Child) → ◌≡◌ {A = Option (List Child)} (Some []) (Some cs) → AreBuilt n cs
no_children n cs e = subst (AreBuilt n) (same_Some [] cs e) tt

-- one more level of XML is two levels of the value: an object, and an array of its children
level_more : (n : ℕ) (d : Data) → Built (n + n + 2) d → Built (suc n + suc n) d
level_more n d h = let e : n + n + 2 ≡ suc n + suc n = omega arith in subst (λ (k : ℕ). Built k d) e h

mutual
  element_built : (n : ℕ) (root : List ℕ) (kept : Bool) (scope : Scope) (e : Element) (c : Child) → IsElement n scope e
      → element_child root kept scope e ≡ Some c → Built (n + n) c.1
  element_built zero root kept scope (empty t) c is e = absurd is
  element_built zero root kept scope (full t content space) c is e = absurd is
  element_built (suc n) root kept scope (empty t) c is e =
      level_more n c.1
      (named_built (n + n + 2) _ _ c
      (λ d q. data_built (n + n) _ _ [] (Some []) d (no_children (n + n)) q) e)
  element_built (suc n) root kept scope (full t content space) c is e =
      level_more n c.1
      (named_built (n + n + 2) _ _ c
      (λ d q. data_built (n + n) _ _ _ _ d (λ cs p. content_built n root _ _ content cs is.1 p) q) e)

  content_built : (n : ℕ) (root : List ℕ) (kept : Bool) (scope : Scope) (c : Content) (cs : List Child)
      → IsContent n scope c → children_in root kept scope c ≡ Some cs → AreBuilt (n + n) cs
  content_built n root kept scope nothing cs is e = no_children (n + n) cs e
  content_built n root kept scope (character x c) cs is e = content_built n root kept scope c cs is.2 e
  content_built n root kept scope (reference r c) cs is e = content_built n root kept scope c cs is.1 e
  content_built n root kept scope (cdata ds c) cs is e = content_built n root kept scope c cs is.1 e
  content_built n root kept scope (comment ds c) cs is e = content_built n root kept scope c cs is.1 e
  content_built n root kept scope (instruction i c) cs is e = content_built n root kept scope c cs is.1 e
  content_built n root kept scope (child el c) cs is e =
      both_built (n + n) _ _ cs (λ x p. element_built n root kept scope el x is.0 p)
      (λ xs p. content_built n root kept scope c xs is.1 p) e

-- ---- documents

rooted_built : (local : List ℕ) (o : Option Child) (v : Data) → ((c : Child) → o ≡ Some c → Built 126 c.1)
    → rooted local o ≡ Some v → Built 127 v
rooted_built local None v f e = absurd (cc e)
rooted_built local (Some c) v f e =
    subst (Built 127) (same_Some (object (member (root_key local) c.1 no_members)) v e)
    (object_built 126 (member (root_key local) c.1 no_members) (f c refl, tt))

root_built : (namespace : Option (List ℕ)) (local : List ℕ) (e : Element) (v : Data) → IsElement most_levels first_scope e
    → root_value namespace local e ≡ Some v → Built 127 v
root_built None local e v is r = absurd (cc r)
root_built (Some n) local e v is r =
    rooted_built local _ v (λ c p. element_built most_levels n true first_scope e c is p) r

-- a value of XML is built of strings, arrays and objects, at most 127 deep
pub xml_built : (bytes : List ℕ) (v : Data) → XmlReads bytes v → Built 127 v
xml_built bytes v r = root_built _ _ r.document.root v r.well_formed.root r.means
