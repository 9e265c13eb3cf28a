-- A value has no more text than its document: nothing that is read grows.
use Rattle.std.proofs.Common.{◌≡◌, ℕ, ◌+◌, ◌<◌, ◌≤◌, Bool, true, false, cond, ◌&&◌, List, [], ◌∷◌, ◌++◌, length, Option, Some, None, Ordering, Less, Equal, Greater, nat_eq, nat_cmp, is_eq, refl, ap, subst, ◌∙◌, arith, length-append, inl, inr, codes}
use Rattle.std.proofs.lemmas.Str.{length-encode, len_utf8_bounds, len_utf8_ascii, length-le-encodes, encodes-append}
use Rattle.std.specs.Char.{encode_utf8}
use Rattle.std.specs.Cmp.Lexicographic.{slice_cmp}
use Rattle.std.specs.Ordering.{match_ordering}
use Rattle.std.specs.Str.{encode_utf8_all}
use Rattle.serde_json.specs.Data.{Data, null, boolean, number, string, array, object, Items, no_items, item, Members, no_members, member, put}
use Rattle.serde_json.specs.Find.{get_member}
use Rattle.irs_xml.specs.Characters.{is_white, is_white_space, ends_after, without_mark, cdata_text, comment_text}
use Rattle.irs_xml.specs.Characters.{instruction_text, name_text, Reference, less, greater, ampersand, apostrophe}
use Rattle.irs_xml.specs.Characters.{quotation, decimal, hexadecimal, reference_text, character_of}
use Rattle.irs_xml.specs.Content.{text_size, items_size, members_size, Element, empty, full, element_text, Content}
use Rattle.irs_xml.specs.Content.{nothing, character, reference, cdata, comment, instruction, child, content_text}
use Rattle.irs_xml.specs.Content.{item_last, joined_values, without, with_child, with_children, Child, with_settings}
use Rattle.irs_xml.specs.Content.{is_counted, leaf_value, value_from, element_data, named_child, both, element_child}
use Rattle.irs_xml.specs.Content.{children_in, text_inside}
use Rattle.irs_xml.specs.Document.{Document, document_text, document_value, declaration_text, misc_text, rooted}
use Rattle.irs_xml.specs.Document.{root_value, XmlReads}
use Rattle.irs_xml.specs.Tags.{Setting, Scope, settings_of, first_scope, ValuePiece, plain, refers, piece_text}
use Rattle.irs_xml.specs.Tags.{piece_character, pieces_text, pieces_value, Attribute, attribute_text, attributes_text}
use Rattle.irs_xml.specs.Tags.{Tag, tag_text}
use Rattle.irs_xml.proofs.Steps.{same_some, chosen}

-- values

-- the text of a value, none where there is no value
abbrev option_size : Option Data → ℕ
option_size None = 0
option_size (Some d) = text_size d

-- the text of all children's values
abbrev children_size : List Child → ℕ
children_size [] = 0
children_size (c ∷ cs) = text_size c.1 + children_size cs

match_most : (o : Ordering) (a b c : Members) (n : ℕ) → members_size a ≤ n → members_size b ≤ n → members_size c ≤ n
    → members_size (match_ordering o a b c) ≤ n
match_most Less a b c n p q r = p
match_most Equal a b c n p q r = q
match_most Greater a b c n p q r = r

put_size : (k : List ℕ) (d : Data) (ms : Members) → members_size (put k d ms) ≤ members_size ms + text_size d
put_size k d no_members = omega arith
put_size k d (member l e ms) =
    let more = put_size k d ms in
    match_most (slice_cmp nat_cmp k l) _ _ _ _ (omega arith) (omega arith) (omega (arith, more))

taken_size : (k : List ℕ) (ms : Members) → option_size (get_member k ms) + members_size (without k ms) ≤ members_size ms
taken_size k no_members = omega arith
taken_size k (member l e ms) = by_order (slice_cmp nat_cmp k l) (taken_size k ms)
  where
    by_order : (o : Ordering) → option_size (get_member k ms) + members_size (without k ms) ≤ members_size ms
        → option_size (match_ordering o (get_member k ms) (Some e) (get_member k ms))
        + members_size (cond (is_eq o) ms (member l e (without k ms))) ≤ text_size e + members_size ms
    by_order Less h = omega (arith, h)
    by_order Equal h = omega arith
    by_order Greater h = omega (arith, h)

last_size : (ds : Items) (d : Data) → items_size (item_last ds d) ≡ items_size ds + text_size d
last_size no_items d = omega arith
last_size (item e ds) d = let more = last_size ds d in omega (arith, more)

joined_size : (o : Option Data) (d : Data) → text_size (joined_values o d) ≡ option_size o + text_size d
joined_size None d = omega arith
joined_size (Some null) d = omega arith
joined_size (Some (boolean b)) d = omega arith
joined_size (Some (number n)) d = omega arith
joined_size (Some (string s)) d = omega arith
joined_size (Some (array ds)) d = last_size ds d
joined_size (Some (object ms)) d = omega arith

child_size : (c : Child) (ms : Members) → members_size (with_child c ms) ≤ members_size ms + text_size c.1
child_size c ms =
    let a = put_size c.0 (joined_values (get_member c.0 ms) c.1) (without c.0 ms) in
    let b = joined_size (get_member c.0 ms) c.1 in
    let t = taken_size c.0 ms in omega (arith, a, b, t)

all_children_size : (cs : List Child) (ms : Members) → members_size (with_children cs ms) ≤ members_size ms + children_size cs
all_children_size [] ms = omega arith
all_children_size (c ∷ cs) ms =
    let a = all_children_size cs (with_child c ms) in
    let b = child_size c ms in omega (arith, a, b)

-- the bytes of characters

-- the bytes of these characters in UTF-8
abbrev width : List ℕ → ℕ
width cs = length (encode_utf8_all cs)

wide : (c : ℕ) → (1 ≤ length (encode_utf8 c)) × (length (encode_utf8 c) ≤ 4)
wide c =
    let b = len_utf8_bounds c in
    let e = length-encode c in
    let l = b.0 in
    let h = b.1 in (omega (arith, e, l), omega (arith, e, h))

-- a character of ASCII is one byte
one : (c : ℕ) → c < 128 → length (encode_utf8 c) ≡ 1
one c h = length-encode c ∙ len_utf8_ascii c h

width-append : (a b : List ℕ) → width (a ++ b) ≡ width a + width b
width-append a b = ap length (encodes-append a b) ∙ length-append (encode_utf8_all a) (encode_utf8_all b)

width-cons : (c : ℕ) (cs : List ℕ) → width (c ∷ cs) ≡ length (encode_utf8 c) + width cs
width-cons c cs = length-append (encode_utf8 c) (encode_utf8_all cs)

ahead : (a b : List ℕ) → width a ≤ width (a ++ b)
ahead a b = let e = width-append a b in omega (arith, e)

behind : (a b : List ℕ) → width b ≤ width (a ++ b)
behind a b = let e = width-append a b in omega (arith, e)

later : (c : ℕ) (cs : List ℕ) → width cs ≤ width (c ∷ cs)
later c cs = let e = width-cons c cs in omega (arith, e)

up : {n m k : ℕ} → n ≤ m → m ≤ k → n ≤ k
up p q = omega (arith, p, q)

-- references

two : 2 ≤ 3
two = omega arith

most_four : (c n : ℕ) → 4 ≤ n → length (encode_utf8 c) ≤ n
most_four c n h = let w = wide c in let m = w.1 in omega (arith, m, h)

four : (word : List ℕ) (d : ℕ) (ds end : List ℕ) → 2 ≤ width word → 1 ≤ width end → 4 ≤ width (word ++ ((d ∷ ds) ++ end))
four word d ds end h g =
    let a = width-append word ((d ∷ ds) ++ end) in
    let b = width-append (d ∷ ds) end in
    let c = width-cons d ds in
    let w = (wide d).0 in omega (arith, a, b, c, w, h, g)

-- each character is one byte or more
long : (cs : List ℕ) → length cs ≤ width cs
long cs = length-le-encodes cs

reference_most : (r : Reference) → length (encode_utf8 (character_of r)) ≤ width (reference_text r)
reference_most less = up (most_four 60 4 (omega arith)) (long (codes "&lt;"))
reference_most greater = up (most_four 62 4 (omega arith)) (long (codes "&gt;"))
reference_most ampersand = up (most_four 38 5 (omega arith)) (long (codes "&amp;"))
reference_most apostrophe = up (most_four 39 6 (omega arith)) (long (codes "&apos;"))
reference_most quotation = up (most_four 34 6 (omega arith)) (long (codes "&quot;"))
reference_most (decimal []) = let e = one 0 (omega arith) in let l = long (codes "&#;") in omega (arith, e, l)
reference_most (decimal (d ∷ ds)) = most_four _ _ (four (codes "&#") d ds (codes ";") (long (codes "&#")) (long (codes ";")))
reference_most (hexadecimal []) = let e = one 0 (omega arith) in let l = long (codes "&#x;") in omega (arith, e, l)
reference_most (hexadecimal (d ∷ ds)) =
    let l = long (codes "&#x") in
    most_four _ _ (four (codes "&#x") d ds (codes ";") (up two l) (long (codes ";")))

-- attributes

piece_most : (p : ValuePiece) → length (encode_utf8 (piece_character p)) ≤ width (piece_text p)
piece_most (plain c) = by_space (is_white_space c)
  where
    by_space : (b : Bool) → length (encode_utf8 (cond b 32 c)) ≤ width (c ∷ [])
    by_space true =
        let a = width-cons c [] in
        let w = (wide c).0 in
        let e = one 32 (omega arith) in omega (arith, a, w, e)
    by_space false = let a = width-cons c [] in omega (arith, a)
piece_most (refers r) = reference_most r

pieces_most : (ps : List ValuePiece) → length (pieces_value ps) ≤ width (pieces_text ps)
pieces_most [] = omega arith
pieces_most (p ∷ ps) =
    let a = piece_most p in
    let b = pieces_most ps in
    let c = length-append (encode_utf8 (piece_character p)) (pieces_value ps) in
    let d = width-append (piece_text p) (pieces_text ps) in omega (arith, a, b, c, d)

attribute_most : (a : Attribute) → length (pieces_value a.pieces) ≤ width (attribute_text a)
attribute_most a =
    let end = pieces_text a.pieces ++ a.quote ∷ [] in
    up (pieces_most a.pieces)
    (up (ahead (pieces_text a.pieces) (a.quote ∷ []))
    (up (later a.quote end)
    (up (behind a.after (a.quote ∷ end))
    (up (later 61 (a.after ++ (a.quote ∷ end)))
    (up (behind a.before (61 ∷ (a.after ++ (a.quote ∷ end))))
    (up (behind (name_text a.name) (a.before ++ (61 ∷ (a.after ++ (a.quote ∷ end)))))
    (behind a.gap (name_text a.name ++ (a.before ++ (61 ∷ (a.after ++ (a.quote ∷ end))))))))))))

-- the bytes of all values of attributes
abbrev settings_size : List Setting → ℕ
settings_size [] = 0
settings_size (s ∷ ss) = length s.value + settings_size ss

settings_most : (attributes : List Attribute) → settings_size (settings_of attributes) ≤ width (attributes_text attributes)
settings_most [] = omega arith
settings_most (a ∷ rest) =
    let h = attribute_most a in
    let t = settings_most rest in
    let e = width-append (attribute_text a) (attributes_text rest) in omega (arith, h, t, e)

tag_most : (t : Tag) → settings_size (settings_of t.attributes) ≤ width (tag_text t)
tag_most t =
    let rest = attributes_text t.attributes ++ t.space in
    up (settings_most t.attributes)
    (up (ahead (attributes_text t.attributes) t.space)
    (up (behind (name_text t.name) rest) (later 60 (name_text t.name ++ rest))))

all_settings_size : (ss : List Setting) (ms : Members) → members_size (with_settings ss ms) ≤ members_size ms + settings_size ss
all_settings_size [] ms = omega arith
all_settings_size (s ∷ ss) ms =
    by_count (is_counted s) (all_settings_size ss (put (64 ∷ s.local) (string s.value) ms)) (all_settings_size ss ms)
  where
    by_count : (b : Bool)
        → members_size (with_settings ss (put (64 ∷ s.local) (string s.value) ms))
        ≤ members_size (put (64 ∷ s.local) (string s.value) ms) + settings_size ss
        → members_size (with_settings ss ms) ≤ members_size ms + settings_size ss
        → members_size (with_settings ss (cond b (put (64 ∷ s.local) (string s.value) ms) ms))
        ≤ members_size ms + (length s.value + settings_size ss)
    by_count true g h = let p = put_size (64 ∷ s.local) (string s.value) ms in omega (arith, g, p)
    by_count false g h = omega (arith, h)

-- elements

leaf_most : (text : List ℕ) (ms : Members) → text_size (leaf_value text ms) ≤ length text + members_size ms
leaf_most text no_members = omega arith
leaf_most text (member k d ms) = by_white (is_white text)
  where
    by_white : (b : Bool)
        → text_size (cond b (object (member k d ms)) (object (put (codes "#text") (string text) (member k d ms))))
        ≤ length text + members_size (member k d ms)
    by_white true = omega arith
    by_white false = let p = put_size (codes "#text") (string text) (member k d ms) in omega (arith, p)

value_most : (ss : List Setting) (text : List ℕ) (cs : List Child) (d : Data) → value_from ss text cs ≡ Some d
    → text_size d ≤ length text + (settings_size ss + children_size cs)
value_most ss text [] d e =
    let l = leaf_most text (with_settings ss no_members) in
    let s = all_settings_size ss no_members in
    subst (λ x. text_size x ≤ length text + (settings_size ss + 0)) (same_some e) (omega (arith, l, s))
value_most ss text (c ∷ cs) d e =
    elim (chosen (is_white text) (Some (object (with_children (c ∷ cs) (with_settings ss no_members)))) None (Some d) e) [
      | inl h ↦
          let a = all_children_size (c ∷ cs) (with_settings ss no_members) in
          let s = all_settings_size ss no_members in
          subst (λ x. text_size x ≤ length text + (settings_size ss + children_size (c ∷ cs))) (same_some h.1) (omega (arith, a, s))
      | inr h ↦ absurd (let k = h.1 in cc k)
    ]

data_most : (kept : Bool) (ss : List Setting) (text : List ℕ) (children : Option (List Child)) (n : ℕ) (d : Data)
    → ((cs : List Child) → children ≡ Some cs → length text + children_size cs ≤ n)
    → element_data kept ss text children ≡ Some d → text_size d ≤ settings_size ss + n
data_most false ss text children n d f e = subst (λ x. text_size x ≤ settings_size ss + n) (same_some e) (omega arith)
data_most true ss text None n d f e = absurd (cc e)
data_most true ss text (Some cs) n d f e =
    let v = value_most ss text cs d e in
    let h = f cs refl in omega (arith, v, h)

named_most : (key : List ℕ) (o : Option Data) (n : ℕ) (c : Child) → ((d : Data) → o ≡ Some d → text_size d ≤ n)
    → named_child key o ≡ Some c → text_size c.1 ≤ n
named_most key None n c f e = absurd (cc e)
named_most key (Some d) n c f e = subst (λ x. text_size x.1 ≤ n) (same_some e) (f d refl)

both_most : (o : Option Child) (children : Option (List Child)) (n m t : ℕ) (cs : List Child)
    → ((c : Child) → o ≡ Some c → text_size c.1 ≤ n) → ((cs : List Child) → children ≡ Some cs → t + children_size cs ≤ m)
    → both o children ≡ Some cs → t + children_size cs ≤ n + m
both_most None children n m t cs f g e = absurd (cc e)
both_most (Some c) None n m t cs f g e = absurd (cc e)
both_most (Some c) (Some more) n m t cs f g e =
    let a = f c refl in
    let b = g more refl in subst (λ x. t + children_size x ≤ n + m) (same_some e) (omega (arith, a, b))

full_most : (a b r : List ℕ) → width a + width b ≤ width (a ++ (62 ∷ (b ++ r)))
full_most a b r =
    let p = width-append a (62 ∷ (b ++ r)) in
    let q = width-cons 62 (b ++ r) in
    let s = width-append b r in omega (arith, p, q, s)

no_children : (cs : List Child) → ◌≡◌ {A = Option (List Child)} (Some []) (Some cs) → 0 + children_size cs ≤ 0
no_children cs e = subst (λ x. 0 + children_size x ≤ 0) (same_some e) (omega arith)

mutual
  element_most : (root : List ℕ) (kept : Bool) (scope : Scope) (e : Element) (c : Child)
      → element_child root kept scope e ≡ Some c → text_size c.1 ≤ width (element_text e)
  element_most root kept scope (empty t) c e =
      named_most _ _ _ c (λ d q.
      let m = data_most _ (settings_of t.attributes) [] (Some []) 0 d no_children q in
      let g = tag_most t in
      let a = ahead (tag_text t) (codes "/>") in omega (arith, m, g, a)) e
  element_most root kept scope (full t content space) c e =
      named_most _ _ _ c (λ d q.
      let m = data_most _ (settings_of t.attributes) (text_inside content) _ (width (content_text content)) d
      (λ cs p. content_most root _ _ content cs p) q in
      let g = tag_most t in
      let a = full_most (tag_text t) (content_text content) (codes "</" ++ (name_text t.name ++ (space ++ codes ">"))) in
      omega (arith, m, g, a)) e

  content_most : (root : List ℕ) (kept : Bool) (scope : Scope) (c : Content) (cs : List Child)
      → children_in root kept scope c ≡ Some cs → length (text_inside c) + children_size cs ≤ width (content_text c)
  content_most root kept scope nothing cs e = no_children cs e
  content_most root kept scope (character x c) cs e =
      let h = content_most root kept scope c cs e in
      let a = length-append (encode_utf8 x) (text_inside c) in
      let w = width-cons x (content_text c) in omega (arith, h, a, w)
  content_most root kept scope (reference r c) cs e =
      let h = content_most root kept scope c cs e in
      let a = length-append (encode_utf8 (character_of r)) (text_inside c) in
      let m = reference_most r in
      let w = width-append (reference_text r) (content_text c) in omega (arith, h, a, m, w)
  content_most root kept scope (cdata ds c) cs e =
      let h = content_most root kept scope c cs e in
      let a : length (encode_utf8_all ds ++ text_inside c) ≡ width ds + length (text_inside c) = length-append (encode_utf8_all ds) (text_inside c) in
      let m = up (ahead ds (codes "]]>")) (behind (codes "<![CDATA[") (ds ++ codes "]]>")) in
      let w = width-append (cdata_text ds) (content_text c) in omega (arith, h, a, m, w)
  content_most root kept scope (comment ds c) cs e =
      up (content_most root kept scope c cs e) (behind (comment_text ds) (content_text c))
  content_most root kept scope (instruction i c) cs e =
      up (content_most root kept scope c cs e) (behind (instruction_text i) (content_text c))
  content_most root kept scope (child el c) cs e =
      let w = width-append (element_text el) (content_text c) in
      let b = both_most _ _ (width (element_text el)) (width (content_text c)) (length (text_inside c)) cs
      (λ x p. element_most root kept scope el x p) (λ xs p. content_most root kept scope c xs p) e in omega (arith, w, b)

-- documents

rooted_most : (local : List ℕ) (o : Option Child) (n : ℕ) (v : Data) → ((c : Child) → o ≡ Some c → text_size c.1 ≤ n)
    → rooted local o ≡ Some v → text_size v ≤ n
rooted_most local None n v f e = absurd (cc e)
rooted_most local (Some c) n v f e =
    let h = f c refl in subst (λ x. text_size x ≤ n) (same_some e) (omega (arith, h))

root_most : (namespace : Option (List ℕ)) (local : List ℕ) (e : Element) (v : Data) → root_value namespace local e ≡ Some v
    → text_size v ≤ width (element_text e)
root_most None local e v r = absurd (cc r)
root_most (Some n) local e v r = rooted_most local _ _ v (λ c p. element_most n true first_scope e c p) r

document_most : (d : Document) (v : Data) → document_value d ≡ Some v → text_size v ≤ width (document_text d)
document_most d v e =
    let tail = element_text d.root ++ misc_text d.behind in
    up (root_most _ _ d.root v e)
    (up (ahead (element_text d.root) (misc_text d.behind))
    (up (behind (misc_text d.before) tail) (behind (declaration_text d.declaration) (misc_text d.before ++ tail))))

ends_step : (x y : Bool) (c : ℕ) (cs feed other : List ℕ) → width feed ≤ width cs → width other ≤ width cs
    → width (cond x (10 ∷ feed) (cond y other (c ∷ other))) ≤ width (c ∷ cs)
ends_step true y c cs feed other g h =
    let a = width-cons 10 feed in
    let b = width-cons c cs in
    let w = (wide c).0 in
    let e = one 10 (omega arith) in omega (arith, a, b, w, e, g)
ends_step false true c cs feed other g h = up h (later c cs)
ends_step false false c cs feed other g h =
    let a = width-cons c other in
    let b = width-cons c cs in omega (arith, a, b, h)

ends_most : (x : Bool) (cs : List ℕ) → width (ends_after x cs) ≤ width cs
unfolding ends_after
ends_most x [] = omega arith
ends_most x (c ∷ cs) = ends_step (nat_eq c 13) (x && nat_eq c 10) c cs _ _ (ends_most true cs) (ends_most false cs)

mark_most : (cs : List ℕ) → width (without_mark cs) ≤ width cs
mark_most [] = omega arith
mark_most (c ∷ cs) = by_mark (nat_eq c 0xFEFF)
  where
    by_mark : (b : Bool) → width (cond b cs (c ∷ cs)) ≤ width (c ∷ cs)
    by_mark true = later c cs
    by_mark false = omega arith

-- a value has no more text than its document has bytes
pub no_larger : (bytes : List ℕ) (d : Data) → XmlReads bytes d → text_size d ≤ length bytes
no_larger bytes d r =
    let m = document_most r.document d r.means in
    let s = ap width r.spelt in
    let e = ends_most false (without_mark r.characters) in
    let k = mark_most r.characters in
    let t : length bytes ≡ width r.characters = ap length r.text.spelt in omega (arith, m, s, e, k, t)
