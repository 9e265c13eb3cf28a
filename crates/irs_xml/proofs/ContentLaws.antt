-- What is read as content and as elements is spelt as such, and what is spelt as such is read.
use Rattle.std.proofs.Common.{◌≡◌, ◌≢◌, inl, inr, ℕ, zero, suc, ◌≤◌, Bool, true, false, cond, not, ◌&&◌, ◌||◌, List, [], ◌∷◌, ◌++◌, length, Option, Some, None, nat_eq, refl, sym, ap, subst, ◌∙◌, arith, append_assoc, length-append}
use Rattle.std.proofs.lemmas.Bool.{cases_Bool}
use Rattle.std.proofs.lemmas.Bool.Decides.{nat_tests}
use Rattle.std.proofs.lemmas.List.{append-nil}
use Rattle.std.proofs.lemmas.Str.{chars-encodes, length-encode, len_utf8_bounds}
use Rattle.std.specs.Char.{encode_utf8, IsScalar}
use Rattle.std.specs.List.{list_all}
use Rattle.std.specs.Prelude.{codes}
use Rattle.std.specs.Str.{encode_utf8_all, all_scalars}
use Rattle.serde_json.specs.Data.{Data, Members, string}
use Rattle.irs_xml.specs.Characters.{is_white_space, is_white, ends_after, rest_after, comment_text, is_comment_text}
use Rattle.irs_xml.specs.Characters.{cdata_text, is_cdata, Instruction, is_instruction, instruction_text, is_name_start}
use Rattle.irs_xml.specs.Characters.{is_name_char, is_nc_name, name_text, prefixed, is_prefix, is_qname, Reference}
use Rattle.irs_xml.specs.Characters.{reference_text, character_of, is_reference, seen}
use Rattle.irs_xml.specs.Content.{Element, empty, full, Content, nothing, character, reference, cdata, comment}
use Rattle.irs_xml.specs.Content.{instruction, child, element_text, content_text, is_char_data, IsTagIn, IsElement}
use Rattle.irs_xml.specs.Content.{IsContent, Child, is_ours, key_of, named_child, both, element_data, element_child}
use Rattle.irs_xml.specs.Content.{children_in, text_inside, with_children}
use Rattle.irs_xml.specs.Document.{tag_of}
use Rattle.irs_xml.specs.Tags.{Setting, Opening, Scope, opening_of, is_opened, scope_in, Tag, tag_text, is_tag}
use Rattle.irs_xml.specs.Tags.{attributes_text}
use Rattle.irs_xml.specs.Private.Reading.{Got, ◌>>=◌, choose, skip_space, Inside, Mark, ending, commented, sectioned}
use Rattle.irs_xml.specs.Private.Reading.{instructed, nested, referred, standing, mark_at, markup_at, piece_at}
use Rattle.irs_xml.specs.Private.Reading.{content_at, closing_name_at, closing_at, filled_at, element_at, child_at}
use Rattle.irs_xml.specs.Private.Reading.{as_child, finished, begun, with_one, with_text, with_character, comment_at}
use Rattle.irs_xml.specs.Private.Reading.{instruction_at, data_at, reference_at, tag_at}
use Rattle.irs_xml.proofs.Steps.{same_some, bind_some, choose_some, chosen, both_true, true_both, eq_true, false_eq, after_sound, after_complete, after-append, begins, white_run, run_white, skip_sound, skip-white}
use Rattle.irs_xml.proofs.NameReads.{char_no_return}
use Rattle.irs_xml.proofs.ReferenceLaws.{reference_sound, reference_complete, tail}
use Rattle.irs_xml.proofs.CommentLaws.{comment_sound, comment_complete, data_sound, data_complete, instruction_sound, instruction_complete}
use Rattle.irs_xml.proofs.TagLaws.{end_text, prefixed_begins, reference_begins, reference_some, tag_sound, tag_complete}

-- names in end tags

char_scalar : (c : ℕ) → is_name_char c ≡ true → IsScalar c
unfolding is_name_char is_name_start
char_scalar c h = grind (arith, nat_tests)

start_char : (c : ℕ) → is_name_start c ≡ true → is_name_char c ≡ true
unfolding is_name_char
start_char c h = rw h refl

nc_chars : (ns : List ℕ) → is_nc_name ns ≡ true → list_all is_name_char ns ≡ true
nc_chars [] h = refl
nc_chars (c ∷ cs) h =
    let b = both_true (is_name_start c) (list_all is_name_char cs) h in
    true_both (is_name_char c) (list_all is_name_char cs) (start_char c b.0) b.1

chars_scalars : (ns : List ℕ) → list_all is_name_char ns ≡ true → all_scalars ns ≡ true
chars_scalars [] h = refl
chars_scalars (c ∷ cs) h =
    let b = both_true (is_name_char c) (list_all is_name_char cs) h in
    true_both _ (all_scalars cs) (char_scalar c b.0) (chars_scalars cs b.1)

plain_step : (c : ℕ) (cs : List ℕ) → c ≢ 13 → ends_after false (c ∷ cs) ≡ c ∷ ends_after false cs
unfolding ends_after
plain_step c cs h = grind (arith, nat_tests)

chars_plain : (ns : List ℕ) → list_all is_name_char ns ≡ true → ends_after false ns ≡ ns
unfolding ends_after
chars_plain [] h = refl
chars_plain (c ∷ cs) h =
    let b = both_true (is_name_char c) (list_all is_name_char cs) h in
    plain_step c cs (char_no_return c b.0) ∙ ap (λ t. c ∷ t) (chars_plain cs b.1)

seen_name : (ns : List ℕ) → is_nc_name ns ≡ true → seen (encode_utf8_all ns) ≡ ns
unfolding seen
seen_name ns h = ap (ends_after false) (chars-encodes ns (chars_scalars ns (nc_chars ns h))) ∙ chars_plain ns (nc_chars ns h)

not_empty : (c : ℕ) (cs : List ℕ) → nat_eq (length (encode_utf8_all (c ∷ cs))) 0 ≡ false
not_empty c cs =
    let a = length-append (encode_utf8 c) (encode_utf8_all cs) in
    let b = length-encode c in
    let d = (len_utf8_bounds c).0 in
    false_eq (length (encode_utf8_all (c ∷ cs))) 0 (λ e. absurd (omega (arith, a, b, d, e)))

bind_after : (a b d cs : List ℕ) → (rest_after a cs >>= rest_after b >>= rest_after d) ≡ rest_after (a ++ (b ++ d)) cs
bind_after a b d cs = regroup (rest_after a cs) ∙ sym (after-append a (b ++ d) cs)
  where
    regroup : (o : Option (List ℕ)) → (o >>= rest_after b >>= rest_after d) ≡ (o >>= rest_after (b ++ d))
    regroup None = refl
    regroup (Some x) = sym (after-append b d x)

closing_name_is : (p l cs : List ℕ) → is_prefix p && is_nc_name l ≡ true
    → closing_name_at (encode_utf8_all p) (encode_utf8_all l) cs ≡ rest_after (prefixed p l) cs
unfolding closing_name_at
closing_name_is [] l cs h = ap (λ w. rest_after w cs) (seen_name l h)
closing_name_is (c ∷ p) l cs h =
    let b = both_true (is_nc_name (c ∷ p)) (is_nc_name l) h in
    let filled = not_empty c p in
    rw filled (ap (λ w. rest_after w cs >>= rest_after (codes ":") >>= rest_after (seen (encode_utf8_all l))) (seen_name (c ∷ p) b.0)
    ∙ ap (λ w. rest_after (c ∷ p) cs >>= rest_after (codes ":") >>= rest_after w) (seen_name l b.1)
    ∙ bind_after (c ∷ p) (codes ":") l cs)

-- the end tag of this start tag, read after its `</`
pub record ReadClosing (t : Tag) (cs rest : List ℕ) : Type 0 where
  pub space : List ℕ
  pub white : is_white space ≡ true
  pub spelt : cs ≡ name_text t.name ++ (space ++ (codes ">" ++ rest))

closing_sound : (t : Tag) (cs rest : List ℕ) → is_qname t.name ≡ true → closing_at (opening_of t) cs ≡ Some rest → ReadClosing t cs rest
unfolding closing_at
closing_sound t cs rest h e =
    let b = bind_some (closing_name_at (encode_utf8_all t.name.prefix) (encode_utf8_all t.name.local) cs) _ rest e in
    let name = after_sound (name_text t.name) cs b.0 (sym (closing_name_is t.name.prefix t.name.local cs h) ∙ b.1) in
    record {
      space = white_run b.0;
      white = run_white b.0;
      spelt = name ∙ ap (λ t'. name_text t.name ++ t') (skip_sound b.0 ∙ ap (λ x. white_run b.0 ++ x) (after_sound (codes ">") (skip_space b.0) rest b.2));
    }

end_no_space : (rest : List ℕ) → begins is_white_space (62 ∷ rest) ≡ false
unfolding is_white_space
end_no_space rest = refl

closing_complete : (t : Tag) (space rest : List ℕ) → is_qname t.name ≡ true → is_white space ≡ true
    → closing_at (opening_of t) (name_text t.name ++ (space ++ (codes ">" ++ rest))) ≡ Some rest
unfolding closing_at
closing_complete t space rest h w =
    let name = closing_name_is t.name.prefix t.name.local (name_text t.name ++ (space ++ (codes ">" ++ rest))) h
    ∙ after_complete (name_text t.name) (space ++ (codes ">" ++ rest)) in
    let skip = skip-white space (62 ∷ rest) w (end_no_space rest) in
    rw name (rw skip refl)

-- marks

-- how a mark is spelt
abbrev mark_text : Mark → List ℕ
mark_text ending = codes "</"
mark_text commented = codes "<!--"
mark_text sectioned = codes "<![CDATA["
mark_text instructed = codes "<?"
mark_text nested = codes "<"
mark_text referred = codes "&"
mark_text (standing c) = c ∷ []

-- what a character of text keeps
abbrev Keeps : Mark → List ℕ → Type 0
Keeps ending cs = Unit {0}
Keeps commented cs = Unit {0}
Keeps sectioned cs = Unit {0}
Keeps instructed cs = Unit {0}
Keeps nested cs = Unit {0}
Keeps referred cs = Unit {0}
Keeps (standing c) cs = (is_char_data c ≡ true) × (rest_after (codes "]]>") (c ∷ cs) ≡ None)

-- a mark that was read
record ReadMark (cs : List ℕ) (m : Mark) (mid : List ℕ) : Type 0 where
  spelt : cs ≡ mark_text m ++ mid
  keeps : Keeps m mid

markup_word : (k m : Mark) (w cs x mid : List ℕ) → mark_text k ≡ 60 ∷ w → Keeps k x → rest_after w cs ≡ Some x
    → ◌≡◌ {A = Got Mark} (Some (k, x)) (Some (m, mid)) → ReadMark (60 ∷ cs) m mid
markup_word k m w cs x mid text keeps found is =
    let same : ◌≡◌ {A = Mark × List ℕ} (k, x) (m, mid) = same_some is in
    subst (λ (p : Mark × List ℕ). ReadMark (60 ∷ cs) p.0 p.1) same
    (record { spelt = ap (λ t. 60 ∷ t) (after_sound w cs x found) ∙ ap (λ t. t ++ x) (sym text); keeps = keeps })

markup_sound : (cs : List ℕ) (m : Mark) (mid : List ℕ) → markup_at cs ≡ Some (m, mid) → ReadMark (60 ∷ cs) m mid
unfolding markup_at
markup_sound cs m mid e =
    elim (choose_some (rest_after (codes "/") cs) (λ rest. Some (ending, rest)) _ (m, mid) e) [
      | inl h ↦ markup_word ending m (codes "/") cs h.0 mid refl tt h.1 h.2
      | inr a ↦ elim (choose_some (rest_after (codes "!--") cs) (λ rest. Some (commented, rest)) _ (m, mid) a.1) [
        | inl h ↦ markup_word commented m (codes "!--") cs h.0 mid refl tt h.1 h.2
        | inr b ↦ elim (choose_some (rest_after (codes "![CDATA[") cs) (λ rest. Some (sectioned, rest)) _ (m, mid) b.1) [
          | inl h ↦ markup_word sectioned m (codes "![CDATA[") cs h.0 mid refl tt h.1 h.2
          | inr d ↦ elim (choose_some (rest_after (codes "?") cs) (λ rest. Some (instructed, rest)) (Some (nested, cs)) (m, mid) d.1) [
            | inl h ↦ markup_word instructed m (codes "?") cs h.0 mid refl tt h.1 h.2
            | inr h ↦ markup_word nested m [] cs cs mid refl tt refl h.1
          ]
        ]
      ]
    ]

standing_word : (c x : ℕ) (m : Mark) (cs mid : List ℕ) → is_char_data c ≡ true → rest_after (codes "]]>") (c ∷ cs) ≡ None
    → ◌≡◌ {A = Got Mark} (Some (standing c, cs)) (Some (m, mid)) → ReadMark (c ∷ cs) m mid
standing_word c x m cs mid plain none is =
    let same : ◌≡◌ {A = Mark × List ℕ} (standing c, cs) (m, mid) = same_some is in
    subst (λ (p : Mark × List ℕ). ReadMark (c ∷ cs) p.0 p.1) same (record { spelt = refl; keeps = (plain, none) })

not_false : (b : Bool) → b ≡ false → not b ≡ true
not_false b e = rw e refl

not_true : (b : Bool) → not b ≡ true → b ≡ false
not_true true e = absurd (cc e)
not_true false e = refl

no_bracket : (c : ℕ) (cs : List ℕ) → nat_eq c 93 ≡ false → rest_after (codes "]]>") (c ∷ cs) ≡ None
no_bracket c cs e = rw e refl

bracket_after : (cs : List ℕ) → rest_after (codes "]]>") (93 ∷ cs) ≡ rest_after (codes "]>") cs
bracket_after cs = refl

mark_sound : (cs : List ℕ) (m : Mark) (mid : List ℕ) → mark_at cs ≡ Some (m, mid) → ReadMark cs m mid
unfolding mark_at
mark_sound [] m mid e = absurd (cc e)
mark_sound (c ∷ cs) m mid e =
    elim (chosen (nat_eq c 60) (markup_at cs) _ (Some (m, mid)) e) [
      | inl h ↦ subst (λ x. ReadMark (x ∷ cs) m mid) (sym (eq_true c 60 h.0)) (markup_sound cs m mid h.1)
      | inr a ↦ elim (chosen (nat_eq c 38) (Some (referred, cs)) _ (Some (m, mid)) a.1) [
        | inl h ↦
            let same : ◌≡◌ {A = Mark × List ℕ} (referred, cs) (m, mid) = same_some h.1 in
            subst (λ (p : Mark × List ℕ). ReadMark (c ∷ cs) p.0 p.1) same (record { spelt = ap (λ x. x ∷ cs) (eq_true c 38 h.0); keeps = tt })
        | inr b ↦
            let plain = true_both (not (nat_eq c 60)) (not (nat_eq c 38)) (not_false (nat_eq c 60) a.0) (not_false (nat_eq c 38) b.0) in
            elim (chosen (nat_eq c 93) (choose (rest_after (codes "]>") cs) (λ rest. None) (Some (standing 93, cs))) (Some (standing c, cs)) (Some (m, mid)) b.1) [
              | inl h ↦ elim (choose_some (rest_after (codes "]>") cs) (λ rest. None) (Some (standing 93, cs)) (m, mid) h.1) [
                | inl k ↦ absurd (let x = k.2 in cc x)
                | inr k ↦ subst (λ x. ReadMark (x ∷ cs) m mid) (sym (eq_true c 93 h.0)) (standing_word 93 0 m cs mid refl k.0 k.1)
              ]
              | inr h ↦ standing_word c 0 m cs mid plain (no_bracket c cs h.0) h.1
            ]
      ]
    ]

-- what is in an element, after what was read of it before

-- there is a child
abbrev some_child : List Child → Bool
some_child [] = false
some_child (c ∷ cs) = true

-- what was read of an element, with more text and more children
abbrev pub with_content : Inside → List ℕ → List Child → Inside
with_content i text cs = record { text = i.text ++ text; members = with_children cs i.members; has_child = i.has_child || some_child cs }

inside_parts : (t t' : List ℕ) (ms : Members) (b b' : Bool) → t ≡ t' → b ≡ b'
    → ◌≡◌ {A = Inside} (record { text = t; members = ms; has_child = b }) (record { text = t'; members = ms; has_child = b' })
inside_parts t t' ms b b' e f = λ i. record { text = e i; members = ms; has_child = f i }

or_false : (b : Bool) → b || false ≡ b
or_false true = refl
or_false false = refl

or_true : (b : Bool) → b || true ≡ true
or_true true = refl
or_true false = refl

nothing_more : (i : Inside) → i ≡ with_content i [] []
nothing_more i = inside_parts i.text (i.text ++ []) i.members i.has_child (i.has_child || false) (sym (append-nil i.text)) (sym (or_false i.has_child))

text_more : (i : Inside) (a b : List ℕ) (cs : List Child) → with_content (with_text i (i.text ++ a)) b cs ≡ with_content i (a ++ b) cs
text_more i a b cs =
    inside_parts ((i.text ++ a) ++ b) (i.text ++ (a ++ b)) (with_children cs i.members) (i.has_child || some_child cs) (i.has_child || some_child cs)
    (append_assoc i.text a b) refl

child_more : (i : Inside) (c : Child) (text : List ℕ) (cs : List Child) → with_content (with_one i c) text cs ≡ with_content i text (c ∷ cs)
child_more i c text cs =
    inside_parts (i.text ++ text) (i.text ++ text) (with_children (c ∷ cs) i.members) true (i.has_child || true) refl (sym (or_true i.has_child))

-- elements and content that were read

-- an element that was read after its `<`, and its value
pub record ReadElement (root : List ℕ) (levels : ℕ) (kept : Bool) (outer : Scope) (cs : List ℕ) (c : Child) (rest : List ℕ) : Type 0 where
  pub element : Element
  pub ok : IsElement levels outer element
  pub means : element_child root kept outer element ≡ Some c
  pub spelt : 60 ∷ cs ≡ element_text element ++ rest

-- content that was read up to its `</`, and what the element holds with it
pub record ReadContent (root : List ℕ) (levels : ℕ) (kept : Bool) (scope : Scope) (i : Inside) (cs : List ℕ) (j : Inside) (rest : List ℕ) : Type 0 where
  pub content : Content
  pub children : List Child
  pub ok : IsContent levels scope content
  pub means : children_in root kept scope content ≡ Some children
  pub is : j ≡ with_content i (text_inside content) children
  pub spelt : cs ≡ content_text content ++ (codes "</" ++ rest)

after_less : (w cs t : List ℕ) → rest_after w (cs ++ t) ≡ None → rest_after w cs ≡ None
after_less [] cs t e = absurd (cc e)
after_less (x ∷ w) [] t e = refl
after_less (x ∷ w) (c ∷ cs) t e = by_test (nat_eq c x) (after_less w cs t) e
  where
    by_test : (b : Bool) → (rest_after w (cs ++ t) ≡ None → rest_after w cs ≡ None) → cond b (rest_after w (cs ++ t)) None ≡ None → cond b (rest_after w cs) None ≡ None
    by_test true f h = f h
    by_test false f h = refl

-- the piece in front of content that was read
module _ (root : List ℕ) (levels : ℕ) (kept : Bool) (scope : Scope) where
  with_character_front : (i : Inside) (x : ℕ) (mid : List ℕ) (j : Inside) (rest cs : List ℕ) → cs ≡ x ∷ mid → Keeps (standing x) mid
      → ReadContent root levels kept scope (with_character i x) mid j rest → ReadContent root levels kept scope i cs j rest
  with_character_front i x mid j rest cs e k r = record {
    content = character x r.content;
    children = r.children;
    ok = (
      k.0,
      after_less (codes "]]>") (x ∷ content_text r.content) (codes "</" ++ rest)
          (ap (λ t. rest_after (codes "]]>") (x ∷ t)) (sym r.spelt) ∙ k.1),
      r.ok,
    );
    means = r.means;
    is = r.is ∙ text_more i (encode_utf8 x) (text_inside r.content) r.children;
    spelt = e ∙ ap (λ t. x ∷ t) r.spelt;
  }

  with_reference_front : (i : Inside) (x : Reference) (mid : List ℕ) (j : Inside) (rest cs : List ℕ) → cs ≡ reference_text x ++ mid → is_reference x ≡ true
      → ReadContent root levels kept scope (with_character i (character_of x)) mid j rest → ReadContent root levels kept scope i cs j rest
  with_reference_front i x mid j rest cs e k r = record {
    content = reference x r.content;
    children = r.children;
    ok = (k, r.ok);
    means = r.means;
    is = r.is ∙ text_more i (encode_utf8 (character_of x)) (text_inside r.content) r.children;
    spelt = e ∙ ap (λ t. reference_text x ++ t) r.spelt ∙ sym (append_assoc (reference_text x) (content_text r.content) (codes "</" ++ rest));
  }

  with_data_front : (i : Inside) (x : List ℕ) (mid : List ℕ) (j : Inside) (rest cs : List ℕ) → cs ≡ cdata_text x ++ mid → is_cdata x ≡ true
      → ReadContent root levels kept scope (with_text i (i.text ++ encode_utf8_all x)) mid j rest → ReadContent root levels kept scope i cs j rest
  with_data_front i x mid j rest cs e k r = record {
    content = cdata x r.content;
    children = r.children;
    ok = (k, r.ok);
    means = r.means;
    is = r.is ∙ text_more i (encode_utf8_all x) (text_inside r.content) r.children;
    spelt = e ∙ ap (λ t. cdata_text x ++ t) r.spelt ∙ sym (append_assoc (cdata_text x) (content_text r.content) (codes "</" ++ rest));
  }

  with_comment_front : (i : Inside) (x : List ℕ) (mid : List ℕ) (j : Inside) (rest cs : List ℕ) → cs ≡ comment_text x ++ mid → is_comment_text x ≡ true
      → ReadContent root levels kept scope i mid j rest → ReadContent root levels kept scope i cs j rest
  with_comment_front i x mid j rest cs e k r = record {
    content = comment x r.content;
    children = r.children;
    ok = (k, r.ok);
    means = r.means;
    is = r.is;
    spelt = e ∙ ap (λ t. comment_text x ++ t) r.spelt ∙ sym (append_assoc (comment_text x) (content_text r.content) (codes "</" ++ rest));
  }

  with_instruction_front : (i : Inside) (x : Instruction) (mid : List ℕ) (j : Inside) (rest cs : List ℕ) → cs ≡ instruction_text x ++ mid
      → is_instruction x ≡ true → ReadContent root levels kept scope i mid j rest → ReadContent root levels kept scope i cs j rest
  with_instruction_front i x mid j rest cs e k r = record {
    content = instruction x r.content;
    children = r.children;
    ok = (k, r.ok);
    means = r.means;
    is = r.is;
    spelt = e ∙ ap (λ t. instruction_text x ++ t) r.spelt ∙ sym (append_assoc (instruction_text x) (content_text r.content) (codes "</" ++ rest));
  }

  both_some : (x : Option Child) (c : Child) (ys : Option (List Child)) (cs : List Child) → x ≡ Some c → ys ≡ Some cs → both x ys ≡ Some (c ∷ cs)
  both_some x c ys cs e f = rw (e, f) refl

  with_child_front : (i : Inside) (x : Element) (c : Child) (mid : List ℕ) (j : Inside) (rest cs : List ℕ) → cs ≡ element_text x ++ mid
      → IsElement levels scope x → element_child root kept scope x ≡ Some c
      → ReadContent root levels kept scope (with_one i c) mid j rest → ReadContent root levels kept scope i cs j rest
  with_child_front i x c mid j rest cs e ok means r = record {
    content = child x r.content;
    children = c ∷ r.children;
    ok = (ok, r.ok);
    means = both_some (element_child root kept scope x) c (children_in root kept scope r.content) r.children means r.means;
    is = r.is ∙ child_more i c (text_inside r.content) r.children;
    spelt = e ∙ ap (λ t. element_text x ++ t) r.spelt ∙ sym (append_assoc (element_text x) (content_text r.content) (codes "</" ++ rest));
  }

-- what reads children reads elements
pub record ReadsChildren (root : List ℕ) (levels : ℕ) (kept : Bool) (scope : Scope) (child : List ℕ → Got Child) : Type 0 where
  pub sound : (cs : List ℕ) (c : Child) (rest : List ℕ) → child cs ≡ Some (c, rest) → ReadElement root levels kept scope cs c rest

-- what content gives where one more piece may be looked at
abbrev Later : (List ℕ → Got Child) → ℕ → Inside → List ℕ → (Bool × Inside) × List ℕ → Type 0
Later reads n j rest x = cond x.0.0 (Some (x.0.1, x.1)) (content_at reads n x.0.1 x.1) ≡ Some (j, rest)

module _ (root : List ℕ) (levels : ℕ) (kept : Bool) (scope : Scope) (child : List ℕ → Got Child) (n : ℕ) (j : Inside) (rest : List ℕ)
    (r : ReadsChildren root levels kept scope child)
    (ih : (i : Inside) (cs : List ℕ) → content_at child n i cs ≡ Some (j, rest) → ReadContent root levels kept scope i cs j rest) where
  later : (x y : (Bool × Inside) × List ℕ) → ◌≡◌ {A = Got (Bool × Inside)} (Some x) (Some y) → Later child n j rest y → Later child n j rest x
  later x y e l = subst (Later child n j rest) (sym (same_some e)) l

  by_mark : (i : Inside) (cs : List ℕ) (m : Mark) (mid : List ℕ) (x : (Bool × Inside) × List ℕ) → ReadMark cs m mid
      → piece_at child i m mid ≡ Some x → Later child n j rest x → ReadContent root levels kept scope i cs j rest
  unfolding piece_at
  by_mark i cs ending mid x mark piece l =
      let is = same_some (later ((true, i), mid) x piece l) in record {
        content = nothing;
        children = [];
        ok = tt;
        means = refl;
        is = sym (ap (λ p. p.0) is) ∙ nothing_more i;
        spelt = mark.spelt ∙ ap (λ p. codes "</" ++ p.1) is;
      }
  by_mark i cs commented mid x mark piece l =
      let b = bind_some (comment_at mid) (λ rest. Some ((false, i), rest)) x piece in
      let c = comment_sound mid b.0 b.1 in
      with_comment_front root levels kept scope i c.text b.0 j rest cs (mark.spelt ∙ c.spelt) c.is_comment
      (ih i b.0 (later ((false, i), b.0) x b.2 l))
  by_mark i cs sectioned mid x mark piece l =
      let b = bind_some (data_at i.text mid) (λ r. Some ((false, with_text i r.0), r.1)) x piece in
      let c = data_sound i.text mid b.0.0 b.0.1 b.1 in
      with_data_front root levels kept scope i c.data_text b.0.1 j rest cs (mark.spelt ∙ c.spelt) c.is_cdata
      (subst (λ t. ReadContent root levels kept scope (with_text i t) b.0.1 j rest) c.says
      (ih (with_text i b.0.0) b.0.1 (later ((false, with_text i b.0.0), b.0.1) x b.2 l)))
  by_mark i cs instructed mid x mark piece l =
      let b = bind_some (instruction_at mid) (λ rest. Some ((false, i), rest)) x piece in
      let c = instruction_sound mid b.0 b.1 in
      with_instruction_front root levels kept scope i c.instruction b.0 j rest cs (mark.spelt ∙ c.spelt) c.is_instruction
      (ih i b.0 (later ((false, i), b.0) x b.2 l))
  by_mark i cs nested mid x mark piece l =
      let b = bind_some (child mid) (λ r. Some ((false, with_one i r.0), r.1)) x piece in
      let c = r.sound mid b.0.0 b.0.1 b.1 in
      with_child_front root levels kept scope i c.element b.0.0 b.0.1 j rest cs (mark.spelt ∙ c.spelt) c.ok c.means
      (ih (with_one i b.0.0) b.0.1 (later ((false, with_one i b.0.0), b.0.1) x b.2 l))
  by_mark i cs referred mid x mark piece l =
      let b = bind_some (reference_at mid) (λ r. Some ((false, with_character i r.0), r.1)) x piece in
      let c = reference_sound mid b.0.0 b.0.1 b.1 in
      with_reference_front root levels kept scope i c.reference b.0.1 j rest cs (mark.spelt ∙ c.spelt) c.is_reference
      (subst (λ d. ReadContent root levels kept scope (with_character i d) b.0.1 j rest) c.says
      (ih (with_character i b.0.0) b.0.1 (later ((false, with_character i b.0.0), b.0.1) x b.2 l)))
  by_mark i cs (standing y) mid x mark piece l =
      with_character_front root levels kept scope i y mid j rest cs mark.spelt mark.keeps
      (ih (with_character i y) mid (later ((false, with_character i y), mid) x piece l))

content_sound : (root : List ℕ) (levels : ℕ) (kept : Bool) (scope : Scope) (child : List ℕ → Got Child) (n : ℕ) (i : Inside) (cs : List ℕ) (j : Inside)
    (rest : List ℕ) → ReadsChildren root levels kept scope child → content_at child n i cs ≡ Some (j, rest)
    → ReadContent root levels kept scope i cs j rest
unfolding content_at
content_sound root levels kept scope reads zero i cs j rest r e = absurd (cc e)
content_sound root levels kept scope reads (suc n) i cs j rest r e =
    let m = bind_some (mark_at cs) _ (j, rest) e in
    let p = bind_some (piece_at reads i m.0.0 m.0.1) _ (j, rest) m.2 in
    by_mark root levels kept scope reads n j rest r (λ i' cs' e'. content_sound root levels kept scope reads n i' cs' j rest r e')
    i cs m.0.0 m.0.1 p.0 (mark_sound cs m.0.0 m.0.1 m.1) p.1 p.2

-- the value of an element

finished_is : (k : Bool) (ss : List Setting) (text : List ℕ) (cs : List Child)
    → finished k (with_content (begun ss) text cs) ≡ element_data k ss text (Some cs)
finished_is false ss text cs = refl
finished_is true ss text [] = refl
finished_is true ss text (c ∷ cs) = refl

as_child_named : (ours : Bool) (o : Opening) (d : Option Data) (cs : List ℕ) (c : Child) (rest : List ℕ) → as_child ours o d cs ≡ Some (c, rest)
    → (named_child (key_of ours o.local) d ≡ Some c) × (cs ≡ rest)
as_child_named ours o None cs c rest e = absurd (cc e)
as_child_named ours o (Some d) cs c rest e = let is = same_some e in (ap (λ p. Some p.0) is, ap (λ p. p.1) is)

named_as_child : (ours : Bool) (o : Opening) (d : Option Data) (cs : List ℕ) (c : Child) → named_child (key_of ours o.local) d ≡ Some c
    → as_child ours o d cs ≡ Some (c, cs)
named_as_child ours o None cs c e = absurd (cc e)
named_as_child ours o (Some d) cs c e = ap (λ x. Some (x, cs)) (same_some e)

-- an element of this tag
pub record ReadTagged (root : List ℕ) (levels : ℕ) (kept : Bool) (outer : Scope) (cs : List ℕ) (t : Tag) (c : Child) (rest : List ℕ) : Type 0 where
  pub read : ReadElement root levels kept outer cs c rest
  pub tag : tag_of read.element ≡ t

-- an element that is read after its tag is spelt as one and has the value that was read
pub element_sound : (root : List ℕ) (levels : ℕ) (kept : Bool) (outer : Scope) (cs : List ℕ) (t : Tag) (b : Bool) (mid : List ℕ) (c : Child) (rest : List ℕ)
    → IsTagIn outer t → 60 ∷ cs ≡ tag_text t ++ (end_text b ++ mid)
    → ((k : Bool) (scope : Scope) → ReadsChildren root levels k scope (child_at root levels k scope))
    → element_at (child_at root levels) root kept (scope_in outer (opening_of t).settings) (opening_of t, b) mid ≡ Some (c, rest)
    → ReadTagged root (suc levels) kept outer cs t c rest
unfolding element_at filled_at
element_sound root levels kept outer cs t true mid c rest ok spelt r e =
    let o = opening_of t in
    let ours = is_ours root (scope_in outer o.settings) o in
    let n = as_child_named ours o (finished (kept && ours) (begun o.settings)) mid c rest e in
    record {
      read = record {
        element = empty t;
        ok = ok;
        means = ap (named_child (key_of ours o.local)) (sym (finished_is (kept && ours) o.settings [] [])) ∙ n.0;
        spelt = spelt ∙ sym (append_assoc (tag_text t) (codes "/>") mid) ∙ ap (λ x. (tag_text t ++ codes "/>") ++ x) n.1;
      };
      tag = refl;
    }
element_sound root levels kept outer cs t false mid c rest ok spelt r e =
    let o = opening_of t in
    let inner = scope_in outer o.settings in
    let ours = is_ours root inner o in
    let k = kept && ours in
    let f = bind_some (content_at (child_at root levels k inner) (length mid) (begun o.settings) mid
    >>= λ inside. closing_at o inside.1 >>= λ rest. Some (inside.0, rest)) _ (c, rest) e in
    let a = bind_some (content_at (child_at root levels k inner) (length mid) (begun o.settings) mid) _ f.0 f.1 in
    let b = bind_some (closing_at o a.0.1) (λ rest. Some (a.0.0, rest)) f.0 a.2 in
    let name = (both_true (is_qname t.name) _ ok.spelt).0 in
    let content = content_sound root levels k inner (child_at root levels k inner) (length mid) (begun o.settings) mid a.0.0 a.0.1 (r k inner) a.1 in
    let closing = closing_sound t a.0.1 b.0 name b.1 in
    let same : ◌≡◌ {A = Inside × List ℕ} (a.0.0, b.0) f.0 = same_some b.2 in
    let n = as_child_named ours o (finished k f.0.0) f.0.1 c rest f.2 in
    let says : finished k f.0.0 ≡ element_data k o.settings (text_inside content.content) (Some content.children) =
    ap (λ p. finished k p.0) (sym same) ∙ ap (finished k) content.is ∙ finished_is k o.settings (text_inside content.content) content.children in
    record {
      read = record {
        element = full t content.content closing.space;
        ok = (ok, content.ok, closing.white);
        means = ap (λ co. named_child (key_of ours o.local) (element_data k o.settings (text_inside content.content) co)) content.means
            ∙ ap (named_child (key_of ours o.local)) (sym says) ∙ n.0;
        spelt = spelt ∙ ap (λ x. tag_text t ++ (62 ∷ x)) (content.spelt ∙ ap (λ x. content_text content.content ++ (codes "</" ++ x)) (closing.spelt
            ∙ ap (λ x. name_text t.name ++ (closing.space ++ (codes ">" ++ x))) (ap (λ p. p.1) same ∙ n.1)))
            ∙ regroup_element (tag_text t) (content_text content.content) (name_text t.name) closing.space rest;
      };
      tag = refl;
    }
  where
    regroup_element : (a b c d e : List ℕ)
        → a ++ (62 ∷ (b ++ (codes "</" ++ (c ++ (d ++ (codes ">" ++ e)))))) ≡ (a ++ (62 ∷ (b ++ (codes "</" ++ (c ++ (d ++ codes ">")))))) ++ e
    regroup_element a b c d e = sym (simp append_assoc)

-- an element that is read after its `<` is spelt as one and has the value that was read
pub child_sound : (root : List ℕ) (levels : ℕ) (kept : Bool) (outer : Scope) → ReadsChildren root levels kept outer (child_at root levels kept outer)
unfolding child_at
child_sound root zero kept outer = record { sound = λ cs c rest e. absurd (cc e) }
child_sound root (suc levels) kept outer = record {
  sound = λ cs c rest e.
      let t = bind_some (tag_at cs) _ (c, rest) e in
      let tag = tag_sound cs t.0.0.0 t.0.0.1 t.0.1 t.1 in
      elim (chosen (is_opened outer t.0.0.0) _ None (Some (c, rest)) t.2) [
        | inl h ↦
            let goes = ap (λ o. element_at (child_at root levels) root kept (scope_in outer o.settings) (o, t.0.0.1) t.0.1) (sym tag.says) ∙ h.1 in
            (element_sound root levels kept outer cs tag.tag t.0.0.1 t.0.1 c rest
            (record { spelt = tag.is_tag; few = tag.few; opened = ap (is_opened outer) (sym tag.says) ∙ h.0 }) tag.spelt
            (λ k s. child_sound root levels k s) goes).read
        | inr h ↦ absurd (let k = h.1 in cc k)
      ];
}

-- the way back

content_step : (reads : List ℕ → Got Child) (n : ℕ) (i : Inside) (cs : List ℕ) (m : Mark) (mid : List ℕ) (k : Inside) (more : List ℕ)
    → mark_at cs ≡ Some (m, mid) → piece_at reads i m mid ≡ Some ((false, k), more) → content_at reads (suc n) i cs ≡ content_at reads n k more
unfolding content_at
content_step reads n i cs m mid k more a b = rw (a, b) refl

content_stop : (reads : List ℕ → Got Child) (n : ℕ) (i : Inside) (mid : List ℕ) → content_at reads (suc n) i (codes "</" ++ mid) ≡ Some (i, mid)
unfolding content_at mark_at markup_at piece_at
content_stop reads n i mid = refl

mark_comment : (mid : List ℕ) → mark_at (codes "<!--" ++ mid) ≡ Some (commented, mid)
unfolding mark_at markup_at
mark_comment mid = refl

mark_section : (mid : List ℕ) → mark_at (codes "<![CDATA[" ++ mid) ≡ Some (sectioned, mid)
unfolding mark_at markup_at
mark_section mid = refl

mark_instruction : (mid : List ℕ) → mark_at (codes "<?" ++ mid) ≡ Some (instructed, mid)
unfolding mark_at markup_at
mark_instruction mid = refl

mark_reference : (mid : List ℕ) → mark_at (38 ∷ mid) ≡ Some (referred, mid)
unfolding mark_at
mark_reference mid = refl

-- a name begins with none of `/`, `!` and `?`
pub start_no_mark : (c : ℕ) → is_name_start c ≡ true → (nat_eq c 47 ≡ false) × (nat_eq c 33 ≡ false) × (nat_eq c 63 ≡ false)
unfolding is_name_start
start_no_mark c h = (grind (arith, nat_tests), grind (arith, nat_tests), grind (arith, nat_tests))

mark_child : (c : ℕ) (mid : List ℕ) → is_name_start c ≡ true → mark_at (60 ∷ (c ∷ mid)) ≡ Some (nested, c ∷ mid)
unfolding mark_at markup_at
mark_child c mid h =
    let s = start_no_mark c h in let x = s.0 in let y = s.1 in let z = s.2 in rw (x, y, z) refl

mark_other : (c : ℕ) (mid : List ℕ) → is_char_data c ≡ true → nat_eq c 93 ≡ false → mark_at (c ∷ mid) ≡ Some (standing c, mid)
unfolding mark_at
mark_other c mid h e =
    let b = both_true (not (nat_eq c 60)) (not (nat_eq c 38)) h in
    let x = not_true (nat_eq c 60) b.0 in let y = not_true (nat_eq c 38) b.1 in rw (x, y, e) refl

mark_bracket : (mid : List ℕ) → rest_after (codes "]>") mid ≡ None → mark_at (93 ∷ mid) ≡ Some (standing 93, mid)
unfolding mark_at
mark_bracket mid e = rw e refl

mark_standing : (c : ℕ) (mid : List ℕ) → is_char_data c ≡ true → rest_after (codes "]]>") (c ∷ mid) ≡ None → mark_at (c ∷ mid) ≡ Some (standing c, mid)
mark_standing c mid h e = elim (cases_Bool (nat_eq c 93)) [
  | inl b ↦
      let is = eq_true c 93 b in
      let none : rest_after (codes "]>") mid ≡ None = ap (λ x. rest_after (codes "]]>") (x ∷ mid)) (sym is) ∙ e in
      subst (λ x. mark_at (x ∷ mid) ≡ Some (standing x, mid)) (sym is) (mark_bracket mid none)
  | inr b ↦ mark_other c mid h b
]

-- the word isn't at the front
abbrev no_word : Option (List ℕ)
no_word = None

-- `]]>` doesn't begin in text and end in a mark that begins with `<`
after_mark : (x : ℕ) (cs t : List ℕ) → rest_after (codes "]]>") (x ∷ cs) ≡ None → rest_after (codes "]]>") (x ∷ (cs ++ (60 ∷ t))) ≡ None
after_mark x [] t e = one (nat_eq x 93)
  where
    one : (s : Bool) → cond s None None ≡ no_word
    one true = refl
    one false = refl
after_mark x (y ∷ []) t e = two (nat_eq x 93) (nat_eq y 93)
  where
    two : (s u : Bool) → cond s (cond u None None) None ≡ no_word
    two true true = refl
    two true false = refl
    two false u = refl
after_mark x (y ∷ z ∷ cs) t e = three (nat_eq x 93) (nat_eq y 93) (nat_eq z 62) e
  where
    three : (s u v : Bool) → cond s (cond u (cond v (Some cs) None) None) None ≡ None
        → cond s (cond u (cond v (Some (cs ++ (60 ∷ t))) None) None) None ≡ None
    three true true true e = absurd (cc e)
    three true true false e = refl
    three true false v e = refl
    three false u v e = refl

tag_begins : (t : Tag) (rest : List ℕ) → is_tag t ≡ true
    → (c : ℕ) × (cs : List ℕ) × (name_text t.name ++ rest ≡ c ∷ cs) × (is_name_start c ≡ true)
tag_begins t rest h =
    let b = prefixed_begins t.name.prefix t.name.local (both_true (is_qname t.name) _ h).0 in
    (b.0, b.1 ++ rest, ap (λ x. x ++ rest) b.2, b.3)

element_long : (e : Element) → 1 ≤ length (element_text e)
element_long (empty t) = omega arith
element_long (full t c space) = omega arith

tail_long : (r : Reference) (left : List ℕ) → length left ≤ length (tail (reference_text r ++ left))
tail_long r left =
    let a = ap length (reference_begins r left) in let b = length-append (reference_text r) left in let c = reference_some r in
    omega (arith, a, b, c)

-- an element after its `<`
abbrev pub behind : Element → List ℕ → List ℕ
behind (empty t) rest = name_text t.name ++ (attributes_text t.attributes ++ (t.space ++ (codes "/>" ++ rest)))
behind (full t c space) rest =
    name_text t.name ++ (attributes_text t.attributes ++ (t.space ++ (codes ">" ++ (content_text c
    ++ (codes "</" ++ (name_text t.name ++ (space ++ (codes ">" ++ rest))))))))

-- an element begins with `<`
pub element_begins : (e : Element) (rest : List ℕ) → element_text e ++ rest ≡ 60 ∷ behind e rest
element_begins (empty t) rest =
    ap (λ x. 60 ∷ x) (regroup (name_text t.name) (attributes_text t.attributes) t.space (codes "/>") rest)
  where
    regroup : (a b c d e : List ℕ) → ((a ++ (b ++ c)) ++ d) ++ e ≡ a ++ (b ++ (c ++ (d ++ e)))
    regroup a b c d e = simp append_assoc
element_begins (full t c space) rest =
    ap (λ x. 60 ∷ x) (regroup (name_text t.name) (attributes_text t.attributes) t.space (content_text c) space rest)
  where
    regroup : (a b c d e f : List ℕ)
        → ((a ++ (b ++ c)) ++ (62 ∷ (d ++ (codes "</" ++ (a ++ (e ++ codes ">")))))) ++ f
        ≡ a ++ (b ++ (c ++ (62 ∷ (d ++ (60 ∷ 47 ∷ (a ++ (e ++ (62 ∷ f))))))))
    regroup a b c d e f = simp append_assoc

-- what comes after the `<` of an element begins with a name
pub element_start : (levels : ℕ) (scope : Scope) (e : Element) (rest : List ℕ) → IsElement levels scope e
    → (c : ℕ) × (cs : List ℕ) × (behind e rest ≡ c ∷ cs) × (is_name_start c ≡ true)
element_start zero scope (empty t) rest ok = absurd ok
element_start zero scope (full t c space) rest ok = absurd ok
element_start (suc n) scope (empty t) rest ok =
    tag_begins t (attributes_text t.attributes ++ (t.space ++ (codes "/>" ++ rest))) ok.spelt
element_start (suc n) scope (full t c space) rest ok =
    tag_begins t (attributes_text t.attributes ++ (t.space ++ (codes ">" ++ (content_text c
    ++ (codes "</" ++ (name_text t.name ++ (space ++ (codes ">" ++ rest)))))))) ok.0.spelt

mark_element : (levels : ℕ) (scope : Scope) (e : Element) (rest : List ℕ) → IsElement levels scope e
    → mark_at (60 ∷ behind e rest) ≡ Some (nested, behind e rest)
mark_element levels scope e rest ok =
    let b = element_start levels scope e rest ok in
    subst (λ x. mark_at (60 ∷ x) ≡ Some (nested, x)) (sym b.2) (mark_child b.0 b.1 b.3)

-- what reads children reads every element
pub record ReadsEach (root : List ℕ) (levels : ℕ) (kept : Bool) (scope : Scope) (reads : List ℕ → Got Child) : Type 0 where
  pub complete : (e : Element) (c : Child) (rest : List ℕ) → IsElement levels scope e → element_child root kept scope e ≡ Some c
      → reads (behind e rest) ≡ Some (c, rest)

both_parts : (x : Option Child) (ys : Option (List Child)) (zs : List Child) → both x ys ≡ Some zs
    → (c : Child) × (cs : List Child) × (x ≡ Some c) × (ys ≡ Some cs) × (c ∷ cs ≡ zs)
both_parts None ys zs e = absurd (cc e)
both_parts (Some c) None zs e = absurd (cc e)
both_parts (Some c) (Some cs) zs e = (c, cs, refl, refl, same_some e)

module _ (root : List ℕ) (levels : ℕ) (kept : Bool) (scope : Scope) (reads : List ℕ → Got Child) (r : ReadsEach root levels kept scope reads) where
  piece_character : (i : Inside) (x : ℕ) (mid : List ℕ) → piece_at reads i (standing x) mid ≡ Some ((false, with_character i x), mid)
  unfolding piece_at
  piece_character i x mid = refl

  piece_reference : (i : Inside) (x : Reference) (mid : List ℕ) → is_reference x ≡ true
      → piece_at reads i referred (tail (reference_text x ++ mid)) ≡ Some ((false, with_character i (character_of x)), mid)
  unfolding piece_at
  piece_reference i x mid h = let e = reference_complete x mid h in rw e refl

  piece_section : (i : Inside) (x mid : List ℕ) → is_cdata x ≡ true
      → piece_at reads i sectioned (x ++ (codes "]]>" ++ mid)) ≡ Some ((false, with_text i (i.text ++ encode_utf8_all x)), mid)
  unfolding piece_at
  piece_section i x mid h = let e = data_complete i.text x mid h in rw e refl

  piece_comment : (i : Inside) (x mid : List ℕ) → is_comment_text x ≡ true → piece_at reads i commented (x ++ (codes "-->" ++ mid)) ≡ Some ((false, i), mid)
  unfolding piece_at
  piece_comment i x mid h = let e = comment_complete x mid h in rw e refl

  piece_instruction : (i : Inside) (x : Instruction) (mid : List ℕ) → is_instruction x ≡ true
      → piece_at reads i instructed (x.target ++ (x.body ++ (codes "?>" ++ mid))) ≡ Some ((false, i), mid)
  unfolding piece_at
  piece_instruction i x mid h = let e = instruction_complete x mid h in rw e refl

  piece_child : (i : Inside) (e : Element) (c : Child) (mid : List ℕ) → IsElement levels scope e → element_child root kept scope e ≡ Some c
      → piece_at reads i nested (behind e mid) ≡ Some ((false, with_one i c), mid)
  unfolding piece_at
  piece_child i e c mid ok means = let read = r.complete e c mid ok means in rw read refl

  content_complete : (n : ℕ) (i : Inside) (c : Content) (children : List Child) (rest : List ℕ) → IsContent levels scope c
      → children_in root kept scope c ≡ Some children → length (content_text c ++ (codes "</" ++ rest)) ≤ n
      → content_at reads n i (content_text c ++ (codes "</" ++ rest)) ≡ Some (with_content i (text_inside c) children, rest)
  content_complete zero i c children rest ok means l =
      absurd (let k = length-append (content_text c) (codes "</" ++ rest) in omega (arith, l, k))
  content_complete (suc n) i nothing children rest ok means l =
      content_stop reads n i rest ∙ ap (λ j. Some (j, rest)) (nothing_more i) ∙ ap (λ cs. Some (with_content i [] cs, rest)) (same_some means)
  content_complete (suc n) i (character x c) children rest ok means l =
      let left = content_text c ++ (codes "</" ++ rest) in
      content_step reads n i (x ∷ left) (standing x) left (with_character i x) left
      (mark_standing x left ok.0 (after_mark x (content_text c) (47 ∷ rest) ok.1)) (piece_character i x left)
      ∙ content_complete n (with_character i x) c children rest ok.2 means (omega (arith, l))
      ∙ ap (λ j. Some (j, rest)) (text_more i (encode_utf8 x) (text_inside c) children)
  content_complete (suc n) i (reference x c) children rest ok means l =
      let left = content_text c ++ (codes "</" ++ rest) in
      let whole = append_assoc (reference_text x) (content_text c) (codes "</" ++ rest) ∙ reference_begins x left in
      let long = ap length whole in let short = tail_long x left in
      ap (content_at reads (suc n) i) whole
      ∙ content_step reads n i (38 ∷ tail (reference_text x ++ left)) referred (tail (reference_text x ++ left)) (with_character i (character_of x)) left
      (mark_reference (tail (reference_text x ++ left))) (piece_reference i x left ok.0)
      ∙ content_complete n (with_character i (character_of x)) c children rest ok.1 means (omega (arith, l, long, short))
      ∙ ap (λ j. Some (j, rest)) (text_more i (encode_utf8 (character_of x)) (text_inside c) children)
  content_complete (suc n) i (cdata x c) children rest ok means l =
      let left = content_text c ++ (codes "</" ++ rest) in
      let whole : cdata_text x ++ content_text c ++ (codes "</" ++ rest) ≡ codes "<![CDATA[" ++ (x ++ (codes "]]>" ++ left)) =
      append_assoc (cdata_text x) (content_text c) (codes "</" ++ rest) ∙ ap (λ t. codes "<![CDATA[" ++ t) (append_assoc x (codes "]]>") left) in
      let long = ap length whole in let long2 = length-append x (codes "]]>" ++ left) in
      ap (content_at reads (suc n) i) whole
      ∙ content_step reads n i (codes "<![CDATA[" ++ (x ++ (codes "]]>" ++ left))) sectioned (x ++ (codes "]]>" ++ left))
      (with_text i (i.text ++ encode_utf8_all x)) left (mark_section (x ++ (codes "]]>" ++ left))) (piece_section i x left ok.0)
      ∙ content_complete n (with_text i (i.text ++ encode_utf8_all x)) c children rest ok.1 means (omega (arith, l, long, long2))
      ∙ ap (λ j. Some (j, rest)) (text_more i (encode_utf8_all x) (text_inside c) children)
  content_complete (suc n) i (comment x c) children rest ok means l =
      let left = content_text c ++ (codes "</" ++ rest) in
      let whole : comment_text x ++ content_text c ++ (codes "</" ++ rest) ≡ codes "<!--" ++ (x ++ (codes "-->" ++ left)) =
      append_assoc (comment_text x) (content_text c) (codes "</" ++ rest) ∙ ap (λ t. codes "<!--" ++ t) (append_assoc x (codes "-->") left) in
      let long = ap length whole in let long2 = length-append x (codes "-->" ++ left) in
      ap (content_at reads (suc n) i) whole
      ∙ content_step reads n i (codes "<!--" ++ (x ++ (codes "-->" ++ left))) commented (x ++ (codes "-->" ++ left)) i left
      (mark_comment (x ++ (codes "-->" ++ left))) (piece_comment i x left ok.0)
      ∙ content_complete n i c children rest ok.1 means (omega (arith, l, long, long2))
  content_complete (suc n) i (instruction x c) children rest ok means l =
      let left = content_text c ++ (codes "</" ++ rest) in
      let whole : instruction_text x ++ content_text c ++ (codes "</" ++ rest) ≡ codes "<?" ++ (x.target ++ (x.body ++ (codes "?>" ++ left))) =
      append_assoc (instruction_text x) (content_text c) (codes "</" ++ rest)
      ∙ ap (λ t. codes "<?" ++ t) (append_assoc x.target (x.body ++ codes "?>") left ∙ ap (λ t. x.target ++ t) (append_assoc x.body (codes "?>") left)) in
      let long = ap length whole in let long2 = length-append x.target (x.body ++ (codes "?>" ++ left)) in
      let long3 = length-append x.body (codes "?>" ++ left) in
      ap (content_at reads (suc n) i) whole
      ∙ content_step reads n i (codes "<?" ++ (x.target ++ (x.body ++ (codes "?>" ++ left)))) instructed (x.target ++ (x.body ++ (codes "?>" ++ left))) i left
      (mark_instruction (x.target ++ (x.body ++ (codes "?>" ++ left)))) (piece_instruction i x left ok.0)
      ∙ content_complete n i c children rest ok.1 means (omega (arith, l, long, long2, long3))
  content_complete (suc n) i (child e c) children rest ok means l =
      let left = content_text c ++ (codes "</" ++ rest) in
      let b = both_parts (element_child root kept scope e) (children_in root kept scope c) children means in
      let whole = append_assoc (element_text e) (content_text c) (codes "</" ++ rest) ∙ element_begins e left in
      let long = ap length (append_assoc (element_text e) (content_text c) (codes "</" ++ rest)) in
      let long2 = length-append (element_text e) left in let long3 = element_long e in
      ap (content_at reads (suc n) i) whole
      ∙ content_step reads n i (60 ∷ behind e left) nested (behind e left) (with_one i b.0) left
      (mark_element levels scope e left ok.0) (piece_child i e b.0 left ok.0 b.2)
      ∙ content_complete n (with_one i b.0) c b.1 rest ok.1 b.3 (omega (arith, l, long, long2, long3))
      ∙ ap (λ j. Some (j, rest)) (child_more i b.0 (text_inside c) b.1) ∙ ap (λ cs. Some (with_content i (text_inside c) cs, rest)) b.4

-- elements on the way back

-- an empty-element tag
abbrev pub is_bare : Element → Bool
is_bare (empty t) = true
is_bare (full t c space) = false

-- an element after its tag
abbrev pub body : Element → List ℕ → List ℕ
body (empty t) rest = rest
body (full t c space) rest = content_text c ++ (codes "</" ++ (name_text t.name ++ (space ++ (codes ">" ++ rest))))

-- the tag of an element that follows the rules is read
pub tag_back : (levels : ℕ) (scope : Scope) (e : Element) (rest : List ℕ) → IsElement levels scope e
    → tag_at (behind e rest) ≡ Some ((opening_of (tag_of e), is_bare e), body e rest)
tag_back zero scope (empty t) rest ok = absurd ok
tag_back zero scope (full t c space) rest ok = absurd ok
tag_back (suc n) scope (empty t) rest ok = tag_complete t true rest ok.spelt ok.few
tag_back (suc n) scope (full t c space) rest ok =
    tag_complete t false (content_text c ++ (codes "</" ++ (name_text t.name ++ (space ++ (codes ">" ++ rest))))) ok.0.spelt ok.0.few

-- the tag of an element that follows the rules keeps those for namespaces
pub opened_back : (levels : ℕ) (scope : Scope) (e : Element) → IsElement levels scope e → is_opened scope (opening_of (tag_of e)) ≡ true
opened_back zero scope (empty t) ok = absurd ok
opened_back zero scope (full t c space) ok = absurd ok
opened_back (suc n) scope (empty t) ok = ok.opened
opened_back (suc n) scope (full t c space) ok = ok.0.opened

both_is : (x : Option Child) (c : Child) (ys : Option (List Child)) (cs : List Child) → x ≡ Some c → ys ≡ Some cs → both x ys ≡ Some (c ∷ cs)
both_is x c ys cs e f = rw (e, f) refl

foreign_element : (root : List ℕ) (scope : Scope) (e : Element) → (c : Child) × (element_child root false scope e ≡ Some c)
foreign_element root scope (empty t) =
    let o = opening_of t in ((key_of (is_ours root (scope_in scope o.settings) o) o.local, string []), refl)
foreign_element root scope (full t c space) =
    let o = opening_of t in ((key_of (is_ours root (scope_in scope o.settings) o) o.local, string []), refl)

-- what a foreign element holds has members, whatever they are
foreign_children : (root : List ℕ) (scope : Scope) (c : Content) → (cs : List Child) × (children_in root false scope c ≡ Some cs)
foreign_children root scope nothing = ([], refl)
foreign_children root scope (character x c) = foreign_children root scope c
foreign_children root scope (reference x c) = foreign_children root scope c
foreign_children root scope (cdata x c) = foreign_children root scope c
foreign_children root scope (comment x c) = foreign_children root scope c
foreign_children root scope (instruction x c) = foreign_children root scope c
foreign_children root scope (child e c) =
    let x = foreign_element root scope e in
    let r = foreign_children root scope c in
    (x.0 ∷ r.0, both_is (element_child root false scope e) x.0 (children_in root false scope c) r.0 x.1 r.1)

has_children : (root : List ℕ) (k : Bool) (scope : Scope) (c : Content) (ss : List Setting) (text : List ℕ) (d : Data)
    → element_data k ss text (children_in root k scope c) ≡ Some d
    → (cs : List Child) × (children_in root k scope c ≡ Some cs) × (element_data k ss text (Some cs) ≡ Some d)
has_children root false scope c ss text d e = let f = foreign_children root scope c in (f.0, f.1, e)
has_children root true scope c ss text d e = by_option (children_in root true scope c) e
  where
    by_option : (o : Option (List Child)) → element_data true ss text o ≡ Some d
        → (cs : List Child) × (o ≡ Some cs) × (element_data true ss text (Some cs) ≡ Some d)
    by_option None e = absurd (cc e)
    by_option (Some cs) e = (cs, refl, e)

named_data : (key : List ℕ) (d : Option Data) (c : Child) → named_child key d ≡ Some c → (x : Data) × (d ≡ Some x) × (named_child key (Some x) ≡ Some c)
named_data key None c e = absurd (cc e)
named_data key (Some x) c e = (x, refl, e)

-- an element that follows the rules and has a value is read after its tag
pub element_back : (root : List ℕ) (levels : ℕ) (kept : Bool) (outer : Scope) (e : Element) (c : Child) (rest : List ℕ)
    → IsElement (suc levels) outer e → element_child root kept outer e ≡ Some c
    → ((k : Bool) (scope : Scope) → ReadsEach root levels k scope (child_at root levels k scope))
    → element_at (child_at root levels) root kept (scope_in outer (opening_of (tag_of e)).settings) (opening_of (tag_of e), is_bare e) (body e rest)
    ≡ Some (c, rest)
unfolding element_at filled_at
element_back root levels kept outer (empty t) c rest ok means r =
    let o = opening_of t in
    let ours = is_ours root (scope_in outer o.settings) o in
    named_as_child ours o (finished (kept && ours) (begun o.settings)) rest c
    (ap (named_child (key_of ours o.local)) (finished_is (kept && ours) o.settings [] []) ∙ means)
element_back root levels kept outer (full t content space) c rest ok means r =
    let o = opening_of t in
    let inner = scope_in outer o.settings in
    let ours = is_ours root inner o in
    let k = kept && ours in
    let d = named_data (key_of ours o.local) (element_data k o.settings (text_inside content) (children_in root k inner content)) c means in
    let h = has_children root k inner content o.settings (text_inside content) d.0 d.1 in
    let closing_text = name_text t.name ++ (space ++ (codes ">" ++ rest)) in
    let name = (both_true (is_qname t.name) _ ok.0.spelt).0 in
    let read = content_complete root levels k inner (child_at root levels k inner) (r k inner) (length (content_text content ++ (codes "</" ++ closing_text)))
    (begun o.settings) content h.0 closing_text ok.1 h.1 (omega arith) in
    let close = closing_complete t space rest name ok.2 in
    let says : finished k (with_content (begun o.settings) (text_inside content) h.0) ≡ Some d.0 =
    finished_is k o.settings (text_inside content) h.0 ∙ h.2 in
    rw read (rw close (named_as_child ours o (finished k (with_content (begun o.settings) (text_inside content) h.0)) rest c
    (ap (named_child (key_of ours o.local)) says ∙ d.2)))

-- an element that follows the rules and has a value is read after its `<`
pub child_complete : (root : List ℕ) (levels : ℕ) (kept : Bool) (outer : Scope) → ReadsEach root levels kept outer (child_at root levels kept outer)
unfolding child_at
child_complete root zero kept outer = record { complete = λ e c rest ok means. absurd (no_levels outer e ok) }
  where
    no_levels : (scope : Scope) (e : Element) → IsElement zero scope e → ⊥
    no_levels scope (empty t) ok = ok
    no_levels scope (full t c space) ok = ok
child_complete root (suc levels) kept outer = record {
  complete = λ e c rest ok means.
      let tag = tag_back (suc levels) outer e rest ok in
      let opened = opened_back (suc levels) outer e ok in
      rw (tag) (rw (opened) (element_back root levels kept outer e c rest ok means (λ k s. child_complete root levels k s)));
}
