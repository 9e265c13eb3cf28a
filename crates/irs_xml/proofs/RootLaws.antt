-- What is read as a document is spelt as one and means what was read, and what is spelt as one is read.
use Rattle.std.proofs.Common.{◌≡◌, inl, inr, ℕ, zero, suc, ◌≤◌, Bool, true, false, cond, ◌&&◌, List, [], ◌∷◌, ◌++◌, length, Option, Some, None, nat_eq, refl, sym, ap, subst, ◌∙◌, arith, append_assoc, length-append}
use Rattle.std.proofs.lemmas.Bool.{cases_Bool}
use Rattle.std.proofs.lemmas.Bool.Decides.{nat_tests}
use Rattle.std.proofs.lemmas.List.{append-nil}
use Rattle.std.specs.Char.{encode_utf8}
use Rattle.std.specs.Prelude.{codes}
use Rattle.serde_json.specs.Data.{Data, object, member, no_members}
use Rattle.irs_xml.specs.Characters.{is_white_space, is_white, rest_after, is_comment_text, comment_text, Instruction}
use Rattle.irs_xml.specs.Characters.{is_instruction, instruction_text, is_apart, lacks, is_name_char, is_name_start}
use Rattle.irs_xml.specs.Characters.{is_nc_name}
use Rattle.irs_xml.specs.Content.{Element, element_text, IsElement, IsTagIn, most_levels, Child, element_child}
use Rattle.irs_xml.specs.Document.{Declaration, declaration_text, is_xml_declaration, Misc, blank, comment, instruction}
use Rattle.irs_xml.specs.Document.{misc_text, is_misc, Document, document_text, tag_of, root_namespace, is_fpml}
use Rattle.irs_xml.specs.Document.{IsDocument, root_key, rooted, root_value, document_value}
use Rattle.irs_xml.specs.Tags.{Scope, opening_of, first_scope, scope_in, is_opened, Tag, tag_text}
use Rattle.irs_xml.specs.Private.Reading.{◌>>=◌, skip_space, gap_at, comment_at, instruction_at, tag_at, child_at}
use Rattle.irs_xml.specs.Private.Reading.{element_at, opening_at, declaration_at, misc_at, as_root, root_by, root_at}
use Rattle.irs_xml.specs.Private.Reading.{ended, document_at}
use Rattle.irs_xml.proofs.Steps.{same_some, bind_some, choose_some, chosen, both_true, true_both, eq_true, after_sound, begins, white_run, run_white, skip_sound, skip-stop}
use Rattle.irs_xml.proofs.CommentLaws.{comment_sound, comment_complete, instruction_sound, instruction_complete, space_no_name}
use Rattle.irs_xml.proofs.TagLaws.{end_text, tag_sound}
use Rattle.irs_xml.proofs.ContentLaws.{element_sound, child_sound, element_begins, element_start, start_no_mark, behind, body, is_bare, tag_back, opened_back, element_back, child_complete}
use Rattle.irs_xml.proofs.DocumentLaws.{declaration_sound, declared_complete}

-- what is round the root

-- white space in front of comments, instructions and white space
abbrev blanks : List ℕ → List Misc → List Misc
blanks [] ms = ms
blanks (c ∷ s) ms = blank c ∷ blanks s ms

blanks_text : (s : List ℕ) (ms : List Misc) → misc_text (blanks s ms) ≡ s ++ misc_text ms
blanks_text [] ms = refl
blanks_text (c ∷ s) ms = ap (λ t. c ∷ t) (blanks_text s ms)

are_blanks : (s : List ℕ) (ms : List Misc) → is_white s ≡ true → is_misc ms ≡ true → is_misc (blanks s ms) ≡ true
are_blanks [] ms w h = h
are_blanks (c ∷ s) ms w h =
    let b = both_true (is_white_space c) (is_white s) w in true_both (is_white_space c) (is_misc (blanks s ms)) b.0 (are_blanks s ms b.1 h)

-- comments, instructions and white space that were read
record ReadMisc (cs rest : List ℕ) : Type 0 where
  misc : List Misc
  are : is_misc misc ≡ true
  spelt : cs ≡ misc_text misc ++ rest

behind_white : (cs rest : List ℕ) (ms : List Misc) → is_misc ms ≡ true → skip_space cs ≡ misc_text ms ++ rest → ReadMisc cs rest
behind_white cs rest ms h e = record {
  misc = blanks (white_run cs) ms;
  are = are_blanks (white_run cs) ms (run_white cs) h;
  spelt = skip_sound cs ∙ ap (λ t. white_run cs ++ t) e ∙ sym (append_assoc (white_run cs) (misc_text ms) rest)
      ∙ ap (λ t. t ++ rest) (sym (blanks_text (white_run cs) ms));
}

misc_sound : (n : ℕ) (cs rest : List ℕ) → misc_at n cs ≡ Some rest → ReadMisc cs rest
unfolding misc_at
misc_sound zero cs rest e = absurd (cc e)
misc_sound (suc n) cs rest e =
    elim (choose_some (rest_after (codes "<!--") (skip_space cs)) (λ rest. comment_at rest >>= misc_at n) _ rest e) [
      | inl h ↦
          let b = bind_some (comment_at h.0) (misc_at n) rest h.2 in
          let c = comment_sound h.0 b.0 b.1 in
          let r = misc_sound n b.0 rest b.2 in
          behind_white cs rest (comment c.text ∷ r.misc) (true_both (is_comment_text c.text) (is_misc r.misc) c.is_comment r.are)
          (after_sound (codes "<!--") (skip_space cs) h.0 h.1 ∙ c.spelt ∙ ap (λ t. comment_text c.text ++ t) r.spelt
          ∙ sym (append_assoc (comment_text c.text) (misc_text r.misc) rest))
      | inr a ↦ elim (choose_some (rest_after (codes "<?") (skip_space cs)) (λ rest. instruction_at rest >>= misc_at n) (Some (skip_space cs)) rest a.1) [
        | inl h ↦
            let b = bind_some (instruction_at h.0) (misc_at n) rest h.2 in
            let i = instruction_sound h.0 b.0 b.1 in
            let r = misc_sound n b.0 rest b.2 in
            behind_white cs rest (instruction i.instruction ∷ r.misc) (true_both (is_instruction i.instruction) (is_misc r.misc) i.is_instruction r.are)
            (after_sound (codes "<?") (skip_space cs) h.0 h.1 ∙ i.spelt ∙ ap (λ t. instruction_text i.instruction ++ t) r.spelt
            ∙ sym (append_assoc (instruction_text i.instruction) (misc_text r.misc) rest))
        | inr h ↦ behind_white cs rest [] refl (same_some h.1)
      ]
    ]

-- what ends the comments, instructions and white space
record Stops (rest : List ℕ) : Type 0 where
  no_space : begins is_white_space rest ≡ false
  no_comment : rest_after (codes "<!--") rest ≡ None
  no_instruction : rest_after (codes "<?") rest ≡ None

misc_stop : (n : ℕ) (rest : List ℕ) → Stops rest → misc_at (suc n) rest ≡ Some rest
unfolding misc_at
misc_stop n rest s =
    let skip = skip-stop rest s.no_space in let a = s.no_comment in let b = s.no_instruction in rw (skip, a, b) refl

misc_blank : (n c : ℕ) (cs : List ℕ) → is_white_space c ≡ true → misc_at (suc n) (c ∷ cs) ≡ misc_at (suc n) cs
unfolding misc_at
misc_blank n c cs h = rw h refl

misc_comment : (n : ℕ) (text left : List ℕ) → is_comment_text text ≡ true → misc_at (suc n) (codes "<!--" ++ (text ++ (codes "-->" ++ left))) ≡ misc_at n left
unfolding misc_at is_white_space
misc_comment n text left h = let e = comment_complete text left h in rw e refl

misc_instruction : (n : ℕ) (i : Instruction) (left : List ℕ) → is_instruction i ≡ true
    → misc_at (suc n) (codes "<?" ++ (i.target ++ (i.body ++ (codes "?>" ++ left)))) ≡ misc_at n left
unfolding misc_at is_white_space
misc_instruction n i left h = let e = instruction_complete i left h in rw e refl

misc_complete : (n : ℕ) (ms : List Misc) (rest : List ℕ) → is_misc ms ≡ true → Stops rest → length (misc_text ms ++ rest) ≤ n
    → misc_at (suc n) (misc_text ms ++ rest) ≡ Some rest
misc_complete n [] rest h s l = misc_stop n rest s
misc_complete n (blank c ∷ ms) rest h s l =
    let b = both_true (is_white_space c) (is_misc ms) h in
    misc_blank n c (misc_text ms ++ rest) b.0 ∙ misc_complete n ms rest b.1 s (omega (arith, l))
misc_complete zero (comment text ∷ ms) rest h s l = absurd (omega (arith, l))
misc_complete (suc n) (comment text ∷ ms) rest h s l =
    let b = both_true (is_comment_text text) (is_misc ms) h in
    let left = misc_text ms ++ rest in
    let whole : misc_text (comment text ∷ ms) ++ rest ≡ codes "<!--" ++ (text ++ (codes "-->" ++ left)) =
    append_assoc (comment_text text) (misc_text ms) rest ∙ ap (λ t. codes "<!--" ++ t) (append_assoc text (codes "-->") left) in
    let long = ap length whole in let long2 = length-append text (codes "-->" ++ left) in
    ap (misc_at (suc (suc n))) whole ∙ misc_comment (suc n) text left b.0 ∙ misc_complete n ms rest b.1 s (omega (arith, l, long, long2))
misc_complete zero (instruction i ∷ ms) rest h s l = absurd (omega (arith, l))
misc_complete (suc n) (instruction i ∷ ms) rest h s l =
    let b = both_true (is_instruction i) (is_misc ms) h in
    let left = misc_text ms ++ rest in
    let whole : misc_text (instruction i ∷ ms) ++ rest ≡ codes "<?" ++ (i.target ++ (i.body ++ (codes "?>" ++ left))) =
    append_assoc (instruction_text i) (misc_text ms) rest
    ∙ ap (λ t. codes "<?" ++ t) (append_assoc i.target (i.body ++ codes "?>") left ∙ ap (λ t. i.target ++ t) (append_assoc i.body (codes "?>") left)) in
    let long = ap length whole in let long2 = length-append i.target (i.body ++ (codes "?>" ++ left)) in
    let long3 = length-append i.body (codes "?>" ++ left) in
    ap (misc_at (suc (suc n))) whole ∙ misc_instruction (suc n) i left b.0 ∙ misc_complete n ms rest b.1 s (omega (arith, l, long, long2, long3))

-- a root ends what comes before it

less_no_space : (cs : List ℕ) → begins is_white_space (60 ∷ cs) ≡ false
unfolding is_white_space
less_no_space cs = refl

root_stops : (levels : ℕ) (scope : Scope) (e : Element) (tail : List ℕ) → IsElement levels scope e → Stops (element_text e ++ tail)
root_stops levels scope e tail ok =
    let b = element_start levels scope e tail ok in
    let m = start_no_mark b.0 b.3 in
    let whole = element_begins e tail ∙ ap (λ t. 60 ∷ t) b.2 in
    subst Stops (sym whole) (starts b.0 b.1 m.1 m.2)
  where
    starts : (c : ℕ) (cs : List ℕ) → nat_eq c 33 ≡ false → nat_eq c 63 ≡ false → Stops (60 ∷ (c ∷ cs))
    starts c cs x y = record { no_space = less_no_space (c ∷ cs); no_comment = rw x refl; no_instruction = rw y refl }

nothing_stops : Stops []
nothing_stops = record { no_space = refl; no_comment = refl; no_instruction = refl }

-- no declaration where there is none

-- no characters are left: nothing was read
abbrev no_text : Option (List ℕ)
no_text = None

xml_no_gap : (o : Option (List ℕ)) → o ≡ None → (o >>= gap_at) ≡ None
xml_no_gap o e = rw e refl

root_no_declaration : (levels : ℕ) (scope : Scope) (e : Element) (tail : List ℕ) → IsElement levels scope e → opening_at (element_text e ++ tail) ≡ None
root_no_declaration levels scope e tail ok =
    let b = element_start levels scope e tail ok in
    let m = start_no_mark b.0 b.3 in
    ap opening_at (element_begins e tail ∙ ap (λ t. 60 ∷ t) b.2) ∙ no_mark b.0 b.1 m.2
  where
    no_mark : (c : ℕ) (cs : List ℕ) → nat_eq c 63 ≡ false → opening_at (60 ∷ (c ∷ cs)) ≡ None
    no_mark c cs x = rw x refl

space_no_less : (c : ℕ) → is_white_space c ≡ true → nat_eq c 60 ≡ false
unfolding is_white_space
space_no_less c h = grind (arith, nat_tests)

-- a target that isn't `xml` begins no declaration
space_apart : (c : ℕ) → is_white_space c ≡ true → (nat_eq c 109 ≡ false) × (nat_eq c 108 ≡ false)
unfolding is_white_space
space_apart c h = (grind (arith, nat_tests), grind (arith, nat_tests))

fourth : (a b c d : ℕ) (ds : List ℕ) → is_nc_name (a ∷ b ∷ c ∷ d ∷ ds) ≡ true → is_name_char d ≡ true
fourth a b c d ds h =
    let x = both_true (is_name_start a) _ h in
    let y = both_true (is_name_char b) _ x.1 in
    let z = both_true (is_name_char c) _ y.1 in
    (both_true (is_name_char d) _ z.1).0

xml_named : (body : List ℕ) → is_instruction (record { target = codes "xml"; body = body }) ≡ false
unfolding is_name_char is_name_start encode_utf8
xml_named body = refl

is_the_xml : (a b c : ℕ) → nat_eq a 120 ≡ true → nat_eq b 109 ≡ true → nat_eq c 108 ≡ true → (body : List ℕ)
    → is_instruction (record { target = a ∷ b ∷ c ∷ []; body = body }) ≡ true → false ≡ true
is_the_xml a b c p q r body h =
    sym (xml_named body) ∙ ap (λ (t : List ℕ). is_instruction (record { target = t; body = body })) (sym (ap (λ x. x ∷ b ∷ c ∷ []) (eq_true a 120 p)
    ∙ ap (λ x. 120 ∷ x ∷ c ∷ []) (eq_true b 109 q) ∙ ap (λ x. 120 ∷ 109 ∷ x ∷ []) (eq_true c 108 r))) ∙ h

-- what follows a target is white space or `?`
behind_target : (body rest : List ℕ) → is_apart body ≡ true
    → (c : ℕ) × (cs : List ℕ) × (body ++ (codes "?>" ++ rest) ≡ c ∷ cs) × (nat_eq c 109 ≡ false) × (nat_eq c 108 ≡ false)
behind_target [] rest h = (63, 62 ∷ rest, refl, refl, refl)
behind_target (c ∷ body) rest h = let s = space_apart c h in (c, body ++ (codes "?>" ++ rest), refl, s.0, s.1)

name_no_space : (c : ℕ) → is_name_char c ≡ true → is_white_space c ≡ false
name_no_space c h = elim (cases_Bool (is_white_space c)) [
  | inl s ↦ absurd (let k = sym (space_no_name c s) ∙ h in cc k)
  | inr s ↦ s
]

xml_bind : (x y z : Bool) (o : Option (List ℕ)) → (o >>= gap_at) ≡ None → (cond x (cond y (cond z o None) None) None >>= gap_at) ≡ None
xml_bind true true true o e = e
xml_bind true true false o e = refl
xml_bind true false z o e = refl
xml_bind false y z o e = refl

first_test : (x : Bool) → (cond x None None >>= gap_at) ≡ no_text
first_test true = refl
first_test false = refl

second_test : (x y : Bool) → (cond x (cond y None None) None >>= gap_at) ≡ no_text
second_test true true = refl
second_test true false = refl
second_test false y = refl

target_no_xml : (target body rest : List ℕ) → is_instruction (record { target = target; body = body }) ≡ true
    → (rest_after (codes "xml") (target ++ (body ++ (codes "?>" ++ rest))) >>= gap_at) ≡ None
target_no_xml [] body rest h = absurd (cc h)
target_no_xml (a ∷ []) body rest h =
    let b = behind_target body rest (both_true (is_apart body) (lacks (codes "?>") body) (both_true _ (is_apart body && lacks (codes "?>") body) h).1).0 in
    let other = b.3 in
    ap (λ t. rest_after (codes "xml") (a ∷ t) >>= gap_at) b.2 ∙ one a b.0 b.1 b.3
  where
    one : (a c : ℕ) (cs : List ℕ) → nat_eq c 109 ≡ false → (rest_after (codes "xml") (a ∷ (c ∷ cs)) >>= gap_at) ≡ None
    one a c cs e = rw e (first_test (nat_eq a 120))
target_no_xml (a ∷ d ∷ []) body rest h =
    let b = behind_target body rest (both_true (is_apart body) (lacks (codes "?>") body) (both_true _ (is_apart body && lacks (codes "?>") body) h).1).0 in
    ap (λ t. rest_after (codes "xml") (a ∷ (d ∷ t)) >>= gap_at) b.2 ∙ two a d b.0 b.1 b.4
  where
    two : (a d c : ℕ) (cs : List ℕ) → nat_eq c 108 ≡ false → (rest_after (codes "xml") (a ∷ (d ∷ (c ∷ cs))) >>= gap_at) ≡ None
    two a d c cs e = rw e (second_test (nat_eq a 120) (nat_eq d 109))
target_no_xml (a ∷ d ∷ f ∷ []) body rest h = by_tests (nat_eq a 120) (nat_eq d 109) (nat_eq f 108) refl refl refl
  where
    by_tests : (x y z : Bool) → nat_eq a 120 ≡ x → nat_eq d 109 ≡ y → nat_eq f 108 ≡ z
        → (cond x (cond y (cond z (Some (body ++ (codes "?>" ++ rest))) None) None) None >>= gap_at) ≡ None
    by_tests true true true p q r = absurd (let k = is_the_xml a d f p q r body h in cc k)
    by_tests true true false p q r = refl
    by_tests true false z p q r = refl
    by_tests false y z p q r = refl
target_no_xml (a ∷ d ∷ f ∷ g ∷ gs) body rest h =
    let n = (both_true (is_nc_name (a ∷ d ∷ f ∷ g ∷ gs)) _ (both_true _ (is_apart body && lacks (codes "?>") body) h).0).0 in
    let s = name_no_space g (fourth a d f g gs n) in
    xml_bind (nat_eq a 120) (nat_eq d 109) (nat_eq f 108) (Some (g ∷ (gs ++ (body ++ (codes "?>" ++ rest))))) (rw s refl)

no_declaration : (ms : List Misc) (levels : ℕ) (scope : Scope) (e : Element) (tail : List ℕ) → is_misc ms ≡ true → IsElement levels scope e
    → opening_at (misc_text ms ++ (element_text e ++ tail)) ≡ None
no_declaration [] levels scope e tail h ok = root_no_declaration levels scope e tail ok
no_declaration (blank c ∷ ms) levels scope e tail h ok = let x = space_no_less c (both_true (is_white_space c) (is_misc ms) h).0 in rw x refl
no_declaration (comment text ∷ ms) levels scope e tail h ok = refl
no_declaration (instruction i ∷ ms) levels scope e tail h ok =
    let b = both_true (is_instruction i) (is_misc ms) h in
    let left = misc_text ms ++ (element_text e ++ tail) in
    ap opening_at (append_assoc (instruction_text i) (misc_text ms) (element_text e ++ tail)
    ∙ ap (λ t. codes "<?" ++ t) (append_assoc i.target (i.body ++ codes "?>") left ∙ ap (λ t. i.target ++ t) (append_assoc i.body (codes "?>") left)))
    ∙ target_no_xml i.target i.body left b.0

declaration_complete : (d : Option Declaration) (ms : List Misc) (levels : ℕ) (scope : Scope) (e : Element) (tail : List ℕ) → is_xml_declaration d ≡ true
    → is_misc ms ≡ true → IsElement levels scope e
    → declaration_at (declaration_text d ++ (misc_text ms ++ (element_text e ++ tail))) ≡ Some (misc_text ms ++ (element_text e ++ tail))
unfolding declaration_at
declaration_complete None ms levels scope e tail h m ok = let none = no_declaration ms levels scope e tail m ok in rw none refl
declaration_complete (Some d) ms levels scope e tail h m ok = declared_complete d (misc_text ms ++ (element_text e ++ tail)) h

-- roots

-- a root element that was read after its `<`, and the value of its document
record ReadRoot (cs : List ℕ) (d : Data) (rest : List ℕ) : Type 0 where
  element : Element
  ok : IsElement most_levels first_scope element
  fpml : is_fpml (root_namespace (opening_of (tag_of element))) ≡ true
  means : root_value (root_namespace (opening_of (tag_of element))) (opening_of (tag_of element)).local element ≡ Some d
  spelt : 60 ∷ cs ≡ element_text element ++ rest

by_namespace : (cs : List ℕ) (t : Tag) (b : Bool) (mid : List ℕ) (d : Data) (rest : List ℕ) (n : Option (List ℕ)) → n ≡ root_namespace (opening_of t)
    → IsTagIn first_scope t → 60 ∷ cs ≡ tag_text t ++ (end_text b ++ mid)
    → root_by n (scope_in first_scope (opening_of t).settings) (opening_of t, b) mid ≡ Some (d, rest) → ReadRoot cs d rest
unfolding root_by
by_namespace cs t b mid d rest None is ok spelt e = absurd (cc e)
by_namespace cs t b mid d rest (Some root) is ok spelt e =
    let o = opening_of t in
    elim (chosen (is_fpml (Some root)) (element_at (child_at root 62) root true (scope_in first_scope o.settings) (o, b) mid >>= as_root o) None (Some (d, rest)) e) [
      | inl h ↦
          let x = bind_some (element_at (child_at root 62) root true (scope_in first_scope o.settings) (o, b) mid) (as_root o) (d, rest) h.1 in
          let r = element_sound root 62 true first_scope cs t b mid x.0.0 x.0.1 ok spelt (λ k s. child_sound root 62 k s) x.1 in
          let same = same_some x.2 in
          let tagged : opening_of (tag_of r.read.element) ≡ o = ap opening_of r.tag in
          record {
            element = r.read.element;
            ok = r.read.ok;
            fpml = ap (λ p. is_fpml (root_namespace p)) tagged ∙ ap is_fpml (sym is) ∙ h.0;
            means = ap (λ p. root_value (root_namespace p) p.local r.read.element) tagged
                ∙ ap (λ n. root_value n o.local r.read.element) (sym is)
                ∙ ap (rooted o.local) r.read.means ∙ ap (λ p. Some p.0) same;
            spelt = r.read.spelt ∙ ap (λ p. element_text r.read.element ++ p.1) same;
          }
      | inr h ↦ absurd (let k = h.1 in cc k)
    ]

root_sound : (cs : List ℕ) (d : Data) (rest : List ℕ) → root_at cs ≡ Some (d, rest) → ReadRoot cs d rest
unfolding root_at
root_sound cs d rest e =
    let t = bind_some (tag_at cs) _ (d, rest) e in
    let tag = tag_sound cs t.0.0.0 t.0.0.1 t.0.1 t.1 in
    elim (chosen (is_opened first_scope t.0.0.0) _ None (Some (d, rest)) t.2) [
      | inl h ↦
          let goes = ap (λ o. root_by (root_namespace o) (scope_in first_scope o.settings) (o, t.0.0.1) t.0.1) (sym tag.says) ∙ h.1 in
          by_namespace cs tag.tag t.0.0.1 t.0.1 d rest (root_namespace (opening_of tag.tag)) refl
          (record { spelt = tag.is_tag; few = tag.few; opened = ap (is_opened first_scope) (sym tag.says) ∙ h.0 }) tag.spelt goes
      | inr h ↦ absurd (let k = h.1 in cc k)
    ]

namespace_back : (e : Element) (d : Data) (rest : List ℕ) (n : Option (List ℕ)) → IsElement most_levels first_scope e → is_fpml n ≡ true
    → root_value n (opening_of (tag_of e)).local e ≡ Some d
    → root_by n (scope_in first_scope (opening_of (tag_of e)).settings) (opening_of (tag_of e), is_bare e) (body e rest) ≡ Some (d, rest)
unfolding root_by
namespace_back e d rest None ok fpml means = absurd (cc fpml)
namespace_back e d rest (Some root) ok fpml means =
    let o = opening_of (tag_of e) in
    let c = child_of (element_child root true first_scope e) means in
    let read = element_back root 62 true first_scope e c.0 rest ok c.1 (λ k s. child_complete root 62 k s) in
    rw (fpml, read) (ap (λ x. Some (x, rest)) c.2)
  where
    child_of : (x : Option Child) → rooted (opening_of (tag_of e)).local x ≡ Some d
        → (c : Child) × (x ≡ Some c) × (object (member (root_key (opening_of (tag_of e)).local) c.1 no_members) ≡ d)
    child_of None e = absurd (cc e)
    child_of (Some c) e = (c, refl, same_some e)

root_complete : (e : Element) (d : Data) (rest : List ℕ) → IsElement most_levels first_scope e
    → is_fpml (root_namespace (opening_of (tag_of e))) ≡ true
    → root_value (root_namespace (opening_of (tag_of e))) (opening_of (tag_of e)).local e ≡ Some d
    → root_at (behind e rest) ≡ Some (d, rest)
unfolding root_at
root_complete e d rest ok fpml means =
    let tag = tag_back most_levels first_scope e rest ok in
    let opened = opened_back most_levels first_scope e ok in
    rw tag (rw opened (namespace_back e d rest (root_namespace (opening_of (tag_of e))) ok fpml means))

-- documents

-- a document that was read, and its value
pub record ReadDocument (cs : List ℕ) (d : Data) : Type 0 where
  pub document : Document
  pub is_document : IsDocument document
  pub spelt : cs ≡ document_text document
  pub means : document_value document ≡ Some d

ended_is : (x : Data) (cs : List ℕ) (d : Data) → ended x cs ≡ Some d → (x ≡ d) × (cs ≡ [])
ended_is x [] d e = (same_some e, refl)
ended_is x (c ∷ cs) d e = absurd (cc e)

-- what is read as a document is spelt as one and means the value that was read
pub document_sound : (cs : List ℕ) (d : Data) → document_at cs ≡ Some d → ReadDocument cs d
unfolding document_at
document_sound cs d e =
    let a = bind_some (declaration_at cs) _ d e in
    let b = bind_some (misc_at (suc (length a.0)) a.0) _ d a.2 in
    let c = bind_some (rest_after (codes "<") b.0) _ d b.2 in
    let r = bind_some (root_at c.0) _ d c.2 in
    let m = bind_some (misc_at (suc (length r.0.1)) r.0.1) _ d r.2 in
    let end = ended_is r.0.0 m.0 d m.2 in
    let declaration = declaration_sound cs a.0 a.1 in
    let before = misc_sound (suc (length a.0)) a.0 b.0 b.1 in
    let root = root_sound c.0 r.0.0 r.0.1 r.1 in
    let last = misc_sound (suc (length r.0.1)) r.0.1 m.0 m.1 in
    record {
      document = record { declaration = declaration.declaration; before = before.misc; root = root.element; behind = last.misc };
      is_document = record { declared = declaration.is_declaration; before = before.are; root = root.ok; fpml = root.fpml; behind = last.are };
      spelt = declaration.spelt ∙ ap (λ t. declaration_text declaration.declaration ++ t) (before.spelt ∙ ap (λ t. misc_text before.misc ++ t)
          (after_sound (codes "<") b.0 c.0 c.1 ∙ root.spelt ∙ ap (λ t. element_text root.element ++ t) (last.spelt
          ∙ ap (λ t. misc_text last.misc ++ t) end.1 ∙ append-nil (misc_text last.misc))));
      means = root.means ∙ ap (λ x. Some x) end.0;
    }

-- a document that follows the rules and means a value is read as that value
pub document_complete : (doc : Document) (d : Data) → IsDocument doc → document_value doc ≡ Some d → document_at (document_text doc) ≡ Some d
unfolding document_at
document_complete doc d is means =
    let last = misc_text doc.behind in
    let front = misc_text doc.before ++ (element_text doc.root ++ last) in
    let declared = declaration_complete doc.declaration doc.before most_levels first_scope doc.root last is.declared is.before is.root in
    let before = misc_complete (length front) doc.before (element_text doc.root ++ last) is.before (root_stops most_levels first_scope doc.root last is.root) (omega arith) in
    let less : rest_after (codes "<") (element_text doc.root ++ last) ≡ Some (behind doc.root last) = ap (rest_after (codes "<")) (element_begins doc.root last) in
    let root = root_complete doc.root d last is.root is.fpml means in
    let end : misc_at (suc (length last)) last ≡ Some [] =
    ap (misc_at (suc (length last))) (sym (append-nil last))
    ∙ misc_complete (length last) doc.behind [] is.behind nothing_stops (let l = ap length (append-nil last) in omega (arith, l)) in
    rw declared (rw before (rw less (rw root (rw end refl))))
