-- The document of a root and elements means their value.
use Rattle.std.proofs.Common.{◌≡◌, ℕ, zero, suc, Bool, true, false, ◌&&◌, List, [], ◌<◌, ◌∷◌, ◌++◌, Option, Some, refl}
use Rattle.std.proofs.Common.{ap, ◌∙◌, arith}
use Rattle.std.proofs.lemmas.Bool.Decides.{nat_tests}
use Rattle.std.proofs.lemmas.List.{append-nil}
use Rattle.std.proofs.lemmas.Slice.Eq.{bytes_eq-Decides}
use Rattle.std.proofs.lemmas.Str.{encode_ascii}
use Rattle.std.specs.Char.{encode_utf8}
use Rattle.std.specs.List.{list_all}
use Rattle.std.specs.Str.{bytes_eq, encode_utf8_all}
use Rattle.irs_xml.specs.Characters.{is_white_space, is_white}
use Rattle.irs_xml.specs.Content.{Element, Content, nothing, character, child, Child, is_ours, key_of, named_child}
use Rattle.irs_xml.specs.Content.{both, element_data, value_from, with_settings, with_children, element_child}
use Rattle.irs_xml.specs.Content.{children_in, text_inside}
use Rattle.irs_xml.specs.Document.{document_value, root_key, root_namespace, rooted, root_value}
use Rattle.irs_xml.specs.Tags.{Scope, Setting, first_scope, opening_of, is_declaration, declared_prefix}
use Rattle.irs_xml.specs.Tags.{is_same_namespace, settings_of}
use Rattle.serde_json.specs.Data.{Data, string, object, no_members, member}
use Rattle.irs_emit_xml.specs.Trees.{Node, leaf, branch, Nodes, no_nodes, node, indent, fpml_namespace, is_letter}
use Rattle.irs_emit_xml.specs.Trees.{is_tag_name, is_unescaped, IsFilled, IsNode, IsNodes, IsRoot, node_name}
use Rattle.irs_emit_xml.specs.Trees.{node_value, children_of, written_value}
use Rattle.irs_emit_xml.proofs.Rules.{IsHome, home, at_home, home_stays, root_at, both_true}
use Rattle.irs_emit_xml.proofs.Spelling.{plain_tag, characters, element_of, content_of, namespace_attribute, root_tag}
use Rattle.irs_emit_xml.proofs.Spelling.{root_of, document_of}

-- ---- ASCII

letter_low : (c : ℕ) → is_letter c ≡ true → c < 128
unfolding is_letter
letter_low c h = grind (arith, nat_tests)

plain_low : (c : ℕ) → is_unescaped c ≡ true → c < 128
unfolding is_unescaped
plain_low c h = grind (arith, nat_tests)

-- characters of a kind that is ASCII are their own UTF-8
pub encodes_low : (test : ℕ → Bool) (cs : List ℕ) → ((c : ℕ) → test c ≡ true → c < 128) → list_all test cs ≡ true
    → encode_utf8_all cs ≡ cs
encodes_low test [] law h = refl
encodes_low test (c ∷ cs) law h =
    let b = both_true (test c) (list_all test cs) h in
    ap (λ t. t ++ encode_utf8_all cs) (encode_ascii c (law c b.0)) ∙ ap (λ t. c ∷ t) (encodes_low test cs law b.1)

name_kept : (name : List ℕ) → is_tag_name name ≡ true → encode_utf8_all name ≡ name
name_kept [] h = refl
name_kept (c ∷ cs) h = encodes_low is_letter (c ∷ cs) letter_low h

-- ---- the text in content, and its elements

text_alone : (cs : List ℕ) → text_inside (characters cs nothing) ≡ encode_utf8_all cs
text_alone [] = refl
text_alone (c ∷ cs) = ap (λ t. encode_utf8 c ++ t) (text_alone cs)

none_alone : (root : List ℕ) (scope : Scope) (cs : List ℕ) (c : Content)
    → children_in root true scope (characters cs c) ≡ children_in root true scope c
none_alone root scope [] c = refl
none_alone root scope (x ∷ cs) c = none_alone root scope cs c

-- white space before content doesn't change whether its text is white
indent_white : (k : ℕ) (c : Content) → is_white (text_inside (characters (indent k) c)) ≡ is_white (text_inside c)
unfolding encode_utf8 is_white_space
indent_white zero c = refl
indent_white (suc k) c = indent_white k c

feed_white : (c : Content) → is_white (text_inside (character 10 c)) ≡ is_white (text_inside c)
unfolding encode_utf8 is_white_space
feed_white c = refl

nodes_white : (k : ℕ) (ns : Nodes) (c : Content) → is_white (text_inside (content_of k ns c)) ≡ is_white (text_inside c)
nodes_white k no_nodes c = refl
nodes_white k (node n ns) c =
    indent_white k (child (element_of k n) (character 10 (content_of k ns c)))
    ∙ feed_white (content_of k ns c) ∙ nodes_white k ns c

-- ---- values

same_bytes : (a : List ℕ) → bytes_eq a a ≡ true
same_bytes a = (bytes_eq-Decides a a).1 refl

-- an element without a prefix is one of the root's namespace
ours_is : (root : List ℕ) (scope : Scope) (name : List ℕ) → IsHome root scope
    → is_ours root (scope ++ []) (opening_of (plain_tag name)) ≡ true
ours_is root scope name inner =
    ap (λ o. is_same_namespace o (Some root)) (home_stays root scope inner) ∙ same_bytes root

-- what an element of the root's namespace makes
ours_child : (ours : Bool) (root local text : List ℕ) (scope : Scope) (c : Content) → ours ≡ true
    → named_child (key_of ours local) (element_data (true && ours) [] text (children_in root (true && ours) scope c))
    ≡ named_child local (element_data true [] text (children_in root true scope c))
ours_child true root local text scope c e = refl
ours_child false root local text scope c e = absurd (cc e)

-- what an element with a text, and no elements, is
leaf_data : (name local text is : List ℕ) (children : Option (List Child)) → local ≡ name → text ≡ is
    → children ≡ Some []
    → named_child local (element_data true [] text children) ≡ Some (name, string is)
leaf_data name local text is children e f g =
    ap (λ l. named_child l (element_data true [] text children)) e ∙ ap (λ t. named_child name (element_data true [] t children)) f
    ∙ ap (λ cs. named_child name (element_data true [] is cs)) g

-- the value of elements with white space round them
filled_value : (settings : List Setting) (text : List ℕ) (ns : Nodes) → IsFilled ns → is_white text ≡ true
    → value_from settings text (children_of ns) ≡ Some
    (object (with_children (children_of ns) (with_settings settings no_members)))
filled_value settings text no_nodes filled w = absurd filled
filled_value settings text (node n ns) filled w = rw w refl

-- what an element with elements is
branch_data : (name local text : List ℕ) (ns : Nodes) (children : Option (List Child)) → local ≡ name → IsFilled ns
    → is_white text ≡ true
    → children ≡ Some (children_of ns)
    → named_child local (element_data true [] text children) ≡ Some (name, object (with_children (children_of ns) no_members))
branch_data name local text ns children e filled w g =
    ap (λ l. named_child l (element_data true [] text children)) e ∙ ap (λ cs. named_child name (element_data true [] text cs)) g
    ∙ ap (named_child name) (filled_value [] text ns filled w)

mutual
  node_child : (root : List ℕ) (scope : Scope) (levels k : ℕ) (n : Node) → IsHome root scope → IsNode levels n
      → element_child root true scope (element_of k n) ≡ Some (node_name n, node_value n)
  node_child root scope zero k (leaf name text) inner h = absurd h
  node_child root scope zero k (branch name ns) inner h = absurd h
  node_child root scope (suc levels) k (leaf name text) inner h =
      ours_child (is_ours root (scope ++ []) (opening_of (plain_tag name))) root (encode_utf8_all name)
      (text_inside (characters text nothing)) (scope ++ []) (characters text nothing) (ours_is root scope name inner)
      ∙ leaf_data name (encode_utf8_all name) (text_inside (characters text nothing)) text
      (children_in root true (scope ++ []) (characters text nothing)) (name_kept name h.0)
      (text_alone text ∙ encodes_low is_unescaped text plain_low h.1) (none_alone root (scope ++ []) text nothing)
  node_child root scope (suc levels) k (branch name ns) inner h =
      let c = character 10 (content_of (suc k) ns (characters (indent k) nothing)) in
      ours_child (is_ours root (scope ++ []) (opening_of (plain_tag name))) root (encode_utf8_all name)
      (text_inside c) (scope ++ []) c (ours_is root scope name inner)
      ∙ branch_data name (encode_utf8_all name) (text_inside c) ns (children_in root true (scope ++ []) c)
      (name_kept name h.0) h.1
      (feed_white (content_of (suc k) ns (characters (indent k) nothing))
      ∙ nodes_white (suc k) ns (characters (indent k) nothing) ∙ indent_white k nothing)
      (ap (λ s. children_in root true s c) (append-nil scope)
      ∙ nodes_children root scope levels (suc k) ns (characters (indent k) nothing) inner h.2
      (none_alone root scope (indent k) nothing))

  nodes_children : (root : List ℕ) (scope : Scope) (levels k : ℕ) (ns : Nodes) (c : Content) → IsHome root scope
      → IsNodes levels ns
      → children_in root true scope c ≡ Some [] → children_in root true scope (content_of k ns c)
      ≡ Some (children_of ns)
  nodes_children root scope levels k no_nodes c inner h e = e
  nodes_children root scope levels k (node n ns) c inner h e =
      none_alone root scope (indent k) (child (element_of k n) (character 10 (content_of k ns c)))
      ∙ ap (λ o. both o (children_in root true scope (content_of k ns c))) (node_child root scope levels k n inner h.0)
      ∙ ap (both (Some (node_name n, node_value n))) (nodes_children root scope levels k ns c inner h.1 e)

-- ---- the document

-- the root's only attribute is a declaration, and no member
no_setting : with_settings (settings_of (namespace_attribute ∷ [])) no_members ≡ no_members
unfolding is_declaration encode_utf8 is_white_space
no_setting = refl

-- what the root makes
root_data : (name local text : List ℕ) (ns : Nodes) (children : Option (List Child)) → local ≡ name → IsFilled ns
    → is_white text ≡ true
    → children ≡ Some (children_of ns)
    → named_child local (element_data true (settings_of (namespace_attribute ∷ [])) text children)
    ≡ Some (name, object (with_children (children_of ns) no_members))
root_data name local text ns children e filled w g =
    let settings = settings_of (namespace_attribute ∷ []) in
    ap (λ l. named_child l (element_data true settings text children)) e
    ∙ ap (λ cs. named_child name (element_data true settings text cs)) g
    ∙ ap (named_child name) (filled_value settings text ns filled w)
    ∙ ap (λ ms. Some (name, object (with_children (children_of ns) ms))) no_setting

root_ours : (name : List ℕ) → is_ours fpml_namespace home (opening_of (root_tag name)) ≡ true
unfolding home first_scope is_declaration declared_prefix encode_utf8 is_white_space
root_ours name = refl

-- what the root makes, as one of its own namespace
root_child_by : (ours : Bool) (local text : List ℕ) (c : Content) → ours ≡ true
    → named_child (key_of ours local) (element_data (true && ours) (settings_of (namespace_attribute ∷ [])) text
    (children_in fpml_namespace (true && ours) home c))
    ≡ named_child local (element_data true (settings_of (namespace_attribute ∷ [])) text
    (children_in fpml_namespace true home c))
root_child_by true local text c e = refl
root_child_by false local text c e = absurd (cc e)

root_child : (name : List ℕ) (ns : Nodes) → IsRoot name ns
    → element_child fpml_namespace true first_scope (root_of name ns)
    ≡ Some (name, object (with_children (children_of ns) no_members))
unfolding home
root_child name ns h =
    let c = character 10 (content_of 1 ns nothing) in
    root_child_by (is_ours fpml_namespace home (opening_of (root_tag name))) (encode_utf8_all name) (text_inside c) c
    (root_ours name)
    ∙ root_data name (encode_utf8_all name) (text_inside c) ns (children_in fpml_namespace true home c)
    (name_kept name h.named) h.filled
    (feed_white (content_of 1 ns nothing) ∙ nodes_white 1 ns nothing)
    (nodes_children fpml_namespace home 62 1 ns nothing at_home h.nested refl)

-- a root in its namespace, by what it makes
rooted_by : (local name : List ℕ) (d : Data) (o : Option (List ℕ)) (e : Element) → local ≡ name
    → o ≡ Some fpml_namespace
    → element_child fpml_namespace true first_scope e ≡ Some (name, d)
    → root_value o local e ≡ Some (object (member (root_key name) d no_members))
rooted_by local name d o e l n c =
    ap (λ x. root_value x local e) n ∙ ap (rooted local) c
    ∙ ap (λ x. Some (object (member (root_key x) d no_members))) l

-- the document means the value of what is written
pub document_means : (name : List ℕ) (ns : Nodes) → IsRoot name ns
    → document_value (document_of name ns) ≡ Some (written_value name ns)
unfolding written_value
document_means name ns h =
    rooted_by (encode_utf8_all name) name (object (with_children (children_of ns) no_members))
    (root_namespace (opening_of (root_tag name))) (root_of name ns) (name_kept name h.named) (root_at name)
    (root_child name ns h)
