-- The document of a root and elements follows the rules of XML and of its namespaces.
use Rattle.std.proofs.Common.{◌≡◌, ℕ, zero, suc, Bool, true, false, not, ◌&&◌, ◌==◌, List, [], ◌∷◌, ◌++◌, Some, None}
use Rattle.std.proofs.Common.{nat_eq, refl, sym, ap, subst, ◌∙◌, arith}
use Rattle.std.proofs.lemmas.Bool.Decides.{nat_tests}
use Rattle.std.proofs.lemmas.List.{append-nil}
use Rattle.std.specs.Prelude.{codes}
use Rattle.std.specs.List.{list_all}
use Rattle.irs_xml.specs.Characters.{is_white_space, rest_after, is_name_start, is_name_char, is_nc_name}
use Rattle.irs_xml.specs.Content.{Content, nothing, character, content_text, is_char_data, IsTagIn, IsElement}
use Rattle.irs_xml.specs.Content.{IsContent}
use Rattle.irs_xml.specs.Document.{IsDocument, root_namespace, is_fpml}
use Rattle.irs_xml.specs.Tags.{Scope, first_scope, opening_of, is_opened, is_declaration, declared_prefix, may_declare}
use Rattle.irs_xml.specs.Tags.{is_lawful, namespace_of, scope_in, settings_of}
use Rattle.std.specs.Char.{encode_utf8}
use Rattle.irs_emit_xml.specs.Trees.{Node, leaf, branch, Nodes, no_nodes, node, indent, fpml_namespace, is_letter}
use Rattle.irs_emit_xml.specs.Trees.{is_tag_name, is_unescaped, IsNode, IsNodes, IsRoot}
use Rattle.irs_emit_xml.proofs.Spelling.{plain_tag, characters, element_of, content_of, namespace_attribute, root_tag}
use Rattle.irs_emit_xml.proofs.Spelling.{root_of, document_of}

-- where two tests both hold, each holds
pub both_true : (a b : Bool) → a && b ≡ true → (a ≡ true) × (b ≡ true)
both_true true b e = (refl, e)
both_true false b e = absurd (cc e)

-- where each of two tests holds, both hold
pub true_both : (a b : Bool) → a ≡ true → b ≡ true → a && b ≡ true
true_both a b e f = rw (e) f

-- what holds of every character of a kind holds of all characters of a list
pub all_then : (p q : ℕ → Bool) (cs : List ℕ) → ((c : ℕ) → p c ≡ true → q c ≡ true) → list_all p cs ≡ true
    → list_all q cs ≡ true
all_then p q [] law h = refl
all_then p q (c ∷ cs) law h =
    let b = both_true (p c) (list_all p cs) h in true_both (q c) (list_all q cs) (law c b.0) (all_then p q cs law b.1)

-- ---- names

letter_starts : (c : ℕ) → is_letter c ≡ true → is_name_start c ≡ true
unfolding is_letter is_name_start
letter_starts c h = grind (arith, nat_tests)

start_char : (c : ℕ) → is_name_start c ≡ true → is_name_char c ≡ true
unfolding is_name_char
start_char c h = rw h refl

name_is : (name : List ℕ) → is_tag_name name ≡ true → is_nc_name name ≡ true
name_is [] h = h
name_is (c ∷ cs) h =
    let b = both_true (is_letter c) (list_all is_letter cs) h in
    true_both (is_name_start c) (list_all is_name_char cs) (letter_starts c b.0)
    (all_then is_letter is_name_char cs (λ x k. start_char x (letter_starts x k)) b.1)

-- ---- texts

-- a character that is no markup, nor `]`
abbrev is_bare : ℕ → Bool
is_bare x = is_char_data x && not (x == 93)

plain_bare : (x : ℕ) → is_unescaped x ≡ true → is_bare x ≡ true
unfolding is_unescaped
plain_bare x h = grind (arith, nat_tests)

not_true : (b : Bool) → not b ≡ true → b ≡ false
not_true true e = absurd (cc e)
not_true false e = refl

no_bracket : (x : ℕ) (cs : List ℕ) → nat_eq x 93 ≡ false → rest_after (codes "]]>") (x ∷ cs) ≡ None
no_bracket x cs e = rw e refl

characters_are : (levels : ℕ) (scope : Scope) (cs : List ℕ) (c : Content) → list_all is_bare cs ≡ true
    → IsContent levels scope c
    → IsContent levels scope (characters cs c)
characters_are levels scope [] c h k = k
characters_are levels scope (x ∷ cs) c h k =
    let b = both_true (is_bare x) (list_all is_bare cs) h in
    let d = both_true (is_char_data x) (not (x == 93)) b.0 in (
      d.0,
      no_bracket x (content_text (characters cs c)) (not_true (nat_eq x 93) d.1),
      characters_are levels scope cs c b.1 k,
    )

indent_bare : (k : ℕ) → list_all is_bare (indent k) ≡ true
indent_bare zero = refl
indent_bare (suc k) = indent_bare k

-- ---- elements

-- an element without a prefix is in this namespace
pub record IsHome (root : List ℕ) (scope : Scope) : Type 0 where
  pub found : namespace_of scope [] ≡ Some root

-- an element without attributes leaves the scope as it is
pub home_stays : (root : List ℕ) (scope : Scope) → IsHome root scope → namespace_of (scope ++ []) [] ≡ Some root
home_stays root scope inner = ap (λ s. namespace_of s []) (append-nil scope) ∙ inner.found

tag_opened : (root : List ℕ) (scope : Scope) (name : List ℕ) → IsHome root scope
    → is_opened scope (opening_of (plain_tag name)) ≡ true
tag_opened root scope name inner = let e = home_stays root scope inner in rw e refl

tag_is : (root : List ℕ) (scope : Scope) (name : List ℕ) → IsHome root scope → is_tag_name name ≡ true
    → IsTagIn scope (plain_tag name)
tag_is root scope name inner h = record {
  spelt = true_both (is_nc_name name) true (name_is name h) refl;
  few = omega arith;
  opened = tag_opened root scope name inner;
}

mutual
  node_is : (root : List ℕ) (scope : Scope) (levels k : ℕ) (n : Node) → IsHome root scope → IsNode levels n
      → IsElement levels scope (element_of k n)
  node_is root scope zero k (leaf name text) inner h = absurd h
  node_is root scope zero k (branch name ns) inner h = absurd h
  node_is root scope (suc levels) k (leaf name text) inner h = (
    tag_is root scope name inner h.0,
    characters_are levels (scope ++ []) text nothing (all_then is_unescaped is_bare text plain_bare h.1) tt,
    refl,
  )
  node_is root scope (suc levels) k (branch name ns) inner h = (
    tag_is root scope name inner h.0,
    subst (λ s. IsContent levels s (character 10 (content_of (suc k) ns (characters (indent k) nothing))))
        (sym (append-nil scope)) (
          refl,
          refl,
          nodes_are root scope levels (suc k) ns (characters (indent k) nothing) inner h.2
              (characters_are levels scope (indent k) nothing (indent_bare k) tt),
        ),
    refl,
  )

  nodes_are : (root : List ℕ) (scope : Scope) (levels k : ℕ) (ns : Nodes) (c : Content) → IsHome root scope
      → IsNodes levels ns
      → IsContent levels scope c → IsContent levels scope (content_of k ns c)
  nodes_are root scope levels k no_nodes c inner h after = after
  nodes_are root scope levels k (node n ns) c inner h after =
      characters_are levels scope (indent k) _ (indent_bare k)
      (node_is root scope levels k n inner h.0, (refl, refl, nodes_are root scope levels k ns c inner h.1 after))

-- ---- the document

-- what is in scope in the root
unfoldable pub home : Scope
home = scope_in first_scope (settings_of (namespace_attribute ∷ []))

-- elements without a prefix are in the namespace of FpML
pub at_home : IsHome fpml_namespace home
unfolding home first_scope is_declaration declared_prefix encode_utf8 is_white_space
at_home = record { found = refl }

root_opened : (name : List ℕ) → is_opened first_scope (opening_of (root_tag name)) ≡ true
unfolding first_scope is_declaration declared_prefix may_declare is_lawful encode_utf8 is_white_space
root_opened name = refl

root_tag_is : (name : List ℕ) → is_tag_name name ≡ true → IsTagIn first_scope (root_tag name)
unfolding is_white_space is_name_start is_name_char
root_tag_is name h = record {
  spelt = true_both (is_nc_name name) true (name_is name h) refl;
  few = omega arith;
  opened = root_opened name;
}

root_is : (name : List ℕ) (ns : Nodes) → IsRoot name ns → IsElement 63 first_scope (root_of name ns)
unfolding home
root_is name ns h = (
  root_tag_is name h.named,
  (refl, refl, nodes_are fpml_namespace home 62 1 ns nothing at_home h.nested tt),
  refl,
)

-- the root is in the namespace of FpML
pub root_at : (name : List ℕ) → root_namespace (opening_of (root_tag name)) ≡ Some fpml_namespace
unfolding first_scope is_declaration declared_prefix encode_utf8 is_white_space
root_at name = refl

-- the document follows the rules
pub document_is : (name : List ℕ) (ns : Nodes) → IsRoot name ns → IsDocument (document_of name ns)
unfolding is_white_space
document_is name ns h = record {
  declared = refl;
  before = refl;
  root = root_is name ns h;
  fpml = ap is_fpml (root_at name);
  behind = refl;
}
