-- The document of XML's grammar that a root and elements are, and how it is spelt.
use Rattle.std.proofs.Common.{◌≡◌, ℕ, suc, List, [], ◌∷◌, ◌++◌, map, Some, None, refl, sym, ap, ◌∙◌, append_assoc}
use Rattle.std.proofs.lemmas.List.{append-nil}
use Rattle.std.specs.Prelude.{codes}
use Rattle.irs_xml.specs.Content.{Element, full, Content, nothing, character, child, element_text, content_text}
use Rattle.irs_xml.specs.Document.{Pair, Declaration, declaration_text, blank, misc_text, Document, document_text}
use Rattle.irs_xml.specs.Tags.{plain, Attribute, Tag}
use Rattle.irs_emit_xml.specs.Trees.{Node, leaf, branch, Nodes, no_nodes, node, indent, close_text, node_text}
use Rattle.irs_emit_xml.specs.Trees.{nodes_text, declared_text, fpml_namespace, namespace_text, root_open_text}
use Rattle.irs_emit_xml.specs.Trees.{written_text}

-- the tag of an element without attributes
abbrev pub plain_tag : List ℕ → Tag
plain_tag name = record { name = record { prefix = []; local = name }; attributes = []; space = [] }

-- characters, and the content after them
abbrev pub characters : List ℕ → Content → Content
characters [] c = c
characters (x ∷ cs) c = character x (characters cs c)

abbrev mutual
  -- an element of the grammar, with this many levels round it
  pub element_of : ℕ → Node → Element
  element_of k (leaf name text) = full (plain_tag name) (characters text nothing) []
  element_of k (branch name ns) =
      full (plain_tag name) (character 10 (content_of (suc k) ns (characters (indent k) nothing))) []

  -- elements on their lines, and the content after them
  pub content_of : ℕ → Nodes → Content → Content
  content_of k no_nodes c = c
  content_of k (node n ns) c = characters (indent k) (child (element_of k n) (character 10 (content_of k ns c)))

characters_text : (cs : List ℕ) (c : Content) → content_text (characters cs c) ≡ cs ++ content_text c
characters_text [] c = refl
characters_text (x ∷ cs) c = ap (λ t. x ∷ t) (characters_text cs c)

alone_text : (cs : List ℕ) → content_text (characters cs nothing) ≡ cs
alone_text cs = characters_text cs nothing ∙ append-nil cs

leaf_lines : (i name text rest : List ℕ)
    → i ++ ((60 ∷ ((name ++ []) ++ (62 ∷ (text ++ (60 ∷ 47 ∷ (name ++ 62 ∷ [])))))) ++ 10 ∷ rest)
    ≡ (i ++ (60 ∷ (name ++ (62 ∷ (text ++ (60 ∷ 47 ∷ (name ++ 62 ∷ 10 ∷ []))))))) ++ rest
leaf_lines i name text rest = simp (append_assoc, append-nil)

branch_lines : (i name lines rest : List ℕ)
    → i ++ ((60 ∷ ((name ++ []) ++ (62 ∷ 10 ∷ ((lines ++ i) ++ (60 ∷ 47 ∷ (name ++ 62 ∷ [])))))) ++ 10 ∷ rest)
    ≡ ((i ++ (60 ∷ (name ++ 62 ∷ 10 ∷ []))) ++ (lines ++ (i ++ (60 ∷ 47 ∷ (name ++ 62 ∷ 10 ∷ []))))) ++ rest
branch_lines i name lines rest = simp (append_assoc, append-nil)

mutual
  node_spelt : (k : ℕ) (n : Node) (rest : List ℕ)
      → indent k ++ (element_text (element_of k n) ++ 10 ∷ rest) ≡ node_text k n ++ rest
  node_spelt k (leaf name text) rest =
      ap (λ t. indent k ++ ((60 ∷ ((name ++ []) ++ (62 ∷ (t ++ (60 ∷ 47 ∷ (name ++ 62 ∷ [])))))) ++ 10 ∷ rest))
      (alone_text text)
      ∙ leaf_lines (indent k) name text rest
  node_spelt k (branch name ns) rest =
      ap (λ t. indent k ++ ((60 ∷ ((name ++ []) ++ (62 ∷ 10 ∷ (t ++ (60 ∷ 47 ∷ (name ++ 62 ∷ [])))))) ++ 10 ∷ rest))
      (nodes_spelt (suc k) ns (characters (indent k) nothing)
      ∙ ap (λ t. nodes_text (suc k) ns ++ t) (alone_text (indent k)))
      ∙ branch_lines (indent k) name (nodes_text (suc k) ns) rest

  nodes_spelt : (k : ℕ) (ns : Nodes) (c : Content)
      → content_text (content_of k ns c) ≡ nodes_text k ns ++ content_text c
  nodes_spelt k no_nodes c = refl
  nodes_spelt k (node n ns) c =
      characters_text (indent k) (child (element_of k n) (character 10 (content_of k ns c)))
      ∙ node_spelt k n (content_text (content_of k ns c))
      ∙ ap (λ t. node_text k n ++ t) (nodes_spelt k ns c)
      ∙ sym (append_assoc (node_text k n) (nodes_text k ns) (content_text c))

-- ---- the document

-- the declaration of the root's namespace
abbrev pub namespace_attribute : Attribute
namespace_attribute = record {
  gap = 32 ∷ [];
  name = record { prefix = []; local = codes "xmlns" };
  before = [];
  after = [];
  quote = 34;
  pieces = map plain fpml_namespace;
}

-- the root's start tag
abbrev pub root_tag : List ℕ → Tag
root_tag name = record {
  name = record { prefix = []; local = name };
  attributes = namespace_attribute ∷ [];
  space = [];
}

-- the root, with elements
abbrev pub root_of : List ℕ → Nodes → Element
root_of name ns = full (root_tag name) (character 10 (content_of 1 ns nothing)) []

abbrev pair_of : List ℕ → Pair
pair_of word = record { gap = 32 ∷ []; before = []; after = []; quote = 34; word = word }

-- version 1.0 and UTF-8
abbrev pub declaration_of : Declaration
declaration_of = record {
  version = pair_of (codes "1.0");
  encoding = Some (pair_of (codes "UTF-8"));
  standalone = None;
  space = [];
}

-- the whole document
abbrev pub document_of : List ℕ → Nodes → Document
document_of name ns = record {
  declaration = Some declaration_of;
  before = blank 10 ∷ [];
  root = root_of name ns;
  behind = blank 10 ∷ [];
}

root_lines : (name att lines : List ℕ)
    → (60 ∷ ((name ++ att) ++ (62 ∷ 10 ∷ (lines ++ (60 ∷ 47 ∷ (name ++ 62 ∷ [])))))) ++ 10 ∷ []
    ≡ (60 ∷ (name ++ (att ++ 62 ∷ 10 ∷ []))) ++ (lines ++ (60 ∷ 47 ∷ (name ++ 62 ∷ 10 ∷ [])))
root_lines name att lines = simp append_assoc

root_spelt : (name : List ℕ) (ns : Nodes)
    → element_text (root_of name ns) ++ 10 ∷ [] ≡ root_open_text name ++ (nodes_text 1 ns ++ close_text 0 name)
unfolding namespace_text
root_spelt name ns =
    ap (λ t. (60 ∷ ((name ++ namespace_text) ++ (62 ∷ 10 ∷ (t ++ (60 ∷ 47 ∷ (name ++ 62 ∷ [])))))) ++ 10 ∷ [])
    (nodes_spelt 1 ns nothing ∙ append-nil (nodes_text 1 ns))
    ∙ root_lines name namespace_text (nodes_text 1 ns)

front_spelt : (rest : List ℕ) → declaration_text (Some declaration_of) ++ (misc_text (blank 10 ∷ []) ++ rest)
    ≡ declared_text ++ rest
unfolding declared_text
front_spelt rest = refl

-- the document is spelt as it is written
pub document_spelt : (name : List ℕ) (ns : Nodes) → document_text (document_of name ns) ≡ written_text name ns
unfolding written_text
document_spelt name ns =
    front_spelt (element_text (root_of name ns) ++ 10 ∷ []) ∙ ap (λ t. declared_text ++ t) (root_spelt name ns)
