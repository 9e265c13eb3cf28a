-- Elements that are written as XML, and values as XML carries them.
use Rattle.serde_json.specs.Data.{Data, null, boolean, number, string, array, object, Items, no_items, item, Members}
use Rattle.serde_json.specs.Data.{no_members, member}
use Rattle.std.specs.Prelude.{◌≡◌, ℕ, zero, suc, Bool, true, false, not, ◌&&◌, ◌||◌, ◌==◌, List, [], ◌∷◌, ◌++◌, codes}
use Rattle.std.specs.Int.{is_in_range}
use Rattle.std.specs.List.{list_all}
use Rattle.irs_xml.specs.Document.{root_key}
use Rattle.irs_xml.specs.Content.{Child, with_children}

-- ---- a value as XML carries it
-- In JSON one value of a list is an array of one. In XML it is an element like any other, so its value is no array.

-- an array of one value is that value
abbrev pub value_alone : Items → Data
value_alone no_items = array no_items
value_alone (item d no_items) = d
value_alone (item d (item e ds)) = array (item d (item e ds))

-- a value with each array of one value replaced by that value, at every depth
abbrev mutual
  -- a value
  pub ones : Data → Data
  ones null = null
  ones (boolean b) = boolean b
  ones (number n) = number n
  ones (string s) = string s
  ones (array ds) = value_alone (ones_items ds)
  ones (object ms) = object (ones_members ms)

  -- the items of an array
  pub ones_items : Items → Items
  ones_items no_items = no_items
  ones_items (item d ds) = item (ones d) (ones_items ds)

  -- the members of an object
  pub ones_members : Members → Members
  ones_members no_members = no_members
  ones_members (member k d ms) = member k (ones d) (ones_members ms)

-- ---- elements that are written as XML: what they are, how they are spelt, and what they mean
-- An element has a name, and a text or elements. Attributes aren't written, but for the root's namespace.

mutual
  -- an element: its name, and its text or the elements in it
  pub data Node : Type 0 where
    leaf : List ℕ → List ℕ → Node
    branch : List ℕ → Nodes → Node

  -- elements, one after another
  pub data Nodes : Type 0 where
    no_nodes : Nodes
    node : Node → Nodes → Nodes

-- ---- how they are spelt

-- two spaces for each level
abbrev pub indent : ℕ → List ℕ
indent zero = []
indent (suc k) = 32 ∷ 32 ∷ indent k

-- an end tag, and the end of its line
abbrev pub end_tag_text : List ℕ → List ℕ
end_tag_text name = codes "</" ++ (name ++ 62 ∷ 10 ∷ [])

-- the line of an element that has a text
abbrev pub leaf_text : ℕ → List ℕ → List ℕ → List ℕ
leaf_text k name text = indent k ++ (60 ∷ (name ++ (62 ∷ (text ++ end_tag_text name))))

-- the line of a start tag
abbrev pub open_text : ℕ → List ℕ → List ℕ
open_text k name = indent k ++ (60 ∷ (name ++ 62 ∷ 10 ∷ []))

-- the line of an end tag
abbrev pub close_text : ℕ → List ℕ → List ℕ
close_text k name = indent k ++ end_tag_text name

-- an element with this many levels round it, and elements one after another. Tags round elements are lines of their own
abbrev mutual
  -- an element on its lines
  pub node_text : ℕ → Node → List ℕ
  node_text k (leaf name text) = leaf_text k name text
  node_text k (branch name ns) = open_text k name ++ (nodes_text (suc k) ns ++ close_text k name)

  -- the lines of elements
  pub nodes_text : ℕ → Nodes → List ℕ
  nodes_text k no_nodes = []
  nodes_text k (node n ns) = node_text k n ++ nodes_text k ns

-- a word in quotes
abbrev pub quoted : List ℕ → List ℕ
quoted word = 34 ∷ (word ++ 34 ∷ [])

-- the XML declaration and the end of its line
unfoldable pub declared_text : List ℕ
declared_text = codes "<?xml version="
    ++ (quoted (codes "1.0") ++ (codes " encoding=" ++ (quoted (codes "UTF-8") ++ (codes "?>" ++ 10 ∷ []))))

-- the namespace of FpML 5, the view for confirmation
abbrev pub fpml_namespace : List ℕ
fpml_namespace = codes "http://www.fpml.org/FpML-5/confirmation"

-- the declaration of the root's namespace
unfoldable pub namespace_text : List ℕ
namespace_text = codes " xmlns=" ++ quoted fpml_namespace

-- the line of the root's start tag
abbrev pub root_open_text : List ℕ → List ℕ
root_open_text name = 60 ∷ (name ++ (namespace_text ++ 62 ∷ 10 ∷ []))

-- a document: the XML declaration, and a root with elements
unfoldable pub written_text : List ℕ → Nodes → List ℕ
written_text name ns = declared_text ++ (root_open_text name ++ (nodes_text 1 ns ++ close_text 0 name))

-- ---- what can be written so

-- a letter from A to Z or a to z
unfoldable pub is_letter : ℕ → Bool
is_letter c = is_in_range 65 90 c || is_in_range 97 122 c

-- a name of letters
abbrev pub is_tag_name : List ℕ → Bool
is_tag_name [] = false
is_tag_name (c ∷ cs) = is_letter c && list_all is_letter cs

-- an ASCII character that can be written as itself: from the space to `~`, but not `&`, `<`, or `]`, which might begin
-- `]]>`
unfoldable pub is_unescaped : ℕ → Bool
is_unescaped c = is_in_range 32 126 c && (not (c == 38) && (not (c == 60) && not (c == 93)))

-- there is an element
abbrev pub IsFilled : Nodes → Type 0
IsFilled no_nodes = ⊥
IsFilled (node n ns) = Unit {0}

-- elements whose names are of letters, whose texts need no escape, and that nest at most this many levels
abbrev mutual
  -- an element of these; one without a text has elements
  pub IsNode : ℕ → Node → Type 0
  IsNode zero (leaf name text) = ⊥
  IsNode zero (branch name ns) = ⊥
  IsNode (suc levels) (leaf name text) = (is_tag_name name ≡ true) × (list_all is_unescaped text ≡ true)
  IsNode (suc levels) (branch name ns) = (is_tag_name name ≡ true) × IsFilled ns × IsNodes levels ns

  -- each is one of these
  pub IsNodes : ℕ → Nodes → Type 0
  IsNodes levels no_nodes = Unit {0}
  IsNodes levels (node n ns) = IsNode levels n × IsNodes levels ns

-- a root with elements, which nest at most 62 levels in it
pub record IsRoot (name : List ℕ) (ns : Nodes) : Type 0 where
  pub named : is_tag_name name ≡ true
  pub filled : IsFilled ns
  pub nested : IsNodes 62 ns

-- ---- what they mean

-- an element's name
abbrev pub node_name : Node → List ℕ
node_name (leaf name text) = name
node_name (branch name ns) = name

-- a text is a string, and elements are the members of an object. Elements of one name are an array, in order
abbrev mutual
  -- the value of an element
  pub node_value : Node → Data
  node_value (leaf name text) = string text
  node_value (branch name ns) = object (with_children (children_of ns) no_members)

  -- elements by their names and values
  pub children_of : Nodes → List Child
  children_of no_nodes = []
  children_of (node n ns) = (node_name n, node_value n) ∷ children_of ns

-- a document means an object with one member, for its root
unfoldable pub written_value : List ℕ → Nodes → Data
written_value name ns = object (member (root_key name) (object (with_children (children_of ns) no_members)) no_members)
