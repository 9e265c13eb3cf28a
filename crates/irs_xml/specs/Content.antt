-- Elements, their content, and the value of an element.
use Rattle.std.specs.Prelude.{◌≡◌, ℕ, zero, suc, ◌≤◌, Bool, true, not, ◌&&◌, ◌==◌, List, [], ◌∷◌, ◌++◌, None, length}
use Rattle.std.specs.Prelude.{codes, false, Option, Some, if◌then◌else◌, ◌+◌}
use Rattle.std.specs.Char.{encode_utf8}
use Rattle.std.specs.Cmp.Lexicographic.{slice_cmp}
use Rattle.std.specs.Ordering.{nat_cmp, is_eq}
use Rattle.std.specs.Str.{bytes_eq, encode_utf8_all}
use Rattle.serde_json.specs.Data.{Data, null, boolean, number, string, array, object, Items, no_items, item, Members}
use Rattle.serde_json.specs.Data.{no_members, member, put}
use Rattle.serde_json.specs.Find.{get_member}
use Rattle.irs_xml.specs.Characters.{is_white, rest_after, is_comment_text, comment_text, is_cdata, cdata_text}
use Rattle.irs_xml.specs.Characters.{Instruction, is_instruction, instruction_text, name_text, Reference}
use Rattle.irs_xml.specs.Characters.{reference_text, is_reference, character_of}
use Rattle.irs_xml.specs.Tags.{Scope, opening_of, is_opened, scope_in, settings_of, Tag, tag_text, is_tag, Setting}
use Rattle.irs_xml.specs.Tags.{Opening, is_declaration, namespace_of, is_same_namespace}

-- ---- elements and their content: XML 1.0 (fifth edition), 3 and 3.1

mutual
  -- [39] element: an empty-element tag, or a start tag, content, and an end tag, of which the white space is given
  pub data Element : Type 0 where
    empty : Tag → Element
    full : Tag → Content → List ℕ → Element

  -- [43] content: characters, references, CDATA sections, comments, instructions and elements, one after another
  pub data Content : Type 0 where
    nothing : Content
    character : ℕ → Content → Content
    reference : Reference → Content → Content
    cdata : List ℕ → Content → Content
    comment : List ℕ → Content → Content
    instruction : Instruction → Content → Content
    child : Element → Content → Content

-- how elements and content are spelt; the end tag has the name of the start tag
abbrev mutual
  -- a tag alone, or a start tag, its content and its end tag
  pub element_text : Element → List ℕ
  element_text (empty t) = tag_text t ++ codes "/>"
  element_text (full t c space) =
      tag_text t ++ (62 ∷ (content_text c ++ (codes "</" ++ (name_text t.name ++ (space ++ codes ">")))))

  -- the pieces of content, one after another
  pub content_text : Content → List ℕ
  content_text nothing = []
  content_text (character x c) = x ∷ content_text c
  content_text (reference r c) = reference_text r ++ content_text c
  content_text (cdata cs c) = cdata_text cs ++ content_text c
  content_text (comment cs c) = comment_text cs ++ content_text c
  content_text (instruction i c) = instruction_text i ++ content_text c
  content_text (child e c) = element_text e ++ content_text c

-- [14] CharData: neither `<` nor `&`
abbrev pub is_char_data : ℕ → Bool
is_char_data x = not (x == 60) && not (x == 38)

-- the most attributes that a tag may have, declarations counted
abbrev pub most_attributes : ℕ
most_attributes = 64

-- the most elements that may nest
abbrev pub most_levels : ℕ
most_levels = 63

-- a tag that is well formed, by itself and in its namespaces
pub record IsTagIn (scope : Scope) (t : Tag) : Type 0 where
  pub spelt : is_tag t ≡ true
  pub few : length t.attributes ≤ most_attributes
  pub opened : is_opened scope (opening_of t) ≡ true

-- elements and content that follow the rules in this scope, and nest at most `levels` deep
abbrev mutual
  -- an element follows the rules with at least one level left
  pub IsElement : ℕ → Scope → Element → Type 0
  IsElement zero scope (empty t) = ⊥
  IsElement zero scope (full t c space) = ⊥
  IsElement (suc levels) scope (empty t) = IsTagIn scope t
  IsElement (suc levels) scope (full t c space) =
      IsTagIn scope t × IsContent levels (scope_in scope (settings_of t.attributes)) c × (is_white space ≡ true)

  -- no `]]>` begins where a character is
  pub IsContent : ℕ → Scope → Content → Type 0
  IsContent levels scope nothing = Unit {0}
  IsContent levels scope (character x c) =
      (is_char_data x ≡ true) × (rest_after (codes "]]>") (x ∷ content_text c) ≡ None) × IsContent levels scope c
  IsContent levels scope (reference r c) = (is_reference r ≡ true) × IsContent levels scope c
  IsContent levels scope (cdata cs c) = (is_cdata cs ≡ true) × IsContent levels scope c
  IsContent levels scope (comment cs c) = (is_comment_text cs ≡ true) × IsContent levels scope c
  IsContent levels scope (instruction i c) = (is_instruction i ≡ true) × IsContent levels scope c
  IsContent levels scope (child e c) = IsElement levels scope e × IsContent levels scope c

-- ---- the value of an element, as `serde_json` holds values
-- This way to carry FpML elements in JSON is ours.

-- an attribute counts where its name has no prefix, and where it declares no namespace
abbrev pub is_counted : Setting → Bool
is_counted s = bytes_eq s.prefix (codes "") && not (is_declaration s)

-- the members of the attributes that count, after those that are there: `@NAME` with its value
abbrev pub with_settings : List Setting → Members → Members
with_settings [] ms = ms
with_settings (s ∷ ss) ms =
    with_settings ss (if is_counted s then put (64 ∷ s.local) (string s.value) ms else ms)

-- a list with one more at its end
abbrev pub item_last : Items → Data → Items
item_last no_items d = item d no_items
item_last (item e es) d = item e (item_last es d)

-- the values of children of one name: one is itself, several are an array, and no child's value is an array
abbrev pub joined_values : Option Data → Data → Data
joined_values None d = d
joined_values (Some null) d = array (item null (item d no_items))
joined_values (Some (boolean b)) d = array (item (boolean b) (item d no_items))
joined_values (Some (number n)) d = array (item (number n) (item d no_items))
joined_values (Some (string s)) d = array (item (string s) (item d no_items))
joined_values (Some (array ds)) d = array (item_last ds d)
joined_values (Some (object ms)) d = array (item (object ms) (item d no_items))

-- a child: the name of its member, and its value
abbrev pub Child : Type 0
Child = List ℕ × Data

-- the members without that of a name
abbrev pub without : List ℕ → Members → Members
without name no_members = no_members
without name (member k d ms) = if is_eq (slice_cmp nat_cmp name k) then ms else member k d (without name ms)

-- the members with that of a child, whose value joins those of its name that are there
abbrev pub with_child : Child → Members → Members
with_child c ms = put c.0 (joined_values (get_member c.0 ms) c.1) (without c.0 ms)

-- the members with those of the children, in the order of the text
abbrev pub with_children : List Child → Members → Members
with_children [] ms = ms
with_children (c ∷ cs) ms = with_children cs (with_child c ms)

-- an element without children is its text where no attribute counts, and else has its text as `#text`, unless that is white
abbrev pub leaf_value : List ℕ → Members → Data
leaf_value text no_members = string text
leaf_value text (member k d ms) =
    if is_white text then object (member k d ms) else object (put (codes "#text") (string text) (member k d ms))

-- an element with children has no text beside them but white space
abbrev pub value_from : List Setting → List ℕ → List Child → Option Data
value_from settings text [] = Some (leaf_value text (with_settings settings no_members))
value_from settings text (c ∷ cs) =
    if is_white text then Some (object (with_children (c ∷ cs) (with_settings settings no_members))) else None

-- the text directly in an element, in UTF-8; comments and instructions are passed over
abbrev pub text_inside : Content → List ℕ
text_inside nothing = []
text_inside (character x c) = encode_utf8 x ++ text_inside c
text_inside (reference r c) = encode_utf8 (character_of r) ++ text_inside c
text_inside (cdata cs c) = encode_utf8_all cs ++ text_inside c
text_inside (comment cs c) = text_inside c
text_inside (instruction i c) = text_inside c
text_inside (child e c) = text_inside c

-- an element whose namespace is the root's is ours, and every other is foreign
abbrev pub is_ours : List ℕ → Scope → Opening → Bool
is_ours root inner o = is_same_namespace (namespace_of inner o.prefix) (Some root)

-- the name of a child's member: its local part, after a colon where the child is foreign
abbrev pub key_of : Bool → List ℕ → List ℕ
key_of true local = local
key_of false local = 58 ∷ local

-- the first child and those after it, where each has a value
abbrev pub both : Option Child → Option (List Child) → Option (List Child)
both None cs = None
both (Some c) None = None
both (Some c) (Some cs) = Some (c ∷ cs)

-- the value of an element that is kept; one that is foreign, or is in a foreign one, is the empty string
abbrev pub element_data : Bool → List Setting → List ℕ → Option (List Child) → Option Data
element_data false settings text children = Some (string [])
element_data true settings text None = None
element_data true settings text (Some cs) = value_from settings text cs

-- a child's value under its name, where there is a value
abbrev pub named_child : List ℕ → Option Data → Option Child
named_child key None = None
named_child key (Some d) = Some (key, d)

-- the member that an element makes, and those of the elements in content; none where text is beside a child. What a
-- foreign element holds is passed over
abbrev mutual
  -- an element by its name and its value
  pub element_child : List ℕ → Bool → Scope → Element → Option Child
  element_child root kept scope (empty t) =
      let o = opening_of t in
      let ours = is_ours root (scope_in scope o.settings) o in
      named_child (key_of ours o.local) (element_data (kept && ours) o.settings [] (Some []))
  element_child root kept scope (full t c space) =
      let o = opening_of t in
      let ours = is_ours root (scope_in scope o.settings) o in
      named_child (key_of ours o.local) (element_data (kept && ours) o.settings (text_inside c)
      (children_in root (kept && ours) (scope_in scope o.settings) c))

  -- the elements in content, each by its name and its value
  pub children_in : List ℕ → Bool → Scope → Content → Option (List Child)
  children_in root kept scope nothing = Some []
  children_in root kept scope (character x c) = children_in root kept scope c
  children_in root kept scope (reference r c) = children_in root kept scope c
  children_in root kept scope (cdata cs c) = children_in root kept scope c
  children_in root kept scope (comment cs c) = children_in root kept scope c
  children_in root kept scope (instruction i c) = children_in root kept scope c
  children_in root kept scope (child e c) =
      both (element_child root kept scope e) (children_in root kept scope c)

-- ---- how much text a value has

-- the bytes of all strings of a value; names of members aren't counted
abbrev mutual
  -- the bytes of a value's strings
  pub text_size : Data → ℕ
  text_size null = 0
  text_size (boolean b) = 0
  text_size (number n) = 0
  text_size (string s) = length s
  text_size (array ds) = items_size ds
  text_size (object ms) = members_size ms

  -- the bytes of the strings of all items
  pub items_size : Items → ℕ
  items_size no_items = 0
  items_size (item d ds) = text_size d + items_size ds

  -- the bytes of the strings of all members' values
  pub members_size : Members → ℕ
  members_size no_members = 0
  members_size (member k d ms) = text_size d + members_size ms
