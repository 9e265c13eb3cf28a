-- Tags, their attributes and their namespaces.
use Rattle.std.specs.Prelude.{ℕ, Bool, true, not, ◌&&◌, ◌||◌, ◌==◌, List, [], ◌∷◌, ◌++◌, if◌then◌else◌, false, Option}
use Rattle.std.specs.Prelude.{Some, None, is_some, codes}
use Rattle.std.specs.Char.{encode_utf8}
use Rattle.std.specs.List.{list_all, list_any}
use Rattle.std.specs.Str.{bytes_eq, encode_utf8_all}
use Rattle.irs_xml.specs.Characters.{is_white_space, is_white, is_gap, QName, name_text, is_qname, Reference}
use Rattle.irs_xml.specs.Characters.{reference_text, character_of, is_reference}

-- ---- attributes and tags: XML 1.0 (fifth edition), 2.3, 3.1 and 3.3.3

-- a piece of an attribute's value: a plain character, or a reference
pub data ValuePiece : Type 0 where
  plain : ℕ → ValuePiece
  refers : Reference → ValuePiece

-- how a piece is spelt
abbrev pub piece_text : ValuePiece → List ℕ
piece_text (plain c) = c ∷ []
piece_text (refers r) = reference_text r

-- 3.3.3: white space that isn't referred to is a space
abbrev pub piece_character : ValuePiece → ℕ
piece_character (plain c) = if is_white_space c then 32 else c
piece_character (refers r) = character_of r

-- a plain character is neither `<` nor `&`, nor the quote that ends the value
abbrev pub is_piece : ℕ → ValuePiece → Bool
is_piece quote (plain c) = not (c == 60) && (not (c == 38) && not (c == quote))
is_piece quote (refers r) = is_reference r

-- how the pieces of a value are spelt, one after another
abbrev pub pieces_text : List ValuePiece → List ℕ
pieces_text [] = []
pieces_text (p ∷ ps) = piece_text p ++ pieces_text ps

-- every piece of a value follows the rules under this quote
abbrev pub are_pieces : ℕ → List ValuePiece → Bool
are_pieces quote [] = true
are_pieces quote (p ∷ ps) = is_piece quote p && are_pieces quote ps

-- what an attribute's value says, in UTF-8
abbrev pub pieces_value : List ValuePiece → List ℕ
pieces_value [] = []
pieces_value (p ∷ ps) = encode_utf8 (piece_character p) ++ pieces_value ps

-- [41] Attribute: the white space before it, its name, [25] Eq, and [10] AttValue
pub record Attribute : Type 0 where
  pub gap : List ℕ
  pub name : QName
  pub before : List ℕ
  pub after : List ℕ
  pub quote : ℕ
  pub pieces : List ValuePiece

-- how an attribute is spelt, with the white space before it
abbrev pub attribute_text : Attribute → List ℕ
attribute_text a =
    a.gap ++ (name_text a.name ++ (a.before ++ (61 ∷ (a.after ++ (a.quote ∷ (pieces_text a.pieces ++ a.quote ∷ []))))))

-- `"` or `'`
abbrev pub is_quote : ℕ → Bool
is_quote c = c == 34 || c == 39

-- white space has to come before each attribute
abbrev pub is_spaced_attribute : Attribute → Bool
is_spaced_attribute a =
    is_gap a.gap && (is_qname a.name && (is_white a.before && (is_white a.after
    && (is_quote a.quote && are_pieces a.quote a.pieces))))

-- how the attributes of a tag are spelt, one after another
abbrev pub attributes_text : List Attribute → List ℕ
attributes_text [] = []
attributes_text (a ∷ rest) = attribute_text a ++ attributes_text rest

-- every attribute of a tag follows the rules
abbrev pub are_attributes : List Attribute → Bool
are_attributes [] = true
are_attributes (a ∷ rest) = is_spaced_attribute a && are_attributes rest

-- what [40] STag and [44] EmptyElemTag share: a name, attributes, and white space at the end
pub record Tag : Type 0 where
  pub name : QName
  pub attributes : List Attribute
  pub space : List ℕ

-- the tag up to its `>` or `/>`
abbrev pub tag_text : Tag → List ℕ
tag_text t = 60 ∷ (name_text t.name ++ (attributes_text t.attributes ++ t.space))

-- the parts of a tag follow the rules
abbrev pub is_tag : Tag → Bool
is_tag t = is_qname t.name && (are_attributes t.attributes && is_white t.space)

-- ---- namespaces in XML 1.0 (third edition): which namespace a prefix names, and what a tag may declare

-- an attribute by its prefix, its local part and what its value says, in UTF-8
pub record Setting : Type 0 where
  pub prefix : List ℕ
  pub local : List ℕ
  pub value : List ℕ

-- what a tag says: its name and its attributes, declarations included
pub record Opening : Type 0 where
  pub prefix : List ℕ
  pub local : List ℕ
  pub settings : List Setting

-- what an attribute says, in UTF-8
abbrev pub setting_of : Attribute → Setting
setting_of a = record {
  prefix = encode_utf8_all a.name.prefix;
  local = encode_utf8_all a.name.local;
  value = pieces_value a.pieces;
}

-- what each attribute says
abbrev pub settings_of : List Attribute → List Setting
settings_of [] = []
settings_of (a ∷ rest) = setting_of a ∷ settings_of rest

-- what a tag says, in UTF-8
abbrev pub opening_of : Tag → Opening
opening_of t = record {
  prefix = encode_utf8_all t.name.prefix;
  local = encode_utf8_all t.name.local;
  settings = settings_of t.attributes;
}

-- the declarations in scope, from the outermost on: a prefix, empty for the default, and the name of its namespace,
-- empty for none
abbrev pub Scope : Type 0
Scope = List (List ℕ × List ℕ)

-- the namespace that `xml` is bound to
abbrev pub xml_namespace : List ℕ
xml_namespace = codes "http://www.w3.org/XML/1998/namespace"

-- the namespace that `xmlns` is bound to
abbrev pub xmlns_namespace : List ℕ
xmlns_namespace = codes "http://www.w3.org/2000/xmlns/"

-- what is in scope round the root: no default, and the two prefixes that are bound by definition
unfoldable pub first_scope : Scope
first_scope = (codes "", codes "") ∷ (codes "xml", xml_namespace) ∷ (codes "xmlns", xmlns_namespace) ∷ []

-- the namespace that the last declaration of the prefix names, found being that of an earlier one
abbrev pub latest : Option (List ℕ) → Scope → List ℕ → Option (List ℕ)
latest found [] prefix = found
latest found (d ∷ ds) prefix = latest (if bytes_eq d.0 prefix then Some d.1 else found) ds prefix

-- the namespace of a prefix, and of an element without a prefix; none where the prefix isn't declared
abbrev pub namespace_of : Scope → List ℕ → Option (List ℕ)
namespace_of scope prefix = latest None scope prefix

-- the attribute `xmlns` or one with the prefix `xmlns`
unfoldable pub is_declaration : Setting → Bool
is_declaration s = bytes_eq s.prefix (codes "xmlns") || (bytes_eq s.prefix (codes "") && bytes_eq s.local (codes "xmlns"))

-- the prefix that a declaration declares, empty for the default
unfoldable pub declared_prefix : Setting → List ℕ
declared_prefix s = if bytes_eq s.prefix (codes "xmlns") then s.local else codes ""

-- the declarations of a tag, in order
abbrev pub declarations : List Setting → Scope
declarations [] = []
declarations (s ∷ ss) = if is_declaration s then (declared_prefix s, s.value) ∷ declarations ss else declarations ss

-- what is in scope in an element
abbrev pub scope_in : Scope → List Setting → Scope
scope_in outer settings = outer ++ declarations settings

-- both hold, or neither does
abbrev pub same_answer : Bool → Bool → Bool
same_answer true b = b
same_answer false b = not b

-- `xmlns` isn't declared, nor its namespace; `xml` and its namespace belong to each other; only the default may be taken away
unfoldable pub may_declare : List ℕ → List ℕ → Bool
may_declare prefix namespace =
    (not (bytes_eq prefix (codes "xmlns")) && not (bytes_eq namespace xmlns_namespace))
    && (same_answer (bytes_eq prefix (codes "xml")) (bytes_eq namespace xml_namespace)
    && (bytes_eq prefix (codes "") || not (bytes_eq namespace (codes ""))))

-- an attribute that declares a namespace may declare it
unfoldable pub is_lawful : Setting → Bool
is_lawful s = if is_declaration s then may_declare (declared_prefix s) s.value else true

-- the namespace of an attribute: none without a prefix, whatever the default is
abbrev pub attribute_namespace : Scope → Setting → Option (List ℕ)
attribute_namespace scope s = if bytes_eq s.prefix (codes "") then Some (codes "") else namespace_of scope s.prefix

-- both are there, and they are one
abbrev pub is_same_namespace : Option (List ℕ) → Option (List ℕ) → Bool
is_same_namespace None b = false
is_same_namespace (Some m) None = false
is_same_namespace (Some m) (Some n) = bytes_eq m n

-- 6.3: one local part, and one namespace or none both; attributes of one name are a case of it
abbrev pub is_like : Scope → Setting → Setting → Bool
is_like scope a b = bytes_eq a.local b.local && is_same_namespace (attribute_namespace scope a) (attribute_namespace scope b)

-- no two attributes of a tag are alike
abbrev pub are_unlike : Scope → List Setting → Bool
are_unlike scope [] = true
are_unlike scope (s ∷ ss) = not (list_any (is_like scope s) ss) && are_unlike scope ss

-- what a tag declares may be declared, its prefixes are declared, its name's isn't `xmlns`, and no attributes are alike
abbrev pub is_opened_in : Scope → Opening → Bool
is_opened_in scope o =
    (list_all is_lawful o.settings && not (bytes_eq o.prefix (codes "xmlns")))
    && (is_some (namespace_of scope o.prefix)
    && (list_all (λ s. is_some (attribute_namespace scope s)) o.settings && are_unlike scope o.settings))

-- the tag follows the rules in this scope
abbrev pub is_opened : Scope → Opening → Bool
is_opened outer o = is_opened_in (scope_in outer o.settings) o
