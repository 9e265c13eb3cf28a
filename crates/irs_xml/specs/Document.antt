-- Documents, and places in a text.
use Rattle.std.specs.Prelude.{◌≡◌, ℕ, Bool, true, false, ◌&&◌, List, [], ◌∷◌, ◌++◌, Option, Some, None, if◌then◌else◌}
use Rattle.std.specs.Prelude.{codes, map, nat_eq, ◌+◌, ◌≤◌, ◌==◌, length, take}
use Rattle.std.specs.List.{starts_with}
use Rattle.std.specs.Char.{to_ascii_lowercase}
use Rattle.std.specs.Str.{bytes_eq}
use Rattle.serde_json.specs.Data.{Data, object, no_members, member}
use Rattle.irs_xml.specs.Characters.{is_white_space, is_white, is_gap, line_ends, without_mark, IsText, is_comment_text}
use Rattle.irs_xml.specs.Characters.{comment_text, Instruction, is_instruction, instruction_text}
use Rattle.irs_xml.specs.Content.{Element, empty, full, element_text, IsElement, most_levels, Child, element_child}
use Rattle.irs_xml.specs.Tags.{Opening, opening_of, first_scope, scope_in, namespace_of, Tag, is_quote}
use Rattle.irs_xml.specs.declared.reading.XmlErr.{XmlErr}
use Rattle.irs_xml.specs.declared.reading.XmlErr.TheVariants.{NotXml, Memory}

-- ---- a document: XML 1.0 (fifth edition), 2.1, 2.8 and 2.9
-- No document type is allowed, so no entity is declared.

-- a name and a quoted word of the declaration, with the white space round them
pub record Pair : Type 0 where
  pub gap : List ℕ
  pub before : List ℕ
  pub after : List ℕ
  pub quote : ℕ
  pub word : List ℕ

-- how a name and its word are spelt
abbrev pub pair_text : List ℕ → Pair → List ℕ
pair_text name p = p.gap ++ (name ++ (p.before ++ (61 ∷ (p.after ++ (p.quote ∷ (p.word ++ p.quote ∷ []))))))

-- a pair that follows the rules for white space and quotes, with a word of its kind
abbrev pub is_pair : (List ℕ → Bool) → Pair → Bool
is_pair test p = is_gap p.gap && (is_white p.before && (is_white p.after && (is_quote p.quote && test p.word)))

-- [24] VersionInfo: 1.0
abbrev pub is_version : List ℕ → Bool
is_version word = bytes_eq word (codes "1.0")

-- [80] EncodingDecl: UTF-8 in any case
abbrev pub is_encoding : List ℕ → Bool
is_encoding word = bytes_eq (map to_ascii_lowercase word) (codes "utf-8")

-- [32] SDDecl: yes or no
abbrev pub is_standalone : List ℕ → Bool
is_standalone word = if bytes_eq word (codes "yes") then true else bytes_eq word (codes "no")

-- [23] XMLDecl
pub record Declaration : Type 0 where
  pub version : Pair
  pub encoding : Option Pair
  pub standalone : Option Pair
  pub space : List ℕ

-- how a pair is spelt, where there is one
abbrev pub pair_text_if : List ℕ → Option Pair → List ℕ
pair_text_if name None = []
pair_text_if name (Some p) = pair_text name p

-- a pair that isn't required follows its rules where there is one
abbrev pub is_pair_if : (List ℕ → Bool) → Option Pair → Bool
is_pair_if test None = true
is_pair_if test (Some p) = is_pair test p

-- how the XML declaration is spelt, where there is one
abbrev pub declaration_text : Option Declaration → List ℕ
declaration_text None = []
declaration_text (Some d) =
    codes "<?xml" ++ (pair_text (codes "version") d.version ++ (pair_text_if (codes "encoding") d.encoding
    ++ (pair_text_if (codes "standalone") d.standalone ++ (d.space ++ codes "?>"))))

-- the version, then the encoding and whether the document is standalone, where these are given
abbrev pub is_xml_declaration : Option Declaration → Bool
is_xml_declaration None = true
is_xml_declaration (Some d) =
    is_pair is_version d.version && (is_pair_if is_encoding d.encoding
    && (is_pair_if is_standalone d.standalone && is_white d.space))

-- [27] Misc: comments, instructions and white space
pub data Misc : Type 0 where
  blank : ℕ → Misc
  comment : List ℕ → Misc
  instruction : Instruction → Misc

-- how comments, instructions and white space are spelt
abbrev pub misc_text : List Misc → List ℕ
misc_text [] = []
misc_text (blank c ∷ ms) = c ∷ misc_text ms
misc_text (comment cs ∷ ms) = comment_text cs ++ misc_text ms
misc_text (instruction i ∷ ms) = instruction_text i ++ misc_text ms

-- comments, instructions and white space that follow the rules, in any order
abbrev pub is_misc : List Misc → Bool
is_misc [] = true
is_misc (blank c ∷ ms) = is_white_space c && is_misc ms
is_misc (comment cs ∷ ms) = is_comment_text cs && is_misc ms
is_misc (instruction i ∷ ms) = is_instruction i && is_misc ms

-- [1] document and [22] prolog, without a document type
pub record Document : Type 0 where
  pub declaration : Option Declaration
  pub before : List Misc
  pub root : Element
  pub behind : List Misc

-- how a document is spelt
abbrev pub document_text : Document → List ℕ
document_text d =
    declaration_text d.declaration ++ (misc_text d.before ++ (element_text d.root ++ misc_text d.behind))

-- an element's start tag or empty-element tag
abbrev pub tag_of : Element → Tag
tag_of (empty t) = t
tag_of (full t c space) = t

-- the namespace of a root element
abbrev pub root_namespace : Opening → Option (List ℕ)
root_namespace o = namespace_of (scope_in first_scope o.settings) o.prefix

-- a root is FpML 5, of any view, or has no namespace
abbrev pub is_fpml : Option (List ℕ) → Bool
is_fpml None = false
is_fpml (Some []) = true
is_fpml (Some (c ∷ cs)) = starts_with nat_eq (c ∷ cs) (codes "http://www.fpml.org/FpML-5/")

-- a well-formed document: what is round the root follows the rules, and so does the root.
-- The root's namespace is one of FpML 5, or none.
pub record IsDocument (d : Document) : Type 0 where
  pub declared : is_xml_declaration d.declaration ≡ true
  pub before : is_misc d.before ≡ true
  pub root : IsElement most_levels first_scope d.root
  pub fpml : is_fpml (root_namespace (opening_of (tag_of d.root))) ≡ true
  pub behind : is_misc d.behind ≡ true

-- the name of the value's one member, by the local part of the root's name
abbrev pub root_key : List ℕ → List ℕ
root_key local =
    if bytes_eq local (codes "swap") then codes "swap"
    else (if bytes_eq local (codes "trade") then codes "trade" else codes "dataDocument")

-- an object with one member: the root's value under the name of its kind
abbrev pub rooted : List ℕ → Option Child → Option Data
rooted local None = None
rooted local (Some c) = Some (object (member (root_key local) c.1 no_members))

-- the value of a root in its namespace
abbrev pub root_value : Option (List ℕ) → List ℕ → Element → Option Data
root_value None local e = None
root_value (Some namespace) local e = rooted local (element_child namespace true first_scope e)

-- the value that a document means
abbrev pub document_value : Document → Option Data
document_value d =
    let o = opening_of (tag_of d.root) in root_value (root_namespace o) o.local d.root

-- the bytes are a document of XML 1.0 and Namespaces in XML 1.0 that means this value
pub record XmlReads (bytes : List ℕ) (value : Data) : Type 0 where
  pub characters : List ℕ
  pub text : IsText bytes characters
  pub document : Document
  pub well_formed : IsDocument document
  pub spelt : line_ends (without_mark characters) ≡ document_text document
  pub means : document_value document ≡ Some value

-- ---- lines and columns of a text, from 1

-- the place after bytes that begin at this place: LF ends a line
abbrev pub place_after : ℕ → ℕ → List ℕ → ℕ × ℕ
place_after line column [] = (line, column)
place_after line column (b ∷ bs) =
    if b == 10 then place_after (line + 1) 1 bs else place_after line (column + 1) bs

-- the line and the column are those of a byte of the text, or of its end
abbrev pub LiesIn : List ℕ → ℕ → ℕ → Type 0
LiesIn bytes line column = (n : ℕ) × (n ≤ length bytes) × (place_after 1 1 (take n bytes) ≡ (line, column))

-- where an error is about the text, its place lies in the text
abbrev pub PlaceIn : List ℕ → XmlErr → Type 0
PlaceIn bytes (NotXml line column) = LiesIn bytes line column
PlaceIn bytes Memory = Unit {0}

-- where an error is about the text, it has no reading
abbrev pub ReadsNone : List ℕ → XmlErr → Type 0
ReadsNone bytes (NotXml line column) = (d : Data) → ¬ (XmlReads bytes d)
ReadsNone bytes Memory = Unit {0}
