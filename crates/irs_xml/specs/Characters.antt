-- Characters, names, references and comments: XML 1.0 (fifth edition), 2 and 4.
use Rattle.std.specs.Prelude.{◌≡◌, ℕ, Bool, true, false, ◌&&◌, ◌||◌, ◌==◌, List, [], ◌∷◌, if◌then◌else◌, ◌++◌, ◌+◌, ◌*◌}
use Rattle.std.specs.Prelude.{codes, not, Option, Some, None, is_none}
use Rattle.std.specs.Int.{is_in_range}
use Rattle.std.specs.List.{list_all}
use Rattle.std.specs.Str.{encode_utf8_all, chars, str_eq_ignore_ascii_case}
use Rattle.std.specs.Char.{is_digit, digit_value}

-- ---- characters, white space and line ends: XML 1.0 (fifth edition), 2.2, 2.3 and 2.11

-- [2] Char: tab, LF, CR, and any character from the space on other than U+FFFE and U+FFFF
unfoldable pub is_char : ℕ → Bool
is_char c =
    c == 9 || c == 10 || c == 13 || is_in_range 0x20 0xD7FF c || is_in_range 0xE000 0xFFFD c
    || is_in_range 0x1_0000 0x10_FFFF c

-- white space: space, tab, LF or CR
unfoldable pub is_white_space : ℕ → Bool
is_white_space c = c == 32 || c == 9 || c == 10 || c == 13

-- S?: white space or nothing
abbrev pub is_white : List ℕ → Bool
is_white cs = list_all is_white_space cs

-- [3] S: one character of white space or more
abbrev pub is_gap : List ℕ → Bool
is_gap [] = false
is_gap (c ∷ cs) = is_white_space c && is_white cs

-- 2.11: CR LF is one LF, and so is a CR alone; after_return says that a CR comes before
unfoldable pub ends_after : Bool → List ℕ → List ℕ
ends_after after_return [] = []
ends_after after_return (c ∷ cs) =
    if c == 13 then 10 ∷ ends_after true cs
    else (if after_return && c == 10 then ends_after false cs else c ∷ ends_after false cs)

-- the characters as XML counts them, each end of a line one LF
abbrev pub line_ends : List ℕ → List ℕ
line_ends cs = ends_after false cs

-- the characters after one byte order mark, where one is in front
abbrev pub without_mark : List ℕ → List ℕ
without_mark [] = []
without_mark (c ∷ cs) = if c == 0xFEFF then cs else c ∷ cs

-- the bytes are the UTF-8 of these characters, each of which XML allows
pub record IsText (bytes cs : List ℕ) : Type 0 where
  pub spelt : bytes ≡ encode_utf8_all cs
  pub allowed : list_all is_char cs ≡ true

-- ---- what a reader has before it

-- the characters of a text, each end of a line one LF
unfoldable pub seen : List ℕ → List ℕ
seen bytes = line_ends (chars bytes)

-- ---- names: XML 1.0 (fifth edition), 2.3, and Namespaces in XML 1.0 (third edition), 3 and 4

-- [4] NameStartChar, but for the colon
unfoldable pub is_name_start : ℕ → Bool
is_name_start c =
    is_in_range 65 90 c || c == 95 || is_in_range 97 122 c || is_in_range 0xC0 0xD6 c || is_in_range 0xD8 0xF6 c
    || is_in_range 0xF8 0x2FF c || is_in_range 0x370 0x37D c || is_in_range 0x37F 0x1FFF c
    || is_in_range 0x200C 0x200D c || is_in_range 0x2070 0x218F c || is_in_range 0x2C00 0x2FEF c
    || is_in_range 0x3001 0xD7FF c || is_in_range 0xF900 0xFDCF c || is_in_range 0xFDF0 0xFFFD c
    || is_in_range 0x1_0000 0xE_FFFF c

-- [4a] NameChar, but for the colon: also `-`, `.`, digits and a few signs that join
unfoldable pub is_name_char : ℕ → Bool
is_name_char c =
    is_name_start c || c == 45 || c == 46 || is_in_range 48 57 c || c == 0xB7 || is_in_range 0x300 0x36F c
    || is_in_range 0x203F 0x2040 c

-- [4] of Namespaces, NCName: a name without a colon
abbrev pub is_nc_name : List ℕ → Bool
is_nc_name [] = false
is_nc_name (c ∷ cs) = is_name_start c && list_all is_name_char cs

-- [7] of Namespaces, QName: a prefix, empty where there is none, and a local part
pub record QName : Type 0 where
  pub prefix : List ℕ
  pub local : List ℕ

-- [8] PrefixedName and [9] UnprefixedName: the prefix and a colon, where there is one, and the local part
abbrev pub prefixed : List ℕ → List ℕ → List ℕ
prefixed [] local = local
prefixed (c ∷ cs) local = (c ∷ cs) ++ 58 ∷ local

-- how a qualified name is spelt
abbrev pub name_text : QName → List ℕ
name_text n = prefixed n.prefix n.local

-- [10] of Namespaces, Prefix, where there is one
abbrev pub is_prefix : List ℕ → Bool
is_prefix [] = true
is_prefix (c ∷ cs) = is_nc_name (c ∷ cs)

-- at most one colon, and a name on either side of it
abbrev pub is_qname : QName → Bool
is_qname n = is_prefix n.prefix && is_nc_name n.local

-- ---- references: XML 1.0 (fifth edition), 4.1 and 4.6
-- No entity can be declared, so only the five predefined ones are.

-- [67] Reference: a predefined entity, or [66] CharRef by decimal or hexadecimal digits
pub data Reference : Type 0 where
  less : Reference
  greater : Reference
  ampersand : Reference
  apostrophe : Reference
  quotation : Reference
  decimal : List ℕ → Reference
  hexadecimal : List ℕ → Reference

-- how a reference is spelt
abbrev pub reference_text : Reference → List ℕ
reference_text less = codes "&lt;"
reference_text greater = codes "&gt;"
reference_text ampersand = codes "&amp;"
reference_text apostrophe = codes "&apos;"
reference_text quotation = codes "&quot;"
reference_text (decimal ds) = codes "&#" ++ (ds ++ codes ";")
reference_text (hexadecimal ds) = codes "&#x" ++ (ds ++ codes ";")

-- the number that digits write after a number that was read before them
abbrev pub number_after_in_base : ℕ → ℕ → List ℕ → ℕ
number_after_in_base base n [] = n
number_after_in_base base n (d ∷ ds) = number_after_in_base base (n * base + digit_value d) ds

-- the character that a reference names
abbrev pub character_of : Reference → ℕ
character_of less = 60
character_of greater = 62
character_of ampersand = 38
character_of apostrophe = 39
character_of quotation = 34
character_of (decimal ds) = number_after_in_base 10 0 ds
character_of (hexadecimal ds) = number_after_in_base 16 0 ds

-- one digit or more: 0 to 9, and by base 16 also a to f and A to F
abbrev pub are_digits : ℕ → List ℕ → Bool
are_digits base [] = false
are_digits base (d ∷ ds) = is_digit d base && list_all (λ x. is_digit x base) ds

-- a reference to a character has digits, and names a character that XML allows
abbrev pub is_reference : Reference → Bool
is_reference less = true
is_reference greater = true
is_reference ampersand = true
is_reference apostrophe = true
is_reference quotation = true
is_reference (decimal ds) = are_digits 10 ds && is_char (number_after_in_base 10 0 ds)
is_reference (hexadecimal ds) = are_digits 16 ds && is_char (number_after_in_base 16 0 ds)

-- ---- comments, processing instructions and CDATA sections: XML 1.0 (fifth edition), 2.5, 2.6 and 2.7

-- what follows a word, where the characters begin with it
abbrev pub rest_after : List ℕ → List ℕ → Option (List ℕ)
rest_after [] cs = Some cs
rest_after (w ∷ ws) [] = None
rest_after (w ∷ ws) (c ∷ cs) = if c == w then rest_after ws cs else None

-- the word begins nowhere in the characters
abbrev pub lacks : List ℕ → List ℕ → Bool
lacks word [] = true
lacks word (c ∷ cs) = is_none (rest_after word (c ∷ cs)) && lacks word cs

-- [15] Comment: no `--` in it, nor a `-` at its end
abbrev pub is_comment_text : List ℕ → Bool
is_comment_text cs = lacks (codes "--") (cs ++ codes "-")

-- how a comment is spelt
abbrev pub comment_text : List ℕ → List ℕ
comment_text cs = codes "<!--" ++ (cs ++ codes "-->")

-- [20] CData: no `]]>` in it
abbrev pub is_cdata : List ℕ → Bool
is_cdata cs = lacks (codes "]]>") cs

-- [18] CDSect
abbrev pub cdata_text : List ℕ → List ℕ
cdata_text cs = codes "<![CDATA[" ++ (cs ++ codes "]]>")

-- [16] PI: its target, and all that comes between the target and `?>`
pub record Instruction : Type 0 where
  pub target : List ℕ
  pub body : List ℕ

-- white space comes between the target and what follows
abbrev pub is_apart : List ℕ → Bool
is_apart [] = true
is_apart (c ∷ cs) = is_white_space c

-- `xml` in any case
abbrev pub is_xml : List ℕ → Bool
is_xml name = str_eq_ignore_ascii_case name (codes "xml")

-- [17] PITarget: a name without a colon, other than `xml`; and no `?>` before the end
abbrev pub is_instruction : Instruction → Bool
is_instruction i = (is_nc_name i.target && not (is_xml (encode_utf8_all i.target))) && (is_apart i.body && lacks (codes "?>") i.body)

-- how a processing instruction is spelt
abbrev pub instruction_text : Instruction → List ℕ
instruction_text i = codes "<?" ++ (i.target ++ (i.body ++ codes "?>"))
