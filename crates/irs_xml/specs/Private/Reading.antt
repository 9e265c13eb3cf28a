-- Private: no public contract rests on this file.
-- Of private functions: how the reader goes through the characters.
use Rattle.std.specs.Prelude.{◌≡◌, ℕ, List, [], ◌∷◌, Option, MatchOption, zero, suc, ◌+◌, ◌*◌, min, Bool, true, false}
use Rattle.std.specs.Prelude.{◌&&◌, ◌==◌, ◌++◌, length, Some, None, Result, Ok, Err, if◌then◌else◌, codes, ◌≢◌, ◌<◌}
use Rattle.std.specs.Prelude.{string_bytes}
use denote.Ref.{Bor}
use Rattle.std.specs.Char.{encode_utf8, is_digit, digit_value, to_ascii_lowercase}
use Rattle.std.specs.Str.{chars, encode_utf8_all}
use Rattle.serde_json.specs.Data.{Data, string, object, Members, no_members, member}
use Rattle.serde_json.specs.View.{members_view}
use Rattle.irs_xml.specs.Characters.{seen, is_char, is_white_space, is_white, rest_after, is_xml, is_name_start}
use Rattle.irs_xml.specs.Characters.{is_name_char}
use Rattle.irs_xml.specs.Content.{most_attributes, Child, is_ours, key_of, leaf_value, with_child, with_settings}
use Rattle.irs_xml.specs.Document.{is_fpml, root_key}
use Rattle.irs_xml.specs.Tags.{Setting, Opening, Scope, first_scope, scope_in, namespace_of, is_opened}
use Rattle.irs_xml.specs.declared.failure.Failure.{Failure}
use Rattle.irs_xml.specs.declared.inside.Inside.{Inside as GivenInside}
use Rattle.irs_xml.specs.declared.content.Mark.{Mark as GivenMark}
use Rattle.irs_xml.specs.declared.document.Word.{Word}
use Rattle.irs_xml.specs.declared.reading.XmlErr.{XmlErr}
use Rattle.irs_xml.specs.declared.failure.Failure.TheVariants as failure
use Rattle.irs_xml.specs.declared.content.Mark.TheVariants as of_mark
use Rattle.irs_xml.specs.declared.document.Word.TheVariants as of_word
use Rattle.irs_xml.specs.declared.reading.XmlErr.TheVariants as xml_err

-- ---- what a reader has before it

-- the first character, and what is left after it
abbrev pub Uncons : List ℕ → Option ℕ → List ℕ → Type 0
Uncons old c new = MatchOption c ((old ≡ []) × (new ≡ [])) (λ x. old ≡ x ∷ new)

-- the first character and the text after it, where there is one
abbrev pub FirstOf : List ℕ → Option (ℕ × Bor (List ℕ)) → Type 0
FirstOf text found = MatchOption found (seen text ≡ []) (λ x. seen text ≡ x.0 ∷ seen x.1.now)

-- ---- how the reader goes through the characters: functions from the characters to what is read and what is left after
-- it
-- The contracts of this crate's own functions cite them. What a document is and means doesn't rest on them.

-- what is read, and the characters after it
abbrev pub Got : Type 0 → Type 0
Got A = Option (A × List ℕ)

infixl 10 ◌>>=◌
-- the next step of reading, where the step before it gave something
abbrev pub ◌>>=◌ : {A B : Type 0} → Option A → (A → Option B) → Option B
(Some x) >>= f = f x
None >>= f = None

-- the first way where it leads on, and else the second
abbrev pub choose : {A B : Type 0} → Option A → (A → Option B) → Option B → Option B
choose (Some x) f other = f x
choose None f other = other

-- what a function returned and what it left is what reading gives; a function that only reads on returns nothing else
abbrev pub Reads : {X Y : Type 0} → (X → Y) → Option X → List ℕ → Got Y → Type 0
Reads view (Some x) new read = read ≡ Some (view x, new)
Reads view None new read = read ≡ None

-- what a function that only reads on left is what reading leaves
abbrev pub Passes : {X : Type 0} → Option X → List ℕ → Option (List ℕ) → Type 0
Passes (Some x) new read = read ≡ Some new
Passes None new read = read ≡ None

-- a word is there and is taken, or it isn't there and nothing is taken
abbrev pub Takes : Bool → List ℕ → List ℕ → Option (List ℕ) → Type 0
Takes true old new read = read ≡ Some new
Takes false old new read = (read ≡ None) × (new ≡ old)

-- something is there and is taken, or it isn't there and nothing is taken
abbrev pub Tries : {X Y : Type 0} → (X → Y) → Option X → List ℕ → List ℕ → Got Y → Type 0
Tries view (Some x) old new read = read ≡ Some (view x, new)
Tries view None old new read = (read ≡ None) × (new ≡ old)

-- a failure: the bytes have no reading, or memory ran out, which says nothing of them
abbrev pub Fails : {Y : Type 0} → Failure → Option Y → Type 0
Fails failure.NotXml read = read ≡ None
Fails failure.Memory read = Unit {0}

-- what a call returned and what it left is what reading gives, where memory may run out
abbrev pub Gives : {X Y : Type 0} → (X → Y) → Result X Failure → List ℕ → Got Y → Type 0
Gives view (Ok x) new read = read ≡ Some (view x, new)
Gives view (Err e) new read = Fails e read

-- the value that a call returned is what reading gives, where memory may run out
abbrev pub GivesValue : {X Y : Type 0} → (X → Y) → Result X Failure → Option Y → Type 0
GivesValue view (Ok x) read = read ≡ Some (view x)
GivesValue view (Err e) read = Fails e read

-- white space

-- what is left after the white space at the front, if any
abbrev pub skip_space : List ℕ → List ℕ
skip_space [] = []
skip_space (c ∷ cs) = if is_white_space c then skip_space cs else c ∷ cs

-- what is left after white space, which has to be there
abbrev pub gap_at : List ℕ → Option (List ℕ)
gap_at [] = None
gap_at (c ∷ cs) = if is_white_space c then Some (skip_space cs) else None

-- names, in UTF-8

-- the characters at the front that a name may go on with
abbrev pub name_run : List ℕ → List ℕ
name_run [] = []
name_run (c ∷ cs) = if is_name_char c then c ∷ name_run cs else []

-- what is left after these characters
abbrev pub name_rest : List ℕ → List ℕ
name_rest [] = []
name_rest (c ∷ cs) = if is_name_char c then name_rest cs else c ∷ cs

-- a name without a colon
abbrev pub name_at : List ℕ → Got (List ℕ)
name_at [] = None
name_at (c ∷ cs) = if is_name_start c then Some (encode_utf8 c ++ encode_utf8_all (name_run cs), name_rest cs) else None

-- the text is the characters of a name, and then what is left
pub record SplitsName (text left : List ℕ) : Type 0 where
  pub run : List ℕ
  pub whole : text ≡ encode_utf8_all run ++ left
  pub is_run : name_run (chars text) ≡ run ++ name_run (chars left)
  pub is_rest : name_rest (chars text) ≡ name_rest (chars left)

-- no character of a name is at the front
pub record EndsName (left : List ℕ) : Type 0 where
  pub no_run : name_run (chars left) ≡ []
  pub no_rest : name_rest (chars left) ≡ chars left

-- a name and the text after it, where one is at the front
abbrev pub NameOf : List ℕ → Option (Bor (List ℕ) × Bor (List ℕ)) → Type 0
NameOf text found =
    MatchOption found (name_at (seen text) ≡ None) (λ x. name_at (seen text) ≡ Some (x.0.now, seen x.1.now))

-- a prefix, empty where there is none, and a local part
unfoldable pub qname_at : List ℕ → Got (List ℕ × List ℕ)
qname_at cs = do
  first ← name_at cs
  choose (rest_after (codes ":") first.1) (λ rest. name_at rest >>= λ local. Some ((first.0, local.0), local.1))
      (Some (([], first.0), first.1))

-- references, after `&`

-- past the last character all numbers are one
abbrev pub capped : ℕ → ℕ
capped n = min n 0x11_0000

-- the digits up to a semicolon, after a number that was read before them
abbrev pub digits_at : ℕ → ℕ → List ℕ → Got ℕ
digits_at base n [] = None
digits_at base n (c ∷ cs) =
    if c == 59 then Some (n, cs)
    else (if is_digit c base then digits_at base (capped (n * base + digit_value c)) cs else None)

-- one digit or more and a semicolon: the number that they write
abbrev pub number_at : ℕ → List ℕ → Got ℕ
number_at base [] = None
number_at base (c ∷ cs) = if is_digit c base then digits_at base (digit_value c) cs else None

-- the character that a number names, which XML has to allow
unfoldable pub character_at : ℕ → List ℕ → Got ℕ
character_at base cs = number_at base cs >>= λ n. if is_char n.0 then Some n else None

-- a predefined entity, or a character by its hexadecimal or decimal number
unfoldable pub reference_at : List ℕ → Got ℕ
reference_at cs =
    choose (rest_after (codes "lt;") cs) (λ rest. Some (60, rest))
    (choose (rest_after (codes "gt;") cs) (λ rest. Some (62, rest))
    (choose (rest_after (codes "amp;") cs) (λ rest. Some (38, rest))
    (choose (rest_after (codes "apos;") cs) (λ rest. Some (39, rest))
    (choose (rest_after (codes "quot;") cs) (λ rest. Some (34, rest))
    (choose (rest_after (codes "#x") cs) (λ rest. character_at 16 rest)
    (choose (rest_after (codes "#") cs) (λ rest. character_at 10 rest) None))))))

-- comments, instructions and CDATA sections, after what opens them

-- after the first place where the mark is
abbrev pub past : List ℕ → List ℕ → Option (List ℕ)
past mark [] = rest_after mark []
past mark (c ∷ cs) = choose (rest_after mark (c ∷ cs)) (λ rest. Some rest) (past mark cs)

-- what is left after a comment, in which the first `--` has to be its end
unfoldable pub comment_at : List ℕ → Option (List ℕ)
comment_at cs = past (codes "--") cs >>= rest_after (codes ">")

-- what is left after a processing instruction, whose target isn't `xml`
unfoldable pub instruction_at : List ℕ → Option (List ℕ)
instruction_at cs = do
  target ← name_at cs
  if is_xml target.0 then None
      else choose (rest_after (codes "?>") target.1) (λ rest. Some rest) (gap_at target.1 >>= past (codes "?>"))

-- the characters before the first `]]>`, appended to a text
abbrev pub data_at : List ℕ → List ℕ → Got (List ℕ)
data_at text [] = None
data_at text (c ∷ cs) =
    choose (rest_after (codes "]]>") (c ∷ cs)) (λ rest. Some (text, rest)) (data_at (text ++ encode_utf8 c) cs)

-- tags, after `<`

-- `=` with white space round it
unfoldable pub equals_at : List ℕ → Option (List ℕ)
equals_at cs = rest_after (codes "=") (skip_space cs) >>= λ rest. Some (skip_space rest)

-- `'` or `"`
unfoldable pub quote_at : List ℕ → Got ℕ
quote_at cs =
    choose (rest_after (codes "'") cs) (λ rest. Some (39, rest))
    (choose (rest_after (34 ∷ []) cs) (λ rest. Some (34, rest)) None)

-- a character of a value, and what follows it: a plain character, or one that a reference names
unfoldable pub value_character_at : ℕ → List ℕ → Got ℕ
value_character_at c cs =
    if c == 60 then None
    else (if c == 38 then reference_at cs else Some (if is_white_space c then 32 else c, cs))

-- the rest of a value, appended to what was read of it; n is the most characters that are looked at
unfoldable pub value_at : ℕ → ℕ → List ℕ → List ℕ → Got (List ℕ)
value_at zero quote text cs = None
value_at (suc n) quote text [] = None
value_at (suc n) quote text (c ∷ cs) =
    if c == quote then Some (text, cs)
    else (value_character_at c cs >>= λ r. value_at n quote (text ++ encode_utf8 r.0) r.1)

-- an attribute: its name, `=`, and its value in quotes
unfoldable pub setting_at : List ℕ → Got Setting
setting_at cs = do
  name ← qname_at cs
  behind ← equals_at name.1
  quote ← quote_at behind
  value ← value_at (length quote.1) quote.0 [] quote.1
  Some (record { prefix = name.0.0; local = name.0.1; value = value.0 }, value.1)

-- the end of a tag, and whether it is of an empty element
unfoldable pub tag_end_at : List ℕ → Got Bool
tag_end_at cs =
    choose (rest_after (codes ">") cs) (λ rest. Some (false, rest))
    (choose (rest_after (codes "/>") cs) (λ rest. Some (true, rest)) None)

-- the attributes of a tag after those that were read, of which n more are allowed, and how the tag ends
unfoldable pub settings_at : ℕ → List Setting → List ℕ → Got (List Setting × Bool)
settings_at zero ss cs = choose (tag_end_at (skip_space cs)) (λ end. Some ((ss, end.0), end.1)) None
settings_at (suc n) ss cs =
    choose (tag_end_at (skip_space cs)) (λ end. Some ((ss, end.0), end.1))
    (gap_at cs >>= λ rest. setting_at rest >>= λ s. settings_at n (ss ++ s.0 ∷ []) s.1)

-- a tag up to its end, and whether it is of an empty element
unfoldable pub tag_at : List ℕ → Got (Opening × Bool)
tag_at cs = do
  name ← qname_at cs
  settings ← settings_at most_attributes [] name.1
  Some ((record { prefix = name.0.0; local = name.0.1; settings = settings.0.0 }, settings.0.1), settings.1)

-- a name, given by what it says in UTF-8
unfoldable pub closing_name_at : List ℕ → List ℕ → List ℕ → Option (List ℕ)
closing_name_at prefix local cs =
    if length prefix == 0 then rest_after (seen local) cs
    else (rest_after (seen prefix) cs >>= rest_after (codes ":") >>= rest_after (seen local))

-- the end of an end tag, after `</`
unfoldable pub closing_at : Opening → List ℕ → Option (List ℕ)
closing_at o cs = closing_name_at o.prefix o.local cs >>= λ rest. rest_after (codes ">") (skip_space rest)

-- content

-- what comes next in content
pub data Mark : Type 0 where
  ending : Mark
  commented : Mark
  sectioned : Mark
  instructed : Mark
  nested : Mark
  referred : Mark
  standing : ℕ → Mark

-- after `<`
unfoldable pub markup_at : List ℕ → Got Mark
markup_at cs =
    choose (rest_after (codes "/") cs) (λ rest. Some (ending, rest))
    (choose (rest_after (codes "!--") cs) (λ rest. Some (commented, rest))
    (choose (rest_after (codes "![CDATA[") cs) (λ rest. Some (sectioned, rest))
    (choose (rest_after (codes "?") cs) (λ rest. Some (instructed, rest)) (Some (nested, cs)))))

-- the next mark of content: `<` and what it begins, `&`, or a character; not `]]>`
unfoldable pub mark_at : List ℕ → Got Mark
mark_at [] = None
mark_at (c ∷ cs) =
    if c == 60 then markup_at cs
    else (if c == 38 then Some (referred, cs)
    else (if c == 93 then choose (rest_after (codes "]>") cs) (λ rest. None) (Some (standing 93, cs))
    else Some (standing c, cs)))

-- what was read of an element: its text, its members, and whether it has a child
pub record Inside : Type 0 where
  pub text : List ℕ
  pub members : Members
  pub has_child : Bool

-- an element of which only the tag was read
abbrev pub begun : List Setting → Inside
begun ss = record { text = []; members = with_settings ss no_members; has_child = false }

-- what was read of an element, with another text
abbrev pub with_text : Inside → List ℕ → Inside
with_text i bytes = record { text = bytes; members = i.members; has_child = i.has_child }

-- what was read of an element, and one more character of its text
abbrev pub with_character : Inside → ℕ → Inside
with_character i c = with_text i (i.text ++ encode_utf8 c)

-- what was read of an element, and one more child
abbrev pub with_one : Inside → Child → Inside
with_one i c = record { text = i.text; members = with_child c i.members; has_child = true }

-- one piece of content: whether it was the end, and what was read of the element so far
unfoldable pub piece_at : (List ℕ → Got Child) → Inside → Mark → List ℕ → Got (Bool × Inside)
piece_at child i ending cs = Some ((true, i), cs)
piece_at child i commented cs = comment_at cs >>= λ rest. Some ((false, i), rest)
piece_at child i sectioned cs = data_at i.text cs >>= λ r. Some ((false, with_text i r.0), r.1)
piece_at child i instructed cs = instruction_at cs >>= λ rest. Some ((false, i), rest)
piece_at child i nested cs = child cs >>= λ r. Some ((false, with_one i r.0), r.1)
piece_at child i referred cs = reference_at cs >>= λ r. Some ((false, with_character i r.0), r.1)
piece_at child i (standing c) cs = Some ((false, with_character i c), cs)

-- content up to its `</`; n is the most pieces that are looked at
unfoldable pub content_at : (List ℕ → Got Child) → ℕ → Inside → List ℕ → Got Inside
content_at child zero i cs = None
content_at child (suc n) i cs = do
  mark ← mark_at cs
  piece ← piece_at child i mark.0 mark.1
  if piece.0.0 then Some (piece.0.1, piece.1) else content_at child n piece.0.1 piece.1

-- the value of an element of which all was read
abbrev pub finished : Bool → Inside → Option Data
finished false i = Some (string [])
finished true i =
    if i.has_child then (if is_white i.text then Some (object i.members) else None)
    else Some (leaf_value i.text i.members)

-- the member that an element makes whose value is this
abbrev pub as_child : Bool → Opening → Option Data → List ℕ → Got Child
as_child ours o None cs = None
as_child ours o (Some d) cs = Some ((key_of ours o.local, d), cs)

-- what was read of an element after its tag: nothing, or its content and its end tag
unfoldable pub filled_at : (List ℕ → Got Child) → Opening × Bool → Inside → List ℕ → Got Inside
filled_at child (o, true) i cs = Some (i, cs)
filled_at child (o, false) i cs = do
  inside ← content_at child (length cs) i cs
  rest ← closing_at o inside.1
  Some (inside.0, rest)

-- an element after its start tag or empty-element tag, in its own scope, by what reads its children
unfoldable pub element_at : (Bool → Scope → List ℕ → Got Child) → List ℕ → Bool → Scope → Opening × Bool → List ℕ → Got Child
element_at child root kept inner tag cs =
    let ours = is_ours root inner tag.0 in
    filled_at (child (kept && ours) inner) tag (begun tag.0.settings) cs
    >>= λ r. as_child ours tag.0 (finished (kept && ours) r.0) r.1

-- an element after its `<`, which nests at most `levels` deep
unfoldable pub child_at : List ℕ → ℕ → Bool → Scope → List ℕ → Got Child
child_at root zero kept outer cs = None
child_at root (suc levels) kept outer cs =
    tag_at cs >>= λ t.
    if is_opened outer t.0.0 then element_at (child_at root levels) root kept (scope_in outer t.0.0.settings) t.0 t.1 else None

-- documents

-- a word in any case
abbrev pub after_any_case : List ℕ → List ℕ → Option (List ℕ)
after_any_case [] cs = Some cs
after_any_case (w ∷ ws) [] = None
after_any_case (w ∷ ws) (c ∷ cs) = if to_ascii_lowercase c == w then after_any_case ws cs else None

-- a quoted word of the declaration, after its name
unfoldable pub quoted_at : (List ℕ → Option (List ℕ)) → List ℕ → Option (List ℕ)
quoted_at word cs = do
  behind ← equals_at cs
  quote ← quote_at behind
  rest ← word quote.1
  rest_after (quote.0 ∷ []) rest

-- the version, `1.0`
abbrev pub version_at : List ℕ → Option (List ℕ)
version_at cs = rest_after (codes "1.0") cs

-- the encoding, `UTF-8` in any case
abbrev pub encoding_at : List ℕ → Option (List ℕ)
encoding_at cs = after_any_case (codes "utf-8") cs

-- whether the document is standalone: `yes` or `no`
abbrev pub standalone_at : List ℕ → Option (List ℕ)
standalone_at cs = choose (rest_after (codes "yes") cs) (λ rest. Some rest) (rest_after (codes "no") cs)

-- a name after white space
abbrev pub name_behind : List ℕ → List ℕ → Option (List ℕ)
name_behind name cs = gap_at cs >>= rest_after name

-- a name and its word, where the name is there after white space
unfoldable pub pair_at : List ℕ → (List ℕ → Option (List ℕ)) → List ℕ → Option (List ℕ)
pair_at name word cs = choose (name_behind name cs) (λ rest. quoted_at word rest) (Some cs)

-- the XML declaration after its `<?xml` and white space
unfoldable pub declared_at : List ℕ → Option (List ℕ)
declared_at cs =
    rest_after (codes "version") cs >>= quoted_at version_at >>= pair_at (codes "encoding") encoding_at
    >>= pair_at (codes "standalone") standalone_at >>= λ rest. rest_after (codes "?>") (skip_space rest)

-- `<?xml` and white space
abbrev pub opening_at : List ℕ → Option (List ℕ)
opening_at cs = rest_after (codes "<?xml") cs >>= gap_at

-- what is left after the XML declaration, if there is one
unfoldable pub declaration_at : List ℕ → Option (List ℕ)
declaration_at cs = choose (opening_at cs) (λ rest. declared_at rest) (Some cs)

-- what may be round the root; n is the most comments and instructions that are looked at
unfoldable pub misc_at : ℕ → List ℕ → Option (List ℕ)
misc_at zero cs = None
misc_at (suc n) cs =
    choose (rest_after (codes "<!--") (skip_space cs)) (λ rest. comment_at rest >>= misc_at n)
    (choose (rest_after (codes "<?") (skip_space cs)) (λ rest. instruction_at rest >>= misc_at n) (Some (skip_space cs)))

-- the value of the root by its member
abbrev pub as_root : Opening → Child × List ℕ → Got Data
as_root o r = Some (object (member (root_key o.local) r.0.1 no_members), r.1)

-- the root's value by its namespace
unfoldable pub root_by : Option (List ℕ) → Scope → Opening × Bool → List ℕ → Got Data
root_by None inner t cs = None
root_by (Some root) inner t cs =
    if is_fpml (Some root) then (element_at (child_at root 62) root true inner t cs >>= as_root t.0) else None

-- the root element after its `<`
unfoldable pub root_at : List ℕ → Got Data
root_at cs =
    tag_at cs >>= λ t.
    if is_opened first_scope t.0.0
    then root_by (namespace_of (scope_in first_scope t.0.0.settings) t.0.0.prefix) (scope_in first_scope t.0.0.settings) t.0 t.1
    else None

-- nothing is left
abbrev pub ended : Data → List ℕ → Option Data
ended d [] = Some d
ended d (c ∷ cs) = None

-- the value of a whole document, with nothing left after it
unfoldable pub document_at : List ℕ → Option Data
document_at cs = do
  behind ← declaration_at cs
  front ← misc_at (suc (length behind)) behind
  rest ← rest_after (codes "<") front
  value ← root_at rest
  end ← misc_at (suc (length value.1)) value.1
  ended value.0 end

-- ---- plain characters, which content may have many of in a row

-- an ASCII character that begins nothing in content: not `&`, `<` or `]`; and not CR, which ends a line
abbrev pub IsPlain : ℕ → Type 0
IsPlain c = (c < 128) × (c ≢ 13) × (c ≢ 38) × (c ≢ 60) × (c ≢ 93)

-- each character is plain
abbrev pub ArePlain : List ℕ → Type 0
ArePlain [] = Unit {0}
ArePlain (c ∷ cs) = IsPlain c × ArePlain cs

-- the text is plain characters, and then what is left
pub record SplitsPlain (text left : List ℕ) : Type 0 where
  pub run : List ℕ
  pub whole : text ≡ run ++ left
  pub plain : ArePlain run

-- these plain characters were in front, and are taken
pub record PlainTaken (run old new : List ℕ) : Type 0 where
  pub plain : ArePlain run
  pub front : old ≡ run ++ new

-- plain characters were in front; they are taken, and appended to what was read of an element
pub record PlainPieces (i : Inside) (cs : List ℕ) (j : Inside) (rest : List ℕ) : Type 0 where
  pub run : List ℕ
  pub taken : PlainTaken run cs rest
  pub text : j ≡ with_text i (i.text ++ run)

-- ---- what was read of an element, as the definitions see it

-- what was read of an element: its text, its members, and whether it has a child
abbrev pub inside_view : GivenInside → Inside
inside_view i = record { text = string_bytes i.text; members = members_view i.members.entries; has_child = i.has_child }

-- ---- what comes next in content, as the definitions see it

-- each mark of the code as the mark of the definitions
abbrev pub mark_view : GivenMark → Mark
mark_view of_mark.Ending = ending
mark_view of_mark.Comment = commented
mark_view of_mark.Section = sectioned
mark_view of_mark.Instruction = instructed
mark_view of_mark.Child = nested
mark_view of_mark.Reference = referred
mark_view (of_mark.Character c) = standing c

-- ---- what reads the words of an XML declaration

-- each word of the declaration by what reads it
abbrev pub word_at : Word → List ℕ → Option (List ℕ)
word_at of_word.Version cs = version_at cs
word_at of_word.Encoding cs = encoding_at cs
word_at of_word.Standalone cs = standalone_at cs

-- ---- lines and columns of a text, from 1

-- the error is about the text
abbrev pub IsNotXml : XmlErr → Type 0
IsNotXml (xml_err.NotXml line column) = Unit {0}
IsNotXml xml_err.Memory = ⊥
