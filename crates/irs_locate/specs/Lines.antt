-- The line of an element in a text in XML, by the pieces of the text.
use Rattle.std.specs.List.{starts_with}
use Rattle.std.specs.Prelude.{ℕ, ◌+◌, ◌-◌, ◌==◌, Bool, ◌&&◌, ◌||◌, List, [], ◌∷◌, length, drop, Option, Some, None}
use Rattle.std.specs.Prelude.{option_map, nat_eq, slice_index, codes, if◌then◌else◌, ◌≡◌, ◌^◌, ◌<◌, min, true, false}
use Rattle.std.specs.Prelude.{◌++◌, take, slice_get}
use Rattle.std.specs.Str.{bytes_eq}
use Rattle.irs_terms.specs.declared.places.Place.{Place}
use Rattle.irs_locate.specs.Ways.{WayStep, way}

-- ---- the pieces of a text in XML: its tags, what is passed over, and plain bytes
-- Any bytes can be read so.

-- ---- what a piece is

-- what a piece is
pub data Mark : Type 0 where
  -- a byte outside of markup
  plain : Mark
  -- a comment, a CDATA section, a processing instruction or a declaration
  passed : Mark
  -- the tag that opens an element of that name
  opening : List ℕ → Mark
  -- the tag of an element of that name that ends at once
  empty : List ℕ → Mark
  -- a tag that ends an element
  closing : Mark

-- a piece, and how many bytes it has
pub record Piece : Type 0 where
  pub mark : Mark
  pub size : ℕ

-- ---- where markup ends

-- how many bytes a text has up to the end of the first `word` in it
abbrev pub past : List ℕ → List ℕ → Option ℕ
past word [] = None
past word (b ∷ bs) =
    if starts_with nat_eq (b ∷ bs) word then Some (length word) else option_map (λ n. n + 1) (past word bs)

-- `'` or `"`
abbrev pub is_quote : ℕ → Bool
is_quote b = b == 39 || b == 34

-- the quote that is open after a byte; 0 is none
abbrev pub quote_after : ℕ → ℕ → ℕ
quote_after quote b = if quote == 0 then (if is_quote b then b else 0) else (if b == quote then 0 else quote)

-- how many bytes a tag has up to its `>`; a `>` in quotes doesn't end it
abbrev pub tag_end : ℕ → List ℕ → Option ℕ
tag_end quote [] = None
tag_end quote (b ∷ bs) =
    if (quote == 0) && (b == 62) then Some 1 else option_map (λ n. n + 1) (tag_end (quote_after quote b) bs)

-- ---- names

-- white space, `/` or `>`: what ends a name
abbrev pub ends_name : ℕ → Bool
ends_name b = b == 32 || b == 9 || b == 10 || b == 13 || b == 47 || b == 62

-- the name that a text begins with
abbrev pub first_name : List ℕ → List ℕ
first_name [] = []
first_name (b ∷ bs) = if ends_name b then [] else b ∷ first_name bs

-- a name after its first `:`, and the name itself where it has none
abbrev pub local_in : List ℕ → List ℕ → List ℕ
local_in name [] = name
local_in name (b ∷ bs) = if b == 58 then bs else local_in name bs

-- a name without its prefix
abbrev pub local_name : List ℕ → List ℕ
local_name name = local_in name name

-- ---- pieces

-- a piece of this many bytes
abbrev pub piece_by : Mark → Option ℕ → Option Piece
piece_by mark size = option_map (λ n. record { mark = mark; size = n }) size

-- a tag of an element, with this many bytes after its `<`. A `/` right before its `>` says that the element ends
-- at once
abbrev pub mark_of : List ℕ → ℕ → Mark
mark_of text n =
    if slice_index text (n - 1) == 47 then empty (local_name (first_name (drop 1 text))) else opening
    (local_name (first_name (drop 1 text)))

-- the tag of an element that a text begins with
abbrev pub tag_piece : List ℕ → Option Piece
tag_piece text = option_map (λ n. record { mark = mark_of text n; size = n + 1 }) (tag_end 0 (drop 1 text))

-- how many bytes a text has up to the end of the first `word` after its first k bytes
abbrev pub past_all : ℕ → List ℕ → List ℕ → Option ℕ
past_all k word text = option_map (λ n. n + k) (past word (drop k text))

-- the markup that a text begins with; None where it doesn't end
unfoldable pub markup_of : List ℕ → Option Piece
markup_of text =
    if starts_with nat_eq text (codes "<!--") then piece_by passed (past_all 4 (codes "-->") text) else
    (if starts_with nat_eq text (codes "<![CDATA[") then piece_by passed (past_all 9 (codes "]]>") text) else
    (if starts_with nat_eq text (codes "<?") then piece_by passed (past_all 2 (codes "?>") text) else
    (if starts_with nat_eq text (codes "<!") then piece_by passed (past_all 2 (codes ">") text) else
    (if starts_with nat_eq text (codes "</") then piece_by closing (past_all 2 (codes ">") text) else tag_piece text))))

-- the piece that a text begins with; None where there is no text, or markup doesn't end
unfoldable pub piece_of : List ℕ → Option Piece
piece_of [] = None
piece_of (b ∷ bs) = if b == 60 then markup_of (b ∷ bs) else Some (record { mark = plain; size = 1 })

-- ---- the line of an element in a text in XML, from 1

-- ---- lines

-- the line after the bytes that begin in this line: LF ends a line. All lines beyond the last number have it too
abbrev pub lines_from : ℕ → List ℕ → ℕ
lines_from line [] = line
lines_from line (b ∷ bs) = if b == 10 then lines_from (min (line + 1) (2 ^ 32 - 1)) bs else lines_from line bs

-- the line of what comes after the bytes, from 1
abbrev pub line_after : List ℕ → ℕ
line_after bytes = lines_from 1 bytes

-- ---- open elements

-- The elements that are open at a place of the text, as lists of names. The first list has the names of the elements
-- so far in the innermost open element, the last one first. The second has those in the element around it, and so on.
-- The last list has those of the document itself. So the first name of each list but the first is that of an open
-- element.
abbrev pub Open : Type 0
Open = List (List (List ℕ))

-- one more element of that name in the innermost open element
abbrev pub with_child : List ℕ → Open → Open
with_child name [] = (name ∷ []) ∷ []
with_child name (names ∷ around) = (name ∷ names) ∷ around

-- what is open after an element ends
abbrev pub around : Open → Open
around [] = []
around (names ∷ rest) = rest

-- what is open after a piece
abbrev pub open_after : Mark → Open → Open
open_after plain lists = lists
open_after passed lists = lists
open_after (opening name) lists = [] ∷ with_child name lists
open_after (empty name) lists = with_child name lists
open_after closing lists = around lists

-- after the first n bytes of the text, which are whole pieces, these elements are open
pub data IsOpenAfter (text : List ℕ) : ℕ → Open → Type 0 where
  -- at the front
  front : IsOpenAfter text 0 ([] ∷ [])
  -- one piece further
  further : (n : ℕ) (lists : Open) (p : Piece) → IsOpenAfter text n lists → piece_of (drop n text) ≡ Some p
      → IsOpenAfter text (n + p.size) (open_after p.mark lists)

-- ---- the way to an element

-- how many of the names are this one
abbrev pub times_in : List ℕ → List (List ℕ) → ℕ
times_in name [] = 0
times_in name (n ∷ ns) = if bytes_eq n name then times_in name ns + 1 else times_in name ns

-- the last element of these names, with its number
abbrev pub last_step : List (List ℕ) → List WayStep
last_step [] = []
last_step (name ∷ names) = record { name = name; number = times_in name names + 1 } ∷ []

-- the way from the root to the last element of the first list, which lies in the elements of the other lists
abbrev pub way_to : Open → List WayStep
way_to [] = []
way_to (names ∷ around) = way_to around ++ last_step names

-- a tag of an element of that name: one that opens it, or that of an element that ends at once
pub data IsTagOf (name : List ℕ) : Option Piece → Type 0 where
  opens : (size : ℕ) → IsTagOf name (Some (record { mark = opening name; size = size }))
  ends_at_once : (size : ℕ) → IsTagOf name (Some (record { mark = empty name; size = size }))

-- a tag that ends an element
abbrev pub is_closing : Mark → Bool
is_closing plain = false
is_closing passed = false
is_closing (opening name) = false
is_closing (empty name) = false
is_closing closing = true

-- an end tag, or no piece any more: what ends the innermost open element
abbrev pub is_end : Option Piece → Bool
is_end None = true
is_end (Some p) = is_closing p.mark

-- ---- the line of an element

-- an element with this tag has no element for the next step of the way in it. It ends at once. Or it ends where it
-- holds elements of these names, and fewer than the step's number have its name. Or the text can't be read to its end
pub data LacksElement (text : List ℕ) (lists : Open) (next : WayStep) : Option Piece → Type 0 where
  ended_at_once : (name : List ℕ) (size : ℕ) → LacksElement text lists next (Some (record { mark = empty name; size = size }))
  too_few : (tag : Option Piece) (n : ℕ) (names : List (List ℕ)) → IsOpenAfter text n (names ∷ lists)
      → is_end (piece_of (drop n text)) ≡ true → times_in next.name names < next.number → LacksElement text lists next tag
  cut_off : (tag : Option Piece) (n : ℕ) (inner : Open) (names : List (List ℕ)) → IsOpenAfter text n (inner ++ names ∷ lists)
      → piece_of (drop n text) ≡ None → LacksElement text lists next tag

-- an element of the text on the way to the place, the last one there is
pub record IsLast (text : List ℕ) (place : Place) (at : ℕ) : Type 0 where
  -- the name of the root, and that of the element, and those open around it
  pub root : List ℕ
  pub name : List ℕ
  pub lists : Open
  -- its tag is there
  pub within : IsOpenAfter text at lists
  pub tag : IsTagOf name (piece_of (drop at text))
  -- the way to it is the first part of the way to the place
  pub count : ℕ
  pub leads : way_to (with_child name lists) ≡ take count (way root place)
  -- and the way ends there, or its next element isn't there
  pub last : (next : WayStep) → slice_get (way root place) count ≡ Some next
      → LacksElement text (with_child name lists) next (piece_of (drop at text))

-- up to here the text has no element, and nothing more can be read
abbrev pub HasNone : List ℕ → Type 0
HasNone text = (n : ℕ) × (IsOpenAfter text n ([] ∷ []) × (is_end (piece_of (drop n text)) ≡ true))

-- the line is that of the element at the place, or of the last one on the way that is there, and 1 without any
pub data IsLineOf (text : List ℕ) (place : Place) : ℕ → Type 0 where
  element : (at : ℕ) → IsLast text place at → IsLineOf text place (line_after (take at text))
  nothing : HasNone text → IsLineOf text place 1
