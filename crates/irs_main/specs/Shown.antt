-- Texts of a sentence: its parts, words and names as it shows them, and lists of centres.
use Rattle.std.specs.Prelude.{ℕ, ◌+◌, ◌==◌, List, [], ◌∷◌, take, drop, if◌then◌else◌, ◌++◌, ◌||◌, ◌&&◌, ◌/◌, ◌%◌, Bool}
use Rattle.std.specs.Prelude.{nat_lt, nat_le, codes, ◌≡◌, ◌≤◌, not, length, Option, Some, None, decimal}
use Rattle.std.specs.Char.{encode_utf8}
use Rattle.std.specs.List.{flat_map}
use Rattle.std.specs.Str.{chars}
use Rattle.irs_answers.specs.declared.listed.Listed.{Listed}
use Rattle.irs_answers.specs.declared.listed.Listed.TheVariants.{NoFile, Named}

-- ---- cutting a text at a byte: the names of a path, and the words of a command's line

-- how many bytes come before the first one that is `end`; all of them where there is none
abbrev pub length_before : ℕ → List ℕ → ℕ
length_before end [] = 0
length_before end (b ∷ bs) = if b == end then 0 else length_before end bs + 1

-- the text before the first byte that is `end`
abbrev pub front : ℕ → List ℕ → List ℕ
front end text = take (length_before end text) text

-- the text after the first byte that is `end`
abbrev pub after_byte : ℕ → List ℕ → List ℕ
after_byte end text = drop (length_before end text + 1) text

-- ---- a sentence as parts that are written one after the other

-- texts one after the other
abbrev pub joined_texts : List (List ℕ) → List ℕ
joined_texts [] = []
joined_texts (text ∷ texts) = text ++ joined_texts texts

-- ---- a word of the command line as a sentence shows it: characters that control a terminal are shown by their numbers

-- the character of a digit in base 16
abbrev pub hex_digit : ℕ → ℕ
hex_digit n = if nat_lt n 10 then 48 + n else 87 + n

-- the two lowest digits of a number in base 16
abbrev pub two_hex_digits : ℕ → List ℕ
two_hex_digits n = hex_digit (n / 16 % 16) ∷ hex_digit (n % 16) ∷ []

-- U+0000 to U+001F and U+007F to U+009F: the controls of the two sets C0 and C1, and DEL
abbrev pub is_control : ℕ → Bool
is_control c = nat_lt c 32 || (nat_le 127 c && nat_le c 159)

-- U+061C, U+200E, U+200F, U+202A to U+202E and U+2066 to U+2069, which turn the direction of a text,
-- and U+2028 and U+2029, which end its lines
abbrev pub turns_text : ℕ → Bool
turns_text c =
    c == 1_564 || (nat_le 8_206 c && nat_le c 8_207) || (nat_le 8_232 c && nat_le c 8_238)
    || (nat_le 8_294 c && nat_le c 8_297)

-- a character as it is shown: \x and two digits for a control, \u and four for one that turns the text
abbrev pub shown_char : ℕ → List ℕ
shown_char c =
    if is_control c then codes "\\x" ++ two_hex_digits c
    else (if turns_text c then codes "\\u" ++ two_hex_digits (c / 256) ++ two_hex_digits c else encode_utf8 c)

-- a text as it is shown
abbrev pub shown : List ℕ → List ℕ
shown text = flat_map shown_char (chars text)

-- a byte that no control has: a space or above, and not DEL
abbrev pub IsPrinted : ℕ → Type 0
IsPrinted b = (32 ≤ b) × (b ≡ 127 → ⊥)

-- ---- a name from a document as a sentence shows it: one line of visible ASCII

-- a byte that is shown as it is: a space to ~, but no backslash
abbrev pub is_shown_as_it_is : ℕ → Bool
is_shown_as_it_is b = nat_le 32 b && nat_le b 126 && not (b == 92)

-- a byte as it is shown: itself, or \x and two digits in base 16
abbrev pub shown_byte : ℕ → List ℕ
shown_byte b = if is_shown_as_it_is b then b ∷ [] else codes "\\x" ++ two_hex_digits b

-- bytes as they are shown
abbrev pub shown_bytes : List ℕ → List ℕ
shown_bytes bytes = flat_map shown_byte bytes

-- the most bytes of a name that are shown
abbrev pub most_shown : ℕ
most_shown = 128

-- the first bytes of a name, as many as are shown
abbrev pub shown_front : List ℕ → List ℕ
shown_front name = shown_bytes (take most_shown name)

-- three dots after a name that isn't shown whole
abbrev pub dots : List ℕ → List ℕ
dots name = if nat_lt most_shown (length name) then codes "..." else []

-- a byte that each terminal shows: a space to ~
abbrev pub IsVisible : ℕ → Type 0
IsVisible b = (32 ≤ b) × (b ≤ 126)

-- ---- the centres that the calendar files have, as a sentence lists them

-- a name as it is shown, after other words
abbrev pub name_after : List ℕ → List ℕ → List ℕ
name_after before name = joined_texts (before ∷ shown_front name ∷ dots name ∷ [])

-- another name
abbrev pub other_name : List ℕ → List ℕ
other_name name = name_after (codes ", ") name

-- the names after the first
abbrev pub names_after_first : List (List ℕ) → List ℕ
names_after_first [] = []
names_after_first (name ∷ names) = other_name name ++ names_after_first names

-- how many more there are
abbrev pub count_text : ℕ → List ℕ
count_text more = joined_texts (codes " and " ∷ decimal more ∷ codes " more" ∷ [])

-- the same, where there are more
abbrev pub more_text : ℕ → List ℕ
more_text more = if more == 0 then [] else count_text more

-- the names after the first, and how many more there are
abbrev pub later_names : List (List ℕ) → ℕ → List ℕ
later_names names more = names_after_first names ++ more_text more

-- a first name, the names after it, and how many more there are
abbrev pub names_from : List ℕ → List (List ℕ) → ℕ → List ℕ
names_from name names more = name_after (codes "; the calendar files have ") name ++ later_names names more

-- these names, and how many more there are
abbrev pub names_text : List (List ℕ) → ℕ → List ℕ
names_text [] more = codes "; the calendar files have no centre"
names_text (name ∷ names) more = names_from name names more

-- the centres that the calendar files have
abbrev pub listed_centers_text : Listed → List ℕ
listed_centers_text NoFile = codes "; no calendar file was given"
listed_centers_text (Named names more) = names_text names more

-- the same, where there is a list
abbrev pub centers_text : Option Listed → List ℕ
centers_text None = []
centers_text (Some list) = listed_centers_text list
