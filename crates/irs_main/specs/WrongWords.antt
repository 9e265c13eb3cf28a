-- The words of a command line, and what is said of words that are no listed command.
use Rattle.std.specs.Prelude.{ℕ, List, [], Option, Some, None, slice_get, ◌∷◌, codes}
use Rattle.std.specs.Prelude.{if◌then◌else◌, ◌≡◌, ◌⊎◌, ◌==◌, ◌||◌, ◌&&◌, Bool, false, ◌++◌, ◌+◌, ◌-◌, not, nat_eq}
use Rattle.std.specs.Prelude.{nat_lt, length}
use Rattle.std.specs.Str.{bytes_eq}
use Rattle.std.specs.List.{ends_with}
use Rattle.irs_base.specs.Limits.{most_files}
use Rattle.irs_main.specs.Shown.{front, after_byte}

-- ---- the words of a command line; the first word is the command

-- a word that may be absent
abbrev pub word_or_none : Option (List ℕ) → List ℕ
word_or_none None = []
word_or_none (Some word) = word

-- the word at a place, where the command has place 0; empty past the last one
abbrev pub word_at : List (List ℕ) → ℕ → List ℕ
word_at words place = word_or_none (slice_get words place)

-- the command
abbrev pub command : List (List ℕ) → List ℕ
command words = word_at words 0

-- ---- the listed commands, how one of them is called, and what their parameters have to be

-- a line a command: its name and what it takes
unfoldable pub commands : List (List ℕ)
commands =
    codes "check DOC CAL.."
    ∷ codes "schedule DOC FIX CAL.."
    ∷ codes "audit DOC FIX FLOWS CAL.."
    ∷ codes "breaks FROM DOC FIX FLOWS CAL.."
    ∷ codes "emit DOC FIX CAL.."
    ∷ codes "emit-xml DOC FIX CAL.."
    ∷ codes "net DOC FIX CAL.."
    ∷ codes "accrue DATE DOC FIX CAL.."
    ∷ codes "observations STREAM DOC FIX CAL.."
    ∷ codes "overnight STREAM DOC DAILY CAL.."
    ∷ codes "average STREAM KIND STEP DOC FIX CAL.."
    ∷ codes "interpolate STREAM SIDE LOW HIGH DOC FIX CAL.."
    ∷ codes "carrier DOC"
    ∷ codes "bulk N"
    ∷ []

-- a line a parameter: its name in the lines above, and what it has to be
unfoldable pub parameter_lines : List (List ℕ)
parameter_lines =
    codes "DOC a file"
    ∷ codes "FIX a file or -"
    ∷ codes "FLOWS a file"
    ∷ codes "DAILY a file or -"
    ∷ codes "DATE a date YYYY-MM-DD"
    ∷ codes "FROM a date YYYY-MM-DD, or - for all"
    ∷ codes "STREAM a number from 1 to 8"
    ∷ codes "KIND plain or weighted"
    ∷ codes "STEP a number of days or weeks, such as 1D"
    ∷ codes "SIDE initial or final"
    ∷ codes "LOW a period such as 1M"
    ∷ codes "HIGH a period such as 3M"
    ∷ codes "N a number from 1 to 500"
    ∷ []

-- the line with this name, empty where there is none
abbrev pub usage_line : List (List ℕ) → List ℕ → List ℕ
usage_line [] name = []
usage_line (line ∷ lines) name = if bytes_eq (front 32 line) name then line else usage_line lines name

-- how the command with this name is called, empty where it isn't listed
abbrev pub usage_of : List ℕ → List ℕ
usage_of name = usage_line commands name

-- ---- words that differ by one slip of the one who types
-- A letter is left out, one is too many, one is in place of another, or two neighbours are exchanged. A letter is a
-- byte.

-- a text lacks one letter of another
pub record LacksOneLetter (text other : List ℕ) : Type 0 where
  pub front : List ℕ
  pub letter : ℕ
  pub rest : List ℕ
  pub is_text : text ≡ front ++ rest
  pub is_other : other ≡ front ++ letter ∷ rest

-- a text has one letter in place of another
pub record Replaces (text other : List ℕ) : Type 0 where
  pub front : List ℕ
  pub typed : ℕ
  pub meant : ℕ
  pub rest : List ℕ
  pub differ : typed ≡ meant → ⊥
  pub is_text : text ≡ front ++ typed ∷ rest
  pub is_other : other ≡ front ++ meant ∷ rest

-- a text has two neighbours in the other order
pub record Exchanges (text other : List ℕ) : Type 0 where
  pub front : List ℕ
  pub first : ℕ
  pub second : ℕ
  pub rest : List ℕ
  pub differ : first ≡ second → ⊥
  pub is_text : text ≡ front ++ first ∷ second ∷ rest
  pub is_other : other ≡ front ++ second ∷ first ∷ rest

-- one slip is between what was typed and what was meant
abbrev pub IsSlip : List ℕ → List ℕ → Type 0
IsSlip typed meant = LacksOneLetter typed meant ⊎ (LacksOneLetter meant typed ⊎ (Replaces typed meant ⊎ Exchanges typed meant))

-- ---- the test for it

-- the first two letters of two texts are exchanged, and the others are the same
abbrev pub is_exchanged : List ℕ → List ℕ → Bool
is_exchanged [] other = false
is_exchanged (a ∷ []) other = false
is_exchanged (a ∷ b ∷ rest) [] = false
is_exchanged (a ∷ b ∷ rest) (c ∷ []) = false
is_exchanged (a ∷ b ∷ rest) (c ∷ d ∷ others) = (a == d) && ((b == c) && bytes_eq rest others)

-- one slip is at the front of two texts, which begin with different letters
abbrev pub is_slip_here : ℕ → List ℕ → ℕ → List ℕ → Bool
is_slip_here t typed m meant =
    bytes_eq (t ∷ typed) meant
    || (bytes_eq typed (m ∷ meant) || (bytes_eq typed meant || is_exchanged (t ∷ typed) (m ∷ meant)))

-- one slip is between two texts: it is where they first differ
abbrev pub is_slip : List ℕ → List ℕ → Bool
is_slip [] [] = false
is_slip [] (m ∷ meant) = bytes_eq meant []
is_slip (t ∷ typed) [] = bytes_eq typed []
is_slip (t ∷ typed) (m ∷ meant) = if t == m then is_slip typed meant else is_slip_here t typed m meant

-- ---- what is said of words that are no listed command, as parts that are joined

-- ---- the line of a command: its name and what it takes, with spaces between them

-- the field at a place of a line, where its first has place 0; empty past the last one
abbrev pub field_at : List ℕ → ℕ → List ℕ
field_at [] place = []
field_at (b ∷ bs) place =
    if place == 0 then front 32 (b ∷ bs) else (if b == 32 then field_at bs (place - 1) else field_at bs place)

-- how many fields a line has
abbrev pub field_count : List ℕ → ℕ
field_count [] = 1
field_count (b ∷ bs) = if b == 32 then field_count bs + 1 else field_count bs

-- the command takes calendars after its other words
abbrev pub takes_calendars : List ℕ → Bool
takes_calendars usage = ends_with nat_eq usage (codes " CAL..")

-- the most words that the command takes, its name among them
abbrev pub most_words : List ℕ → ℕ
most_words usage = if takes_calendars usage then field_count usage - 1 + most_files else field_count usage

-- ---- words for help other than `--help` alone

-- the word asks for help
abbrev pub is_help : List ℕ → Bool
is_help word = bytes_eq word (codes "--help") || bytes_eq word (codes "-h")

-- the word, as the command, asks for help
abbrev pub is_help_command : List ℕ → Bool
is_help_command word = is_help word || bytes_eq word (codes "help")

-- what is said of words for help, with the line of the command if there is one
abbrev pub helped : List ℕ → List (List ℕ)
helped [] = codes "irs --help explains the commands" ∷ []
helped (b ∷ bs) = codes "irs --help explains this command: " ∷ (b ∷ bs) ∷ []

-- ---- a command that isn't listed

-- the first listed command with a name that is one slip away; empty where there is none
abbrev pub nearest : List (List ℕ) → List ℕ → List ℕ
nearest [] typed = []
nearest (line ∷ lines) typed = if is_slip typed (front 32 line) then front 32 line else nearest lines typed

-- what is said of a command that isn't listed, and the listed one that may be meant
abbrev pub unknown : List ℕ → List ℕ → List (List ℕ)
unknown typed [] = codes "these words are no listed command: " ∷ codes "irs --help lists them" ∷ []
unknown typed (b ∷ bs) = codes "no command " ∷ typed ∷ codes ": did you mean " ∷ (b ∷ bs) ∷ codes "?" ∷ []

-- ---- words that don't fit a listed command

-- a word is lacking, and it is no calendar
abbrev pub is_lacking : List ℕ → Bool
is_lacking [] = false
is_lacking (b ∷ bs) = not (bytes_eq (b ∷ bs) (codes "CAL.."))

-- what a parameter has to be, by its name
abbrev pub needs_of : List ℕ → List ℕ
needs_of name = after_byte 32 (usage_line parameter_lines name)

-- what is said where the word of this parameter is lacking
abbrev pub lacking : List ℕ → List ℕ → List (List ℕ)
lacking name parameter = name ∷ codes " needs " ∷ parameter ∷ codes ": " ∷ needs_of parameter ∷ []

-- how many calendars there may be, where the command takes any
abbrev pub most_told : List ℕ → List ℕ
most_told usage = if takes_calendars usage then codes ", with at most 16 calendar files" else []

-- what is said of words that don't fit a listed command, which is called in this way
abbrev pub misfit : List (List ℕ) → List ℕ → List (List ℕ)
misfit words usage =
    if is_help (word_at words (length words - 1)) then helped usage
    else (if is_lacking (field_at usage (length words)) then lacking (command words) (field_at usage (length words))
    else (if nat_lt (most_words usage) (length words)
    then codes "too many words for the command: " ∷ usage ∷ most_told usage ∷ []
    else codes "these words don't fit the command: " ∷ usage ∷ []))

-- what is said of words that are no listed command, by the line of their command
abbrev pub unlisted_as : List (List ℕ) → List ℕ → List (List ℕ)
unlisted_as words [] = unknown (command words) (nearest commands (command words))
unlisted_as words (b ∷ bs) = misfit words (b ∷ bs)

-- what is said of words that are no listed command
abbrev pub unlisted : List (List ℕ) → List (List ℕ)
unlisted words =
    if is_help_command (command words) then helped (usage_of (word_at words 1))
    else unlisted_as words (usage_of (command words))
