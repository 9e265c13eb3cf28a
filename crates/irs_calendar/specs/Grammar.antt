-- Calendar files: how they spell their sections, and their first faulty line.
use Rattle.std.specs.Prelude.{ℕ, Bool, true, false, ◌&&◌, ◌==◌, List, [], ◌∷◌, length, ℤ, Option, Some, None, nat_le}
use Rattle.std.specs.Prelude.{codes, slice_index_or, slice_set, if◌then◌else◌, ◌+◌, not, ◌++◌, take, drop, ◌≡◌, ◌≤◌}
use Rattle.std.specs.Prelude.{map, pos, ◌+ℤ◌, ◌≤ℤ◌, ◌⊎◌}
use Rattle.std.specs.List.{list_all}
use Rattle.std.specs.Ordering.{int_cmp, is_le}
use Rattle.std.specs.Str.{bytes_eq}
use Rattle.std.specs.Fmt.{decimal}
use Rattle.irs_base.specs.Texts.{date_at, begins_space, fields, lines_of, is_digit}
use Rattle.irs_base.specs.Limits.{most_name, most_holidays}
use Rattle.irs_base.specs.Lists.{Every, Pairs}
use Rattle.irs_calendar.specs.declared.sections.Section.{Section}
use Rattle.irs_calendar.specs.Sections.{AreDistinct, is_named}
use Rattle.irs_calendar.specs.declared.machine.Fault.{Fault}
use Rattle.irs_calendar.specs.declared.machine.Fault.TheVariants.{Syntax, Repeat, TooMany}
use Rattle.irs_calendar.specs.declared.calendars.CalErr.{CalErr}
use Rattle.irs_calendar.specs.declared.calendars.SelErr.{SelErr}
use Rattle.irs_calendar.specs.declared.calendars.CalErr.TheVariants as errors
use Rattle.irs_calendar.specs.declared.calendars.SelErr.TheVariants as choices

-- ---- what the fields of a line say

-- what one line says
pub data Said : Type 0 where
  Nothing : Said
  Center : List ℕ → Said
  Cover : ℤ → ℤ → Said
  Weekend : List Bool → Said
  Holiday : ℤ → Said
  Wrong : Said

-- from ! to ~
abbrev pub is_visible : ℕ → Bool
is_visible b = nat_le 33 b && nat_le b 126

-- 1 to 32 bytes from `!` to `~`; a field is never empty
abbrev pub is_center_field : List ℕ → Bool
is_center_field n = nat_le (length n) most_name && list_all is_visible n

-- what `center` and the fields after it say
abbrev pub said_center : List (List ℕ) → Said
said_center (n ∷ []) = if is_center_field n then Center n else Wrong
said_center _ = Wrong

-- a cover's first day isn't after its last
abbrev pub cover_of : Option ℤ → Option ℤ → Said
cover_of (Some a) (Some b) = if is_le (int_cmp a b) then Cover a b else Wrong
cover_of _ _ = Wrong

-- what `cover` and the fields after it say
abbrev pub said_cover : List (List ℕ) → Said
said_cover (a ∷ b ∷ []) = cover_of (date_at a) (date_at b)
said_cover _ = Wrong

-- the place in the week, from Monday
abbrev pub weekday_place : List ℕ → Option ℕ
weekday_place n =
    if bytes_eq n (codes "MON") then Some 0
    else (if bytes_eq n (codes "TUE") then Some 1
    else (if bytes_eq n (codes "WED") then Some 2
    else (if bytes_eq n (codes "THU") then Some 3
    else (if bytes_eq n (codes "FRI") then Some 4
    else (if bytes_eq n (codes "SAT") then Some 5
    else (if bytes_eq n (codes "SUN") then Some 6
    else None))))))

-- different names, each of which marks its day
abbrev pub marked : Option ℕ → List Bool → Option (List Bool)
marked None days = None
marked (Some p) days = if slice_index_or days p false then None else Some (slice_set days p true)

-- the days of the week that names mark, each at most once
abbrev pub weekend_of : Option (List Bool) → List (List ℕ) → Said
weekend_of None ns = Wrong
weekend_of (Some days) [] = Weekend days
weekend_of (Some days) (n ∷ ns) = weekend_of (marked (weekday_place n) days) ns

-- a holiday where it is a date
abbrev pub holiday_of : Option ℤ → Said
holiday_of None = Wrong
holiday_of (Some d) = Holiday d

-- a line of one date
abbrev pub said_holiday : List ℕ → List (List ℕ) → Said
said_holiday w [] = holiday_of (date_at w)
said_holiday w (x ∷ xs) = Wrong

-- none of the seven days, Monday first
abbrev pub no_days : List Bool
no_days = false ∷ false ∷ false ∷ false ∷ false ∷ false ∷ false ∷ []

-- what a line says by its first field: center, cover, weekend, else a date
abbrev pub said_by : List ℕ → List (List ℕ) → Said
said_by w ws =
    if bytes_eq w (codes "center") then said_center ws
    else (if bytes_eq w (codes "cover") then said_cover ws
    else (if bytes_eq w (codes "weekend") then weekend_of (Some no_days) ws
    else said_holiday w ws))

-- the line begins with `#`
abbrev pub is_comment_line : List ℕ → Bool
is_comment_line [] = false
is_comment_line (b ∷ bs) = b == 35

-- what the fields of a line say; white space before the first one is wrong
abbrev pub said_in_place : Bool → List (List ℕ) → Said
said_in_place gap [] = Nothing
said_in_place true (w ∷ ws) = Wrong
said_in_place false (w ∷ ws) = said_by w ws

-- what a line says
abbrev pub line_said : List ℕ → Said
line_said line = if is_comment_line line then Nothing else said_in_place (begins_space line) (fields line)

-- ---- the end line of a file: its last line may be `# end N`, and then N is the number of lines before it

-- the end line that counts this many lines before it
abbrev pub end_line_text : ℕ → List ℕ
end_line_text before = codes "# end " ++ decimal before

-- there is a first byte, and it isn't a 0 in front of others
abbrev pub has_no_zero_in_front : List ℕ → Bool
has_no_zero_in_front [] = false
has_no_zero_in_front (b ∷ []) = true
has_no_zero_in_front (b ∷ c ∷ cs) = not (b == 48)

-- digits, as a number is written
abbrev pub is_number : List ℕ → Bool
is_number bytes = has_no_zero_in_front bytes && list_all is_digit bytes

-- `# end ` and a number, and nothing else
abbrev pub is_end_line : List ℕ → Bool
is_end_line line = bytes_eq (take 6 line) (codes "# end ") && is_number (drop 6 line)

-- an end line whose number isn't that of the lines before it
abbrev pub is_false_end : ℕ → List ℕ → Bool
is_false_end before line = is_end_line line && not (bytes_eq line (end_line_text before))

-- no more lines
abbrev pub is_none : List (List ℕ) → Bool
is_none [] = true
is_none (l ∷ ls) = false

-- ` #`, a line outside the grammar of every file: white space comes before its first field
abbrev pub bad_line : List ℕ
bad_line = 32 ∷ 35 ∷ []

-- a line as it is read: a false end line in the last place is a line outside the grammar
abbrev pub line_seen : Bool → ℕ → List ℕ → List ℕ
line_seen last before line = if last && is_false_end before line then bad_line else line

-- lines as they are read, after that many others
abbrev pub seen_from : ℕ → List (List ℕ) → List (List ℕ)
seen_from before [] = []
seen_from before (l ∷ ls) = line_seen (is_none ls) before l ∷ seen_from (before + 1) ls

-- the lines of a file as they are read: those that it has, but for a false end line in the last place
abbrev pub seen_lines : List ℕ → List (List ℕ)
seen_lines bytes = seen_from 0 (lines_of bytes)

-- ---- how calendar files spell the sections of centres

-- what one more line in front says, unless it says nothing
abbrev pub with_said : Said → List Said → List Said
with_said Nothing rest = rest
with_said said rest = said ∷ rest

-- what the lines say one after another; blank lines and comments say nothing
abbrev pub said_lines : List (List ℕ) → List Said
said_lines [] = []
said_lines (l ∷ ls) = with_said (line_said l) (said_lines ls)

-- a section is its centre, its cover, its weekend and its holidays, in this order
abbrev pub section_lines : Section → List Said
section_lines s = Center s.name ∷ Cover s.first s.last ∷ Weekend s.weekend ∷ map (λ d. Holiday d) s.holidays

-- the sections one after another
abbrev pub spelt : List Section → List Said
spelt [] = []
spelt (s ∷ ss) = section_lines s ++ spelt ss

-- each day is after the one before it, the first one not before low, and none is after last
abbrev pub RisesWithin : ℤ → ℤ → List ℤ → Type 0
RisesWithin low last [] = Unit {0}
RisesWithin low last (d ∷ ds) = (low ≤ℤ d) × (d ≤ℤ last) × RisesWithin (d +ℤ pos 1) last ds

-- the holidays rise strictly inside the cover, and are at most 20,000
pub record IsLawfulSection (s : Section) : Type 0 where
  pub rise : RisesWithin s.first s.last s.holidays
  pub few : length s.holidays ≤ most_holidays

-- each section is lawful
abbrev pub AreLawful : List Section → Type 0
AreLawful sections = Every IsLawfulSection sections

-- each file spells its part of the sections, where a false end line spells none
abbrev pub AreSpelt : List (List ℕ) → List (List Section) → Type 0
AreSpelt files parts = Pairs (λ file part. said_lines (seen_lines file) ≡ spelt part) files parts

-- all parts one after another
abbrev pub joined_sections : List (List Section) → List Section
joined_sections [] = []
joined_sections (p ∷ ps) = p ++ joined_sections ps

-- the files, in order, spell these sections; a centre occurs once over all files
pub record CalFiles (files : List (List ℕ)) (sections : List Section) : Type 0 where
  pub parts : List (List Section)
  pub whole : sections ≡ joined_sections parts
  pub each : AreSpelt files parts
  pub distinct : AreDistinct sections
  pub lawful : AreLawful sections

-- ---- the first faulty line of calendar files
-- The lines before it can go on to lawful files, and with it nothing can.

-- a fault, the file's position and the line
pub record Spot : Type 0 where
  pub fault : Fault
  pub file : ℕ
  pub line : ℕ

-- the files spell the earlier sections, and the lines of one more file spell its own
pub record SpellsSections (files lines : List (List ℕ)) (earlier own : List Section) : Type 0 where
  pub before : CalFiles files earlier
  pub says : said_lines lines ≡ spelt own
  pub distinct : AreDistinct (earlier ++ own)
  pub lawful : AreLawful own

-- the lines of the one file more spell no sections
abbrev pub SpellNone : List (List ℕ) → List (List ℕ) → Type 0
SpellNone files lines = (earlier own : List Section) → SpellsSections files lines earlier own → ⊥

-- some lines, appended to those of one more file, make it spell sections
pub record CanGoOn (files lines : List (List ℕ)) : Type 0 where
  pub more : List (List ℕ)
  pub earlier : List Section
  pub own : List Section
  pub spells : SpellsSections files (lines ++ more) earlier own

-- the line is a centre's after whole sections, one of which has its name
pub record IsRepeat (files lines : List (List ℕ)) (line : List ℕ) : Type 0 where
  pub earlier : List Section
  pub own : List Section
  pub name : List ℕ
  pub spells : SpellsSections files lines earlier own
  pub says : line_said line ≡ Center name
  pub named : is_named name (earlier ++ own) ≡ true

-- the line is a holiday that fits after those of the file's last section, which are 20,000
pub record IsOneTooMany (files lines : List (List ℕ)) (line : List ℕ) : Type 0 where
  pub earlier : List Section
  pub own : List Section
  pub section : Section
  pub day : ℤ
  pub spells : SpellsSections files lines earlier (own ++ section ∷ [])
  pub says : line_said line ≡ Holiday day
  pub rises : RisesWithin section.first section.last (section.holidays ++ day ∷ [])
  pub full : length section.holidays ≡ most_holidays

-- the kind of a line with which nothing can go on: syntax wherever it isn't one of the others
abbrev pub IsFaultKind : Fault → List (List ℕ) → List (List ℕ) → List ℕ → Type 0
IsFaultKind Syntax files lines line = (IsRepeat files lines line → ⊥) × (IsOneTooMany files lines line → ⊥)
IsFaultKind Repeat files lines line = IsRepeat files lines line
IsFaultKind TooMany files lines line = IsOneTooMany files lines line

-- what comes after the lines is at fault: the next line, or the file's end, where no sections are spelt
abbrev pub IsFaultBehind : Fault → List (List ℕ) → List (List ℕ) → List (List ℕ) → Type 0
IsFaultBehind fault files lines [] = (fault ≡ Syntax) × SpellNone files lines
IsFaultBehind fault files lines (line ∷ rest) = (CanGoOn files (lines ++ line ∷ []) → ⊥) × IsFaultKind fault files lines line

-- the first fault of the files, with the position of its file and of its line, both from 1
pub record IsFirstCalendarFault (files : List (List ℕ)) (s : Spot) : Type 0 where
  pub before : List (List ℕ)
  pub file : List ℕ
  pub after : List (List ℕ)
  pub lines : List (List ℕ)
  pub rest : List (List ℕ)
  pub files_are : files ≡ before ++ file ∷ after
  pub lines_are : seen_lines file ≡ lines ++ rest
  pub file_number : s.file ≡ 1 + length before
  pub line_number : s.line ≡ 1 + length lines
  pub goes_on : CanGoOn before lines
  pub behind : IsFaultBehind s.fault before lines rest

-- at most one fault is the first
abbrev pub HaveOneFirstFault : List (List ℕ) → Type 0
HaveOneFirstFault files = (s t : Spot) → IsFirstCalendarFault files s → IsFirstCalendarFault files t → s ≡ t

-- the files spell sections, or have a first fault
abbrev pub AreSpeltOrFaulty : List (List ℕ) → Type 0
AreSpeltOrFaulty files = ((ss : List Section) × CalFiles files ss) ⊎ ((s : Spot) × IsFirstCalendarFault files s)

-- ---- what calendar files hold, and the sections that names pick

-- an error of the caller's says which spot
abbrev pub spot_of : CalErr → Option Spot
spot_of (errors.Syntax k n) = Some (record { fault = Syntax; file = k; line = n })
spot_of (errors.Repeat k n) = Some (record { fault = Repeat; file = k; line = n })
spot_of (errors.TooMany k n) = Some (record { fault = TooMany; file = k; line = n })
spot_of errors.Memory = None

-- what was refused is the first name that is missing, unless memory ran out
abbrev pub SelFails : SelErr → Option ℕ → Type 0
SelFails (choices.NoCenter k) missing = missing ≡ Some k
SelFails choices.Memory missing = Unit {0}
