-- Private: no public contract rests on this file.
-- Of private functions: how calendar files are read.
use Rattle.std.specs.Prelude.{◌≡◌, ℕ, Bool, List, ℤ, Some, ◌&&◌, [], ◌∷◌, ◌++◌, length, Result, Ok}
use Rattle.std.specs.Prelude.{Err, nat_le, if◌then◌else◌, ◌+◌, Option, None, false}
use Rattle.std.specs.Ordering.{int_cmp, is_le}
use Rattle.irs_base.specs.Limits.{most_holidays}
use Rattle.irs_calendar.specs.declared.sections.Section.{Section}
use Rattle.irs_calendar.specs.declared.part.Part.{Part}
use Rattle.irs_calendar.specs.declared.part.Part.TheVariants.{Between, Named, Covered, Open}
use Rattle.irs_calendar.specs.declared.part.State.{State}
use Rattle.irs_calendar.specs.declared.part.Said.{Said as Given}
use Rattle.irs_calendar.specs.declared.machine.Fault.{Fault}
use Rattle.irs_calendar.specs.declared.machine.Fault.TheVariants.{Syntax, Repeat, TooMany}
use Rattle.irs_calendar.specs.Grammar.{Said, Nothing, Center, Cover, Weekend, Holiday, Wrong, line_said, seen_lines}
use Rattle.irs_calendar.specs.Grammar.{Spot, spot_of, is_false_end, is_none}
use Rattle.irs_calendar.specs.Sections.{is_named}
use Rattle.irs_calendar.specs.declared.files.FileErr.{FileErr}
use Rattle.irs_calendar.specs.declared.calendars.CalErr.{CalErr}
use Rattle.irs_calendar.specs.declared.machine.StepErr.{StepErr}
use Rattle.irs_calendar.specs.declared.part.Said.TheVariants as given
use Rattle.irs_calendar.specs.declared.files.FileErr.TheVariants as file_err
use Rattle.irs_calendar.specs.declared.machine.StepErr.TheVariants as step_err
use Rattle.irs_calendar.specs.Private.Rising.{all_before}

-- ---- what the lines of calendar files hold

-- what a reader was given, as words of the grammar
abbrev pub said_of : Given → Said
said_of given.Nothing = Nothing
said_of (given.Center name) = Center name.now
said_of (given.Cover a b) = Cover a b
said_of (given.Weekend w) = Weekend w
said_of (given.Holiday d) = Holiday d
said_of given.Wrong = Wrong

-- a new section, whose name is new
abbrev pub begun : List Section → List ℕ → Result State Fault
begun done name = if is_named name done then Err Repeat else Ok (record { done = done; part = Named name })

-- after a line that begins a section: the section before it is done
abbrev pub after_center : List Section → Part → List ℕ → Result State Fault
after_center done Between name = begun done name
after_center done (Named n) name = Err Syntax
after_center done (Covered n a b) name = Err Syntax
after_center done (Open s) name = begun (done ++ s ∷ []) name

-- after a cover, which follows the name
abbrev pub after_cover : List Section → Part → ℤ → ℤ → Result State Fault
after_cover done Between a b = Err Syntax
after_cover done (Named n) a b = Ok (record { done = done; part = Covered n a b })
after_cover done (Covered n c d) a b = Err Syntax
after_cover done (Open s) a b = Err Syntax

-- after a weekend, which follows the cover and opens the section
abbrev pub after_weekend : List Section → Part → List Bool → Result State Fault
after_weekend done Between w = Err Syntax
after_weekend done (Named n) w = Err Syntax
after_weekend done (Covered n a b) w =
    Ok (record { done = done; part = Open (record { name = n; first = a; last = b; weekend = w; holidays = [] }) })
after_weekend done (Open s) w = Err Syntax

-- the day lies in the cover, after the holidays so far
abbrev pub fits_section : Section → ℤ → Bool
fits_section s d = is_le (int_cmp s.first d) && (is_le (int_cmp d s.last) && all_before d s.holidays)

-- after a holiday of the open section, which fits it where it rises and lies in the cover
abbrev pub after_holiday : List Section → Part → ℤ → Result State Fault
after_holiday done Between d = Err Syntax
after_holiday done (Named n) d = Err Syntax
after_holiday done (Covered n a b) d = Err Syntax
after_holiday done (Open s) d =
    if fits_section s d then
    (if nat_le most_holidays (length s.holidays) then Err TooMany else Ok
    (record { done = done; part = Open (record s { holidays = s.holidays ++ d ∷ [] }) })) else Err Syntax

-- what a line makes of what was read before it
abbrev pub after_line : State → Said → Result State Fault
after_line s Nothing = Ok s
after_line s (Center name) = after_center s.done s.part name
after_line s (Cover a b) = after_cover s.done s.part a b
after_line s (Weekend w) = after_weekend s.done s.part w
after_line s (Holiday d) = after_holiday s.done s.part d
after_line s Wrong = Err Syntax

-- what a file's end makes of it
abbrev pub at_end : List Section → Part → Result (List Section) Fault
at_end done Between = Ok done
at_end done (Named n) = Err Syntax
at_end done (Covered n a b) = Err Syntax
at_end done (Open s) = Ok (done ++ s ∷ [])

-- ---- what the lines of a file hold, or the first line that is at fault

-- a fault, and the number of its line
abbrev pub Place : Type 0
Place = Fault × ℕ

-- what reading gives for the line of that number
abbrev pub numbered : {A : Type 0} → ℕ → Result A Fault → Result A Place
numbered n (Ok x) = Ok x
numbered n (Err f) = Err (f, n)

-- one line read after another: the first fault ends it
abbrev pub then_read : {A B : Type 0} → Result A Place → (A → Result B Place) → Result B Place
then_read (Ok x) f = f x
then_read (Err e) f = Err e

-- the lines from number n on, the file's end being the line after the last
unfoldable pub sections_in : ℕ → State → List (List ℕ) → Result (List Section) Place
sections_in n s [] = numbered n (at_end s.done s.part)
sections_in n s (l ∷ ls) = then_read (numbered n (after_line s (line_said l))) (λ t. sections_in (n + 1) t ls)

-- all of a file, after the sections of the files before it
abbrev pub sections_of : List Section → List ℕ → Result (List Section) Place
sections_of done bytes = sections_in 1 (record { done = done; part = Between }) (seen_lines bytes)

-- what was returned is what reading gives, unless memory ran out
abbrev pub FileFails : {Y : Type 0} → FileErr → Result Y Place → Type 0
FileFails file_err.Memory read = Unit {0}
FileFails (file_err.Fault f n) read = read ≡ Err (f, n)

-- what a reader of a file returned is what reading gives, unless memory ran out
abbrev pub GivesFile : {X : Type 0} → Result X FileErr → Result X Place → Type 0
GivesFile (Ok x) read = read ≡ Ok x
GivesFile (Err e) read = FileFails e read

-- ---- what calendar files hold, and the sections that names pick

-- what reading gives for the file of that number
abbrev pub in_file : {A : Type 0} → ℕ → Result A Place → Result A Spot
in_file k (Ok x) = Ok x
in_file k (Err e) = Err (record { fault = e.0; file = k; line = e.1 })

-- one file read after another: the first fault ends it
abbrev pub then_file : {A B : Type 0} → Result A Spot → (A → Result B Spot) → Result B Spot
then_file (Ok x) f = f x
then_file (Err e) f = Err e

-- the sections of files from position k on, after those that were read
unfoldable pub calendars_in : ℕ → List Section → List (List ℕ) → Result (List Section) Spot
calendars_in k done [] = Ok done
calendars_in k done (f ∷ fs) = then_file (in_file k (sections_of done f)) (λ d. calendars_in (k + 1) d fs)

-- reading fails at the spot, where there is one
abbrev pub SpotFails : {Y : Type 0} → Option Spot → Result Y Spot → Type 0
SpotFails None read = Unit {0}
SpotFails (Some s) read = read ≡ Err s

-- what a reader of files returned is what reading gives, unless memory ran out
abbrev pub GivesAll : {X : Type 0} → Result X CalErr → Result X Spot → Type 0
GivesAll (Ok x) read = read ≡ Ok x
GivesAll (Err e) read = SpotFails (spot_of e) read

-- ---- the end line of a file: its last line may be `# end N`, and then N is the number of lines before it

-- where the last line is an end line it is true; any other line may be what it likes
abbrev pub EndsTruly : ℕ → List (List ℕ) → Type 0
EndsTruly before [] = Unit {0}
EndsTruly before (l ∷ ls) = ((is_none ls && is_false_end before l) ≡ false) × EndsTruly (before + 1) ls

-- ---- what a reader returned is what reading gives, unless memory ran out

-- reading fails as the error says, unless memory ran out
abbrev pub Fails : {Y : Type 0} → StepErr → Result Y Fault → Type 0
Fails step_err.Memory read = Unit {0}
Fails (step_err.Fault f) read = read ≡ Err f

-- what a reader of a line returned is what reading gives, unless memory ran out
abbrev pub Gives : {X : Type 0} → Result X StepErr → Result X Fault → Type 0
Gives (Ok x) read = read ≡ Ok x
Gives (Err e) read = Fails e read
