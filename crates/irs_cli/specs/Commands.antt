-- The listed commands and their parameters: a table, and what it says of words.
use Rattle.std.specs.Prelude.{◌≡◌, ℕ, ◌+◌, ◌*◌, ◌≤◌, List, [], ◌∷◌, codes, decimal, Option, Some, None, slice_get, ℤ}
use Rattle.std.specs.Prelude.{nat_eq, if◌then◌else◌, ◌++◌, length, map, drop, unwrap_or, String, string_bytes, Bool}
use Rattle.std.specs.Prelude.{true, not, ◌&&◌, nat_le}
use Rattle.std.specs.List.{ends_with}
use Rattle.std.specs.Str.{bytes_eq}
use Rattle.std.specs.declared.alloc.Global.{Global}
use Rattle.irs_base.specs.Days.{IsDay}
use Rattle.irs_base.specs.Limits.{most_streams}
use Rattle.irs_base.specs.Texts.{IsDateText}
use Rattle.irs_terms.specs.declared.frequency.Frequency.{Frequency}
use Rattle.irs_terms.specs.declared.frequency.Unit.{Unit as FrequencyUnit}
use Rattle.irs_terms.specs.declared.frequency.Unit.TheVariants.{D, W, M, Y, T}
use Rattle.irs_resets.specs.FixingFiles.{IsTenorWord}
use Rattle.irs_average.specs.declared.means.Mean.{Mean}
use Rattle.irs_average.specs.declared.means.Mean.TheVariants.{Plain, Weighted}
use Rattle.irs_average.specs.declared.stubs.Side.{Side}
use Rattle.irs_average.specs.declared.stubs.Side.TheVariants.{Initial, Last}
use Rattle.irs_answers.specs.declared.forms.Form.{Form}
use Rattle.irs_answers.specs.declared.forms.Form.TheVariants.{Json, Xml}
use Rattle.irs_answers.specs.Forms.{most_calendars}
use Rattle.irs_answers.specs.declared.tasks.Task.TheVariants as task
use Rattle.irs_bulk.specs.Documents.{most_bulk}
use Rattle.irs_cli.specs.declared.commands.Kind.{Kind}
use Rattle.irs_cli.specs.declared.commands.Request.{Request}
use Rattle.irs_cli.specs.declared.commands.Request.TheVariants.{OverFiles, Bulk, Carrier as CarrierOf}
use Rattle.irs_cli.specs.declared.commands.Role.{Role}
use Rattle.irs_cli.specs.declared.commands.Role.TheVariants.{Document, Fixings, Flows, Calendar}
use Rattle.irs_cli.specs.declared.commands.Kind.TheVariants as kind

-- ---- the words of a command that are parameters and no files; and what a file's name says of its form

-- the word with this index spells x
pub record At {X : Type 0} (Is : List ℕ → X → Type 0) (ps : List (List ℕ)) (i : ℕ) (x : X) : Type 0 where
  pub word : List ℕ
  pub there : slice_get ps i ≡ Some word
  pub is : Is word x

-- a date of the day: YYYY-MM-DD, with or without a Z after it
pub record IsDateWord (w : List ℕ) (d : ℤ) : Type 0 where
  pub in_range : IsDay d
  pub is : IsDateText w d

-- the first day to be compared: a date, or `-` for all days
abbrev pub IsFromWord : List ℕ → Option ℤ → Type 0
IsFromWord w None = w ≡ codes "-"
IsFromWord w (Some d) = IsDateWord w d

-- a number of documents, from 1 to 500, in digits with no zero in front
pub record IsCountWord (w : List ℕ) (n : ℕ) : Type 0 where
  pub from_one : 1 ≤ n
  pub to_most : n ≤ most_bulk
  pub is : w ≡ decimal n

-- the number of a stream: one digit from 1 to 8
pub record IsStreamWord (w : List ℕ) (n : ℕ) : Type 0 where
  pub from_one : 1 ≤ n
  pub to_eight : n ≤ most_streams
  pub is : w ≡ (48 + n) ∷ []

-- the form of a document or of cash flows: XML where the name of the file ends in `.xml`, and else JSON
abbrev pub form_of : List ℕ → Form
form_of name = if ends_with nat_eq name (codes ".xml") then Xml else Json

-- the name of a mean
abbrev pub mean_name : Mean → List ℕ
mean_name Plain = codes "plain"
mean_name Weighted = codes "weighted"

-- the word names the mean
pub record IsMeanWord (w : List ℕ) (m : Mean) : Type 0 where
  pub is : w ≡ mean_name m

-- the name of a side
abbrev pub side_name : Side → List ℕ
side_name Initial = codes "initial"
side_name Last = codes "final"

-- the word names the side
pub record IsSideWord (w : List ℕ) (s : Side) : Type 0 where
  pub is : w ≡ side_name s

-- a number of days or weeks, in days; the other units have no number of days
abbrev pub days_of_unit : FrequencyUnit → ℕ → Option ℕ
days_of_unit D count = Some count
days_of_unit W count = Some (7 * count)
days_of_unit M count = None
days_of_unit Y count = None
days_of_unit T count = None

-- 1 to 999 days or weeks, in days
pub record IsStepWord (w : List ℕ) (n : ℕ) : Type 0 where
  pub step : Frequency
  pub is_tenor : IsTenorWord w step
  pub days : days_of_unit step.unit step.count ≡ Some n

-- ---- the listed commands: a table, and what it says of words

-- the words after the program's name, by their bytes
abbrev pub Words : Type 0
Words = List (List ℕ)

-- the words of the code, by their bytes
abbrev pub word_texts : List (String Global) → Words
word_texts ws = map string_bytes ws

-- a file that is wanted: the place of its word after the command, from 1, its role and its name
pub record Wanted : Type 0 where
  pub place : ℕ
  pub role : Role
  pub name : List ℕ

-- a command: its request, and its files in the order of the words
pub record Asked : Type 0 where
  pub request : Request
  pub files : List Wanted

-- ---- the table: a command's name, its number of parameters, the roles of its files, and its most calendars

-- the command of a name
abbrev pub command_of : List ℕ → Option Kind
command_of w =
    if bytes_eq w (codes "check") then Some kind.Check else
    if bytes_eq w (codes "schedule") then Some kind.Schedule else
    if bytes_eq w (codes "audit") then Some kind.Audit else
    if bytes_eq w (codes "breaks") then Some kind.Breaks else
    if bytes_eq w (codes "bulk") then Some kind.Bulk else
    if bytes_eq w (codes "emit") then Some kind.Emit else
    if bytes_eq w (codes "emit-xml") then Some kind.EmitXml else
    if bytes_eq w (codes "accrue") then Some kind.Accrue else
    if bytes_eq w (codes "net") then Some kind.Net else
    if bytes_eq w (codes "observations") then Some kind.Observations else
    if bytes_eq w (codes "overnight") then Some kind.Overnight else
    if bytes_eq w (codes "average") then Some kind.Average else
    if bytes_eq w (codes "interpolate") then Some kind.Interpolate else
    if bytes_eq w (codes "carrier") then Some kind.Carrier else None

-- how many words of a command come before its files
abbrev pub params_of : Kind → ℕ
params_of kind.Check = 0
params_of kind.Schedule = 0
params_of kind.Audit = 0
params_of kind.Breaks = 1
params_of kind.Bulk = 1
params_of kind.Emit = 0
params_of kind.EmitXml = 0
params_of kind.Accrue = 1
params_of kind.Net = 0
params_of kind.Observations = 1
params_of kind.Overnight = 1
params_of kind.Average = 3
params_of kind.Interpolate = 4
params_of kind.Carrier = 0

-- the roles of the first files of a command, in the order of the words
abbrev pub roles_of : Kind → List Role
roles_of kind.Check = Document ∷ []
roles_of kind.Schedule = Document ∷ Fixings ∷ []
roles_of kind.Audit = Document ∷ Fixings ∷ Flows ∷ []
roles_of kind.Breaks = Document ∷ Fixings ∷ Flows ∷ []
roles_of kind.Bulk = []
roles_of kind.Emit = Document ∷ Fixings ∷ []
roles_of kind.EmitXml = Document ∷ Fixings ∷ []
roles_of kind.Accrue = Document ∷ Fixings ∷ []
roles_of kind.Net = Document ∷ Fixings ∷ []
roles_of kind.Observations = Document ∷ Fixings ∷ []
roles_of kind.Overnight = Document ∷ Fixings ∷ []
roles_of kind.Average = Document ∷ Fixings ∷ []
roles_of kind.Interpolate = Document ∷ Fixings ∷ []
roles_of kind.Carrier = Document ∷ []

-- how many calendars may follow
abbrev pub calendars_of : Kind → ℕ
calendars_of kind.Check = most_calendars
calendars_of kind.Schedule = most_calendars
calendars_of kind.Audit = most_calendars
calendars_of kind.Breaks = most_calendars
calendars_of kind.Bulk = 0
calendars_of kind.Emit = most_calendars
calendars_of kind.EmitXml = most_calendars
calendars_of kind.Accrue = most_calendars
calendars_of kind.Net = most_calendars
calendars_of kind.Observations = most_calendars
calendars_of kind.Overnight = most_calendars
calendars_of kind.Average = most_calendars
calendars_of kind.Interpolate = most_calendars
calendars_of kind.Carrier = 0

-- ---- what the table says of words

-- the role of the word with this index after the parameters: the calendars come last
abbrev pub role_at : List Role → ℕ → Role
role_at roles i = unwrap_or (slice_get roles i) Calendar

-- whether a word names a file: `-` means no fixings and is no file
abbrev pub is_file : Role → List ℕ → Bool
is_file Document w = true
is_file Fixings w = not (bytes_eq w (codes "-"))
is_file Flows w = true
is_file Calendar w = true

-- the file that a word at this place names, if it names one
abbrev pub kept_file : Role → ℕ → List ℕ → List Wanted
kept_file role place w = if is_file role w then record { place = place; role = role; name = w } ∷ [] else []

-- the files that these words name; the first of them has this place and this index
abbrev pub files_from : List Role → ℕ → ℕ → Words → List Wanted
files_from roles place i [] = []
files_from roles place i (w ∷ ws) = kept_file (role_at roles i) place w ++ files_from roles (place + 1) (i + 1) ws

-- a command of this kind may have n words after its name
abbrev pub may_have_words : Kind → ℕ → Bool
may_have_words k n =
    nat_le (params_of k + length (roles_of k)) n && nat_le n (params_of k + length (roles_of k) + calendars_of k)

-- `accrue` with its date
pub record AsksAccrue (ws : Words) (r : Request) : Type 0 where
  pub date : ℤ
  pub is_date : At IsDateWord ws 0 date
  pub is : r ≡ OverFiles (task.Accrue date)

-- `breaks` with its first date, or with none
pub record AsksBreaks (ws : Words) (r : Request) : Type 0 where
  pub from : Option ℤ
  pub is_from : At IsFromWord ws 0 from
  pub is : r ≡ OverFiles (task.Breaks from)

-- `bulk` with its number of documents
pub record AsksBulk (ws : Words) (r : Request) : Type 0 where
  pub count : ℕ
  pub is_count : At IsCountWord ws 0 count
  pub is : r ≡ Bulk count

-- `observations` with its stream
pub record AsksObservations (ws : Words) (r : Request) : Type 0 where
  pub stream : ℕ
  pub is_stream : At IsStreamWord ws 0 stream
  pub is : r ≡ OverFiles (task.Observations stream)

-- `overnight` with its stream
pub record AsksOvernight (ws : Words) (r : Request) : Type 0 where
  pub stream : ℕ
  pub is_stream : At IsStreamWord ws 0 stream
  pub is : r ≡ OverFiles (task.Overnight stream)

-- `average` with its stream, its mean and its step
pub record AsksAverage (ws : Words) (r : Request) : Type 0 where
  pub stream : ℕ
  pub is_stream : At IsStreamWord ws 0 stream
  pub mean : Mean
  pub is_mean : At IsMeanWord ws 1 mean
  pub step : ℕ
  pub is_step : At IsStepWord ws 2 step
  pub is : r ≡ OverFiles (task.Average stream mean step)

-- `interpolate` with its stream, its side and its two tenors
pub record AsksInterpolate (ws : Words) (r : Request) : Type 0 where
  pub stream : ℕ
  pub is_stream : At IsStreamWord ws 0 stream
  pub side : Side
  pub is_side : At IsSideWord ws 1 side
  pub low : Frequency
  pub is_low : At IsTenorWord ws 2 low
  pub high : Frequency
  pub is_high : At IsTenorWord ws 3 high
  pub is : r ≡ OverFiles (task.Interpolate stream side low high)

-- `carrier` with the name of a document in XML
pub record AsksCarrier (ws : Words) (r : Request) : Type 0 where
  pub name : List ℕ
  pub there : slice_get ws 0 ≡ Some name
  pub is_xml : form_of name ≡ Xml
  pub is : r ≡ CarrierOf

-- what a command of a kind asks for by the words after its name
abbrev pub IsRequest : Kind → Words → Request → Type 0
IsRequest kind.Check ws r = r ≡ OverFiles task.Check
IsRequest kind.Schedule ws r = r ≡ OverFiles task.Schedule
IsRequest kind.Audit ws r = r ≡ OverFiles task.Audit
IsRequest kind.Breaks ws r = AsksBreaks ws r
IsRequest kind.Bulk ws r = AsksBulk ws r
IsRequest kind.Emit ws r = r ≡ OverFiles task.Emit
IsRequest kind.EmitXml ws r = r ≡ OverFiles task.EmitXml
IsRequest kind.Accrue ws r = AsksAccrue ws r
IsRequest kind.Net ws r = r ≡ OverFiles task.Net
IsRequest kind.Observations ws r = AsksObservations ws r
IsRequest kind.Overnight ws r = AsksOvernight ws r
IsRequest kind.Average ws r = AsksAverage ws r
IsRequest kind.Interpolate ws r = AsksInterpolate ws r
IsRequest kind.Carrier ws r = AsksCarrier ws r

-- the words after the name of a command of this kind are those of a
pub record AsksAs (k : Kind) (ws : Words) (a : Asked) : Type 0 where
  pub fits : may_have_words k (length ws) ≡ true
  pub request : IsRequest k ws a.request
  pub files : a.files ≡ files_from (roles_of k) (params_of k + 1) 0 (drop (params_of k) ws)

-- the words are this command
abbrev pub Asks : Words → Asked → Type 0
Asks [] a = ⊥
Asks (w ∷ ws) a = (k : Kind) × (command_of w ≡ Some k) × AsksAs k ws a

-- the words are a listed command
abbrev pub IsListed : Words → Type 0
IsListed ws = (a : Asked) × Asks ws a
