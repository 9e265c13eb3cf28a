-- The files that a command names, and what a fetch of them gives.
use Rattle.std.specs.Prelude.{◌≡◌, ◌⊎◌, ℕ, ◌<◌, ◌≤◌, List, [], ◌∷◌, ◌++◌, length, Option, Some, ◌+◌, ◌==◌, Bool, None}
use Rattle.std.specs.Prelude.{option_map, slice_get, unwrap_or, if◌then◌else◌, IfSome, false, not}
use Rattle.irs_answers.specs.Forms.{Given, no_files, too_many, SourceText, files_given_by}
use Rattle.irs_answers.specs.Due.{AreRead}
use Rattle.irs_answers.specs.declared.common.Common.{Common}
use Rattle.irs_cli.specs.declared.commands.Role.{Role}
use Rattle.irs_cli.specs.declared.commands.Role.TheVariants.{Document, Fixings, Flows, Calendar}
use Rattle.irs_cli.specs.Commands.{Words, Wanted, Asked, Asks, form_of, command_of, params_of, roles_of}
use Rattle.irs_cli.specs.declared.commands.Kind.{Kind}

-- ---- the files that a command names, as a source states them

-- what a source states of each name: the bytes of the file, or nothing
abbrev pub Told : Type 0
Told = List ℕ → Option (List ℕ)

-- the text of a file of this name, in the form that the name says
abbrev pub text_as : List ℕ → List ℕ → SourceText
text_as name bytes = record { form = form_of name; bytes = bytes }

-- the files with one more; the form counts for the document and for the flows alone
abbrev pub with_file : Given → Role → SourceText → Given
with_file g Document t = record { document = t; fixings = g.fixings; flows = g.flows; calendars = g.calendars }
with_file g Fixings t =
    record { document = g.document; fixings = Some t.bytes; flows = g.flows; calendars = g.calendars }
with_file g Flows t = record { document = g.document; fixings = g.fixings; flows = t; calendars = g.calendars }
with_file g Calendar t =
    record { document = g.document; fixings = g.fixings; flows = g.flows; calendars = g.calendars ++ t.bytes ∷ [] }

-- h is g with the files of the list, in order and by role; R holds of each name and its bytes
abbrev pub Gathers : (R : List ℕ → List ℕ → Type 0) → List Wanted → Given → Given → Type 0
Gathers R [] g h = h ≡ g
Gathers R (w ∷ ws) g h = (bytes : List ℕ) × R w.name bytes × Gathers R ws (with_file g w.role (text_as w.name bytes)) h

-- P holds of each file
abbrev pub Each : (P : Wanted → Type 0) → List Wanted → Type 0
Each P [] = Unit {0}
Each P (w ∷ ws) = P w × Each P ws

-- Q holds of some file, and P of each before it
abbrev pub ReachesFile : (P Q : Wanted → Type 0) → List Wanted → Type 0
ReachesFile P Q [] = ⊥
ReachesFile P Q (w ∷ ws) = Q w ⊎ (P w × ReachesFile P Q ws)

-- the source states these bytes of the name, and they aren't too many
abbrev pub IsTold : Told → List ℕ → List ℕ → Type 0
IsTold told name bytes = (told name ≡ Some bytes) × (length bytes < too_many)

-- the source states the files of the command, none is too long, and here they are by role
abbrev pub AreTold : Told → Asked → Given → Type 0
AreTold told a g = Gathers (IsTold told) a.files no_files g

-- the source states each file of the command
abbrev pub TellsAll : Words → Told → Type 0
TellsAll ws told = (a : Asked) → Asks ws a → Each (λ w. (bytes : List ℕ) × (told w.name ≡ Some bytes)) a.files

-- the source states the file, and it isn't too long
abbrev pub IsShortFile : Told → Wanted → Type 0
IsShortFile told w = (bytes : List ℕ) × IsTold told w.name bytes

-- the file has this place, the source states it, and it is too long
pub record IsLongAt (told : Told) (place : ℕ) (w : Wanted) : Type 0 where
  pub at : w.place ≡ place
  pub bytes : List ℕ
  pub is_told : told w.name ≡ Some bytes
  pub long : too_many ≤ length bytes

-- the file at this place is too long, and no file before it is; the source states them all
abbrev pub IsFirstLong : Told → Asked → ℕ → Type 0
IsFirstLong told a place = ReachesFile (IsShortFile told) (IsLongAt told place) a.files

-- ---- the names of the files of a command, by their roles in the table of commands

-- the number of a role
abbrev pub role_number : Role → ℕ
role_number Document = 0
role_number Fixings = 1
role_number Flows = 2
role_number Calendar = 3

-- two roles are the same
abbrev pub is_same_role : Role → Role → Bool
is_same_role role other = role_number role == role_number other

-- how many roles come before the first that is this one; all of them where none is, as for calendars
abbrev pub roles_before : List Role → Role → ℕ
roles_before [] role = 0
roles_before (r ∷ rs) role = if is_same_role r role then 0 else roles_before rs role + 1

-- the place of the first word that names a file with the role, where the command has place 0
abbrev pub word_place : Kind → Role → ℕ
word_place k role = params_of k + 1 + roles_before (roles_of k) role

-- the same by the first word; none where it is no command
abbrev pub first_place : Words → Role → Option ℕ
first_place [] role = None
first_place (w ∷ ws) role = option_map (λ k. word_place k role) (command_of w)

-- the word this number of words after a place; empty past the last one
abbrev pub word_from : Words → ℕ → ℕ → List ℕ
word_from ws place n = unwrap_or (slice_get ws (place + n)) []

-- the same from the place, if there is one
abbrev pub word_if : Words → Option ℕ → ℕ → List ℕ
word_if ws None n = []
word_if ws (Some place) n = word_from ws place n

-- the name of the file with the role or, of several with it, of that with this number, from 0
abbrev pub file_name : Words → Role → ℕ → List ℕ
file_name ws role n = word_if ws (first_place ws role) n

-- a name is that of a file with the role: of the first one, or of a calendar
pub record IsNamedAs (ws : Words) (role : Role) (name : List ℕ) : Type 0 where
  pub number : ℕ
  pub is : name ≡ file_name ws role number
  pub which : (number ≡ 0) ⊎ (role ≡ Calendar)

-- a file of a command has the name that its role gives
abbrev pub IsNamed : Words → Wanted → Type 0
IsNamed ws w = IsNamedAs ws w.role w.name

-- ---- what a fetch of files gives

-- what fetches give: bytes under a name, at most a given number
abbrev pub Gives : Type 1
Gives = List ℕ → ℕ → List ℕ → Type 0

-- a fetch gives these bytes under the name, and they aren't too many
abbrev pub IsGiven : Gives → List ℕ → List ℕ → Type 0
IsGiven gives name bytes = gives name too_many bytes × (length bytes < too_many)

-- the bytes are those of the name, where the source has it, and they aren't too many
abbrev pub Holds : Told → List ℕ → List ℕ → Type 0
Holds told name bytes = IfSome (told name) (λ xs. bytes ≡ xs) × (length bytes < too_many)

-- the file isn't too long, where the source has it
abbrev pub NotLong : Told → Wanted → Type 0
NotLong told w = IfSome (told w.name) (λ xs. length xs < too_many)

-- the last fetch that failed is that of the file at this place
pub record FailedAt (failed : Option (List ℕ)) (place : ℕ) (w : Wanted) : Type 0 where
  pub at : w.place ≡ place
  pub is_failed : failed ≡ Some w.name

-- ---- the files that runs of the same words have in common, and those that are each run's own

-- a file is a run's own, as the document and the flows are; or, with `false`, it isn't
abbrev pub belongs : Bool → Role → Bool
belongs own Document = own
belongs own Fixings = not own
belongs own Flows = own
belongs own Calendar = not own

-- the files that are a run's own, or with `false` the others, in order
abbrev pub files_with : Bool → List Wanted → List Wanted
files_with own [] = []
files_with own (w ∷ ws) = if belongs own w.role then w ∷ files_with own ws else files_with own ws

-- the common files of the words are gathered, as the source states and gives them, and read
pub record IsCommon (ws : Words) (told : Told) (gives : Gives) (c : Common) : Type 0 where
  pub asked : Asked
  pub asks : Asks ws asked
  pub held : Gathers (Holds told) (files_with false asked.files) no_files (files_given_by c.files)
  pub given : Gathers (IsGiven gives) (files_with false asked.files) no_files (files_given_by c.files)
  pub read : AreRead c
