-- Private: no public contract rests on this file.
-- Of private functions: fetches of files, and what a run comes to.
use Rattle.std.specs.Prelude.{ℕ, ◌+◌, map, Option, Some, None, ◌≡◌, ◌≤◌, List, length, IfSome, Result, Ok, Err, Vec}
use Rattle.std.specs.declared.alloc.Global.{Global}
use Rattle.irs_outside.specs.Outside.{Rose}
use Rattle.irs_answers.specs.Forms.{most_calendars, files_given_by, no_files, too_many}
use Rattle.irs_answers.specs.declared.files.TaskFiles.{TaskFiles}
use Rattle.irs_answers.specs.Tasks.{IsLawfulTask}
use Rattle.irs_answers.specs.Messages.{Answer, reply_status, reply_text}
use Rattle.irs_answers.specs.declared.notes.NotedReply.{NotedReply}
use Rattle.irs_bulk.specs.Documents.{most_bulk}
use Rattle.irs_cli.specs.declared.commands.Kind.{Kind}
use Rattle.irs_cli.specs.declared.commands.Named.{Named}
use Rattle.irs_cli.specs.declared.commands.Command.{Command}
use Rattle.irs_cli.specs.Commands.{Words, Wanted, Asked, AsksAs, Asks, IsListed}
use Rattle.irs_cli.specs.declared.fetching.Unfetched.{Unfetched}
use Rattle.irs_cli.specs.Given.{Told, Gathers, ReachesFile, Gives, IsGiven, Holds, NotLong, FailedAt}
use Rattle.irs_cli.specs.declared.causes.RunReply.{RunReply}
use Rattle.irs_cli.specs.declared.causes.RunReply.TheVariants.{Replied}
use Rattle.irs_cli.specs.declared.commands.Request.{Request}
use Rattle.irs_cli.specs.declared.commands.Request.TheVariants.{OverFiles, Bulk, Carrier}
use Rattle.irs_cli.specs.declared.refusals.Refusal.{Refusal}
use Rattle.irs_cli.specs.Run.{bad_words, no_file, too_long}
use Rattle.irs_cli.specs.declared.fetching.Unfetched.TheVariants as unfetched
use Rattle.irs_cli.specs.declared.causes.RunReply.TheVariants as run_reply
use Rattle.irs_cli.specs.declared.refusals.Refusal.TheVariants as refusal

-- ---- the listed commands: a table, and what it says of words

-- a wanted file as the code keeps it
abbrev pub wanted_by : Named → Wanted
wanted_by n = record { place = n.place; role = n.role; name = n.name.now }

-- a command as the code keeps it
abbrev pub asked_by : Command → Asked
asked_by c = record { request = c.request; files = map wanted_by c.files.items }

-- the most words that a command has after its parameters
abbrev pub most_words : ℕ
most_words = most_calendars + 3

-- ---- what the table says of words

-- the command that words are, none where they are no listed one
abbrev pub IsCommand : Words → Option Asked → Type 0
IsCommand ws None = IsListed ws → ⊥
IsCommand ws (Some a) = Asks ws a

-- the command of a kind that the words after its name are
abbrev pub IsCommandAs : Kind → Words → Option Asked → Type 0
IsCommandAs k ws None = (a : Asked) → AsksAs k ws a → ⊥
IsCommandAs k ws (Some a) = AsksAs k ws a

-- ---- what a fetch of files gives

-- the files of the list, in order and by role, as fetches give them
abbrev pub AreGiven : Gives → List Wanted → Result TaskFiles Unfetched → Type 0
AreGiven gives ws (Ok f) = Gathers (IsGiven gives) ws no_files (files_given_by f)
AreGiven gives ws (Err e) = Unit {0}

-- the file at this place is too long, where the source has it
pub record OverAt (told : Told) (place : ℕ) (w : Wanted) : Type 0 where
  pub at : w.place ≡ place
  pub long : IfSome (told w.name) (λ xs. too_many ≤ length xs)

-- what ended the fetching
abbrev pub Stops : Told → List Wanted → Option (List ℕ) → ℕ → ℕ → Unfetched → Type 0
Stops told ws failed before now (unfetched.NoFile place) = ReachesFile (NotLong told) (FailedAt failed place) ws × Rose before now
Stops told ws failed before now (unfetched.TooLong place) = ReachesFile (NotLong told) (OverAt told place) ws × (now ≡ before)
Stops told ws failed before now unfetched.Memory = Unit {0}

-- what the fetch of one file ends with
abbrev pub StopsOne : Told → Option (List ℕ) → ℕ → ℕ → List ℕ → ℕ → Unfetched → Type 0
StopsOne told failed before now name place (unfetched.NoFile p) = (p ≡ place) × (failed ≡ Some name) × Rose before now
StopsOne told failed before now name place (unfetched.TooLong p) =
    (p ≡ place) × IfSome (told name) (λ xs. too_many ≤ length xs) × (now ≡ before)
StopsOne told failed before now name place unfetched.Memory = Unit {0}

-- what the fetch of one file gives
abbrev pub FetchesOne : Told → Option (List ℕ) → ℕ → ℕ → List ℕ → ℕ → Result (Vec ℕ Global) Unfetched → Type 0
FetchesOne told failed before now name place (Ok bytes) = Holds told name bytes.items × (now ≡ before)
FetchesOne told failed before now name place (Err e) = StopsOne told failed before now name place e

-- what the fetch of all files gives: each in order, by role
abbrev pub FetchesAll : Told → Option (List ℕ) → ℕ → ℕ → List Wanted → Result TaskFiles Unfetched → Type 0
FetchesAll told failed before now ws (Ok f) = Gathers (Holds told) ws no_files (files_given_by f) × (now ≡ before)
FetchesAll told failed before now ws (Err e) = Stops told ws failed before now e

-- ---- what a run comes to, for the sentence about it; and when that is said of what a run printed

-- ---- what the words come to

-- the words are no listed command, or one of their files can't be read or is too long
abbrev pub IsUnreplied : RunReply → Type 0
IsUnreplied (Replied r) = ⊥
IsUnreplied run_reply.BadWords = Unit {0}
IsUnreplied (run_reply.NoFile place) = Unit {0}
IsUnreplied (run_reply.TooLong place) = Unit {0}

-- ---- what is due for the words and the files: status and text, by the first case that applies

-- the parameters of a request lie in their ranges
abbrev pub IsLawfulRequest : Request → Type 0
IsLawfulRequest (OverFiles task) = IsLawfulTask task
IsLawfulRequest (Bulk n) = n ≤ most_bulk
IsLawfulRequest Carrier = Unit {0}

-- ---- what a request comes to: a reply, or a refusal

-- the answer of a refusal; none where memory ran out
abbrev pub run_answer_of : Refusal → Option Answer
run_answer_of refusal.BadWords = Some (4, bad_words)
run_answer_of (refusal.NoFile place) = Some (5, no_file place)
run_answer_of (refusal.TooLong place) = Some (8, too_long place)
run_answer_of refusal.Memory = None

-- P holds of the refusal's answer, if it has one
abbrev pub IfRunRefused : Refusal → (ℕ → List ℕ → Type 0) → Type 0
IfRunRefused r P = IfSome (run_answer_of r) (λ a. P a.0 a.1)

-- P holds of the answer, if there is one
abbrev pub IfRunAnswered : Result NotedReply Refusal → (ℕ → List ℕ → Type 0) → Type 0
IfRunAnswered (Ok o) P = P (reply_status o.reply) (reply_text o.reply)
IfRunAnswered (Err r) P = IfRunRefused r P
