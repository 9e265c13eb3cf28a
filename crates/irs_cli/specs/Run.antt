-- What a run of the words comes to, and what it prints.
use Rattle.std.specs.Prelude.{ℕ, List, ◌++◌, codes, decimal, ◌≡◌, ◌≢◌, ◌⊎◌, ◌<◌, Option}
use Rattle.irs_outside.specs.Outside.{Grew, GrewByFront, Rose}
use Rattle.irs_answers.specs.Tasks.{DueCarrier}
use Rattle.irs_answers.specs.Due.{DueFor}
use Rattle.irs_answers.specs.Forms.{Given, no_files}
use Rattle.irs_answers.specs.Messages.{Is, IsCause, IsCauseOf, cause_of, cause_status, reply_status, reply_text}
use Rattle.irs_answers.specs.Notes.{IsNoteOf}
use Rattle.irs_answers.specs.declared.causes.Cause.{Cause}
use Rattle.irs_answers.specs.declared.notes.Note.{Note}
use Rattle.irs_answers.specs.declared.notes.Note.TheVariants.{Nothing}
use Rattle.irs_bulk.specs.BulkRuns.{DueBulk}
use Rattle.irs_cli.specs.declared.commands.Request.{Request}
use Rattle.irs_cli.specs.declared.commands.Request.TheVariants.{OverFiles, Bulk, Carrier}
use Rattle.irs_cli.specs.Commands.{Words, Asked, Asks, IsListed}
use Rattle.irs_cli.specs.Given.{Told, AreTold, IsFirstLong, TellsAll, Gathers, ReachesFile, FailedAt, Gives, IsGiven}
use Rattle.irs_cli.specs.Given.{NotLong}
use Rattle.irs_cli.specs.declared.fetching.Unfetched.{Unfetched}
use Rattle.irs_cli.specs.declared.refusals.Refusal.{Refusal}
use Rattle.irs_cli.specs.declared.refusals.Refusal.TheVariants.{Memory}
use Rattle.irs_cli.specs.declared.causes.RunCause.{RunCause}
use Rattle.irs_cli.specs.declared.causes.RunReply.{RunReply}
use Rattle.irs_cli.specs.declared.causes.RunReply.TheVariants.{Replied, BadWords}
use Rattle.irs_cli.specs.declared.fetching.Unfetched.TheVariants as fetching
use Rattle.irs_cli.specs.declared.refusals.Refusal.TheVariants as refusal
use Rattle.irs_cli.specs.declared.causes.RunCause.TheVariants as cause
use Rattle.irs_cli.specs.declared.causes.RunReply.TheVariants as run_reply

-- ---- the lines that a run prints where its request isn't carried out over files

-- the line for words that are no listed command
abbrev pub bad_words : List ℕ
bad_words = codes "bad words\n"

-- the line for a file that can't be read, by the place of its word
abbrev pub no_file : ℕ → List ℕ
no_file place = codes "no file " ++ decimal place ++ codes "\n"

-- the line for a file that is too long, by the place of its word
abbrev pub too_long : ℕ → List ℕ
too_long place = codes "too long " ++ decimal place ++ codes "\n"

-- ---- what is due for the words and the files: status and text, by the first case that applies

-- what is due for a request and its files
abbrev pub DueOf : Request → Given → ℕ → List ℕ → Type 0
DueOf (OverFiles task) g status text = DueFor task g status text
DueOf (Bulk n) g status text = DueBulk n status text
DueOf Carrier g status text = DueCarrier g.document.bytes status text

-- the three cases: the words are no listed command, a file is too long, or the source has all files
pub data WordsCase (ws : Words) (told : Told) : Type 0 where
  no_command : ¬ (IsListed ws) → WordsCase ws told
  long_file : (a : Asked) (place : ℕ) → Asks ws a → IsFirstLong told a place → WordsCase ws told
  all_told : (a : Asked) (g : Given) → Asks ws a → AreTold told a g → WordsCase ws told

-- what is due, where the source says what each named file holds
pub record Due (ws : Words) (told : Told) (status : ℕ) (text : List ℕ) : Type 0 where
  -- the words are no listed command
  pub unlisted : ¬ (IsListed ws) → Is 4 bad_words status text
  -- a file is too long
  pub long : (a : Asked) (place : ℕ) → Asks ws a → IsFirstLong told a place → Is 8 (too_long place) status text
  -- the source has all files, and none is too long
  pub given : (a : Asked) (g : Given) → Asks ws a → AreTold told a g → DueOf a.request g status text
  -- where the source has every file, one of these applies
  pub case : TellsAll ws told → WordsCase ws told

-- one status and one text are due for the words
abbrev pub IsOneAnswer : Words → Told → Type 0
IsOneAnswer ws told = (s u : ℕ) (t v : List ℕ) → Due ws told s t → Due ws told u v → (s ≡ u) × (t ≡ v)

-- ---- what a run of the words comes to

-- The source of files: what it states and gives before the run. After the run it has the name of the last
-- fetch that failed. The number of failed fetches is known before and after.
pub record Source : Type 1 where
  pub told : Told
  pub gives : Gives
  pub failed : Option (List ℕ)
  pub before : ℕ
  pub after : ℕ

-- the source with these values
abbrev pub source : Told → Gives → Option (List ℕ) → ℕ → ℕ → Source
source told gives failed before after =
    record { told = told; gives = gives; failed = failed; before = before; after = after }

-- the sink before and after the run: what is written, and how many writes have failed
pub record Written : Type 0 where
  pub old : Option (List ℕ)
  pub new : Option (List ℕ)
  pub before : ℕ
  pub after : ℕ

-- the sink with these values
abbrev pub written : Option (List ℕ) → Option (List ℕ) → ℕ → ℕ → Written
written old new before after = record { old = old; new = new; before = before; after = after }

-- the fetch of a file failed, and this text says so; no file before it that the source states is too long
pub record NoFile (ws : Words) (files : Source) (text : List ℕ) : Type 0 where
  pub asked : Asked
  pub asks : Asks ws asked
  pub place : ℕ
  pub file : ReachesFile (NotLong files.told) (FailedAt files.failed place) asked.files
  pub rose : Rose files.before files.after
  pub is_text : text ≡ no_file place

-- the words are this command, these are its files as the fetches gave them, and status and text are due for them
pub record IsWorkedOut (ws : Words) (gives : Gives) (status : ℕ) (text : List ℕ) : Type 0 where
  pub asked : Asked
  pub asks : Asks ws asked
  pub given : Given
  pub fetched : Gathers (IsGiven gives) asked.files no_files given
  pub due : DueOf asked.request given status text

-- the text is the one that is due, or says that a file can't be read
abbrev pub IsDueText : Words → Source → List ℕ → Type 0
IsDueText ws files text = ((status : ℕ) × Due ws files.told status text) ⊎ NoFile ws files text

-- what a run says before it writes
pub record Replies (ws : Words) (files : Source) (status : ℕ) (text : List ℕ) : Type 0 where
  pub is_text : IsDueText ws files text
  pub not_put : status ≢ 6
  pub not_memory : status ≢ 7
  pub no_file : status ≡ 5 → NoFile ws files text
  pub due : status ≢ 5 → Due ws files.told status text
  pub worked_out : status ≢ 4 → status ≢ 5 → status ≢ 8 → IsWorkedOut ws files.gives status text
  pub quiet : status ≢ 5 → files.after ≡ files.before
  pub only_unlisted : status ≡ 4 → ¬ (IsListed ws)
  pub when_unlisted : ¬ (IsListed ws) → status ≡ 4
  pub listed : status < 9

-- what a run comes to: its status, and what the source and the sink have seen
pub record Ran (ws : Words) (files : Source) (out : Written) (status : ℕ) : Type 0 where
  -- the statuses are 0 to 8
  pub listed : status < 9
  -- out of memory: nothing was written
  pub memory : status ≡ 7 → out.new ≡ out.old
  -- the fetch of a word that names a file failed, and the text says which
  pub failed : status ≡ 5 → (text : List ℕ) × NoFile ws files text × Grew out.old out.new text
  -- a write failed, and a front of the text due was written
  pub put : status ≡ 6 → Rose out.before out.after
      × ((text : List ℕ) × GrewByFront out.old out.new text × IsDueText ws files text)
  -- any other status, and exactly its text, are what is due for the files that the source states
  pub due : status ≢ 5 → status ≢ 6 → status ≢ 7 → (text : List ℕ)
      × Due ws files.told status text × Grew out.old out.new text
  -- From 0 to 3, status and text are what is due for the bytes that the fetches gave for each named file.
  -- That also holds for a source that states nothing, such as the files of the system.
  pub worked_out : status < 4 → (text : List ℕ)
      × IsWorkedOut ws files.gives status text × Grew out.old out.new text
  -- where the source states every file that the words name, one status and one text are due
  pub one : TellsAll ws files.told → IsOneAnswer ws files.told
  -- 4 comes for words that are no listed command, and always for them
  pub only_unlisted : status ≡ 4 → IsListed ws → ⊥
  pub unlisted : (IsListed ws → ⊥) → status ≢ 6 → status ≢ 7 → status ≡ 4
  -- a fault of the files or of the sink is reported by the status
  pub files_cause : files.before < files.after → status ≢ 6 → status ≢ 7 → status ≡ 5
  pub out_cause : out.before < out.after → status ≡ 6

-- no fetch and no write failed
abbrev pub IsFaultless : Source → Written → Type 0
IsFaultless files out = ¬ (Rose files.before files.after) × ¬ (Rose out.before out.after)

-- out of memory, and nothing was written; or a status and exactly its text are what is due
abbrev pub IsComplete : Words → Source → Written → ℕ → Type 0
IsComplete ws files out status =
    ((status ≡ 7) × (out.new ≡ out.old))
    ⊎ ((text : List ℕ) × Due ws files.told status text × Grew out.old out.new text)

-- ---- what a request comes to: a reply, or a refusal

-- the refusals that errors of a fetch become
abbrev pub of_fetch : Unfetched → Refusal
of_fetch (fetching.NoFile place) = refusal.NoFile place
of_fetch (fetching.TooLong place) = refusal.TooLong place
of_fetch fetching.Memory = Memory

-- ---- what a run comes to, for the sentence about it; and when that is said of what a run printed

-- ---- what the words come to

-- the status of what the words come to
abbrev pub run_reply_status : RunReply → ℕ
run_reply_status (Replied r) = reply_status r.reply
run_reply_status BadWords = 4
run_reply_status (run_reply.NoFile place) = 5
run_reply_status (run_reply.TooLong place) = 8

-- the text of what the words come to
abbrev pub run_reply_text : RunReply → List ℕ
run_reply_text (Replied r) = reply_text r.reply
run_reply_text BadWords = bad_words
run_reply_text (run_reply.NoFile place) = no_file place
run_reply_text (run_reply.TooLong place) = too_long place

-- what it says, with its note
abbrev pub run_cause_of : RunReply → RunCause
run_cause_of (Replied r) = cause.Replied (cause_of r.reply) r.note
run_cause_of BadWords = cause.BadWords
run_cause_of (run_reply.NoFile place) = cause.NoFile place
run_cause_of (run_reply.TooLong place) = cause.TooLong place

-- ---- what a run comes to

-- the status of what a run comes to
abbrev pub run_status : RunCause → ℕ
run_status (cause.Replied c n) = cause_status c
run_status cause.BadWords = 4
run_status (cause.NoFile place) = 5
run_status cause.PutFailed = 6
run_status cause.NoMemory = 7
run_status (cause.TooLong place) = 8
run_status (cause.NotText place) = 9

-- the cause is that of the status and the text that a request comes to
abbrev pub IsCauseFor : Request → Cause → ℕ → List ℕ → Type 0
IsCauseFor (OverFiles task) c status text = IsCauseOf task c status text
IsCauseFor (Bulk n) c status text = IsCause c status text
IsCauseFor Carrier c status text = IsCause c status text

-- the note is what a sentence adds to this cause of a request over its files
abbrev pub IsNotedFor : Request → Given → Cause → Note → Type 0
IsNotedFor (OverFiles task) g c n = IsNoteOf task g c n
IsNotedFor (Bulk count) g c n = n ≡ Nothing
IsNotedFor Carrier g c n = n ≡ Nothing

-- The words are this command, and these are its files as the fetches gave them. The cause is that of its status and
-- its text, and the note is that of the cause for these files.
pub record IsReplyCause (ws : Words) (gives : Gives) (c : Cause) (n : Note) (status : ℕ) (text : List ℕ)
    : Type 0 where
  pub asked : Asked
  pub asks : Asks ws asked
  pub given : Given
  pub fetched : Gathers (IsGiven gives) asked.files no_files given
  pub cause : IsCauseFor asked.request c status text
  pub noted : IsNotedFor asked.request given c n

-- the cause is that of the status and the text of a run, which are written
abbrev pub IsRunCause : Words → Gives → RunCause → ℕ → List ℕ → Type 0
IsRunCause ws gives (cause.Replied c n) status text = IsReplyCause ws gives c n status text
IsRunCause ws gives cause.BadWords status text = Is 4 bad_words status text
IsRunCause ws gives (cause.NoFile place) status text = Is 5 (no_file place) status text
IsRunCause ws gives cause.PutFailed status text = ⊥
IsRunCause ws gives cause.NoMemory status text = ⊥
IsRunCause ws gives (cause.TooLong place) status text = Is 8 (too_long place) status text
IsRunCause ws gives (cause.NotText place) status text = ⊥

-- unless a write failed or memory ran out, the cause is that of exactly the text that was written
abbrev pub IsCauseOfWritten : Words → Gives → RunCause → Option (List ℕ) → Option (List ℕ) → Type 0
IsCauseOfWritten ws gives c old new =
    run_status c ≢ 6 → run_status c ≢ 7
    → (text : List ℕ) × IsRunCause ws gives c (run_status c) text × Grew old new text
