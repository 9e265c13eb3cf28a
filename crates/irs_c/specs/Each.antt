-- What a C caller lends and sees, and what one command over many trades comes to.
use Rattle.std.specs.Prelude.{◌≡◌, ℕ, List, ◌++◌, length, take, drop, [], ◌∷◌, map, All, Some, None, if◌then◌else◌, ◌≢◌}
use Rattle.std.specs.Prelude.{◌⊎◌, ◌<◌}
use Rattle.std.specs.Str.{IsUtf8, bytes_eq}
use Rattle.irs_outside.specs.Outside.{IsFrontUnder}
use Rattle.irs_cli.specs.Commands.{Words, Wanted, Asked, Asks, IsListed}
use Rattle.irs_cli.specs.Given.{Gives, NotLong, Told, ReachesFile, TellsAll}
use Rattle.irs_cli.specs.Run.{no_file, IsRunCause, Due, IsOneAnswer}
use Rattle.irs_cli.specs.declared.causes.RunCause.{RunCause}
use Rattle.irs_main.specs.Sentences.{sentence_of}
use Rattle.irs_main.specs.Shown.{shown}
use Rattle.irs_c.specs.declared.given.Bytes.{Bytes}
use Rattle.irs_c.specs.declared.given.File.{File}
use Rattle.irs_c.specs.declared.each.Answer.{Answer}
use Rattle.irs_c.specs.declared.given.Trade.{Trade}

-- ---- what a C caller sees of a text

-- the buffer holds the front of the text that fits, and is otherwise as it was. `needed` is the length of the whole
-- text
pub record Shown (before after : List ℕ) (needed : ℕ) (text : List ℕ) : Type 0 where
  pub front : after ≡ take (length before) text ++ drop (length text) before
  pub count : needed ≡ length text

-- ---- the words and files that a C caller lends

-- the words, by their bytes
abbrev pub words_in : List Bytes → Words
words_in ws = map (λ w. w.at.now) ws

-- each word is UTF-8
abbrev pub AreText : List Bytes → Type 0
AreText ws = All (λ w. IsUtf8 w.at.now) ws

-- the bytes of the first file of this name
abbrev pub file_in : List File → Told
file_in [] name = None
file_in (f ∷ fs) name = if bytes_eq f.name.at.now name then Some f.bytes.at.now else file_in fs name

-- what fetches of lent files give
abbrev pub gives_in : List File → Gives
gives_in fs name most bytes = IsFrontUnder (file_in fs name) most bytes

-- the file of the word at this place isn't lent
pub record AbsentAt (told : Told) (place : ℕ) (w : Wanted) : Type 0 where
  pub at : w.place ≡ place
  pub none : told w.name ≡ None

-- the words name a file that isn't lent, none before it is too long, and the text says which
pub record IsAbsent (ws : Words) (told : Told) (text : List ℕ) : Type 0 where
  pub asked : Asked
  pub asks : Asks ws asked
  pub place : ℕ
  pub file : ReachesFile (NotLong told) (AbsentAt told place) asked.files
  pub is_text : text ≡ no_file place

-- ---- what one command over many trades comes to

-- what a trade comes to: a status, the text, and the sentence that says what the text means
pub record Outcome : Type 0 where
  pub status : ℕ
  pub text : List ℕ
  pub sentence : List ℕ

-- a status alone
abbrev pub status_alone : ℕ → Outcome
status_alone s = record { status = s; text = []; sentence = [] }

-- what the caller sees of it
abbrev pub slot_of : Outcome → Answer
slot_of o = record { status = o.status; text = length o.text; sentence = length o.sentence }

-- the texts and the sentences, those of one after the other
abbrev pub said_by : List Outcome → List ℕ
said_by [] = []
said_by (o ∷ os) = (o.text ++ o.sentence) ++ said_by os

-- The sentence is that of the cause of a status and a text, with the words as they are shown. The note of the cause is
-- that for the files of the words, as the fetches gave them.
pub record IsExplained (ws : Words) (gives : Gives) (status : ℕ) (text sentence : List ℕ) : Type 0 where
  pub cause : RunCause
  pub is : IsRunCause ws gives cause status text
  pub sentence_is : sentence ≡ sentence_of (map shown ws) cause

-- what the words come to over the files, where each word is text: the status and the text that `irs_run` gives
pub record IsRun (ws : Words) (fs : List File) (o : Outcome) : Type 0 where
  -- out of memory: no text
  pub memory : o.status ≡ 7 → o ≡ status_alone 7
  -- a file that the words name isn't lent, and the text says which
  pub absent : o.status ≡ 5 → IsAbsent ws (file_in fs) o.text
  -- any other status and its text are what is due
  pub due : o.status ≢ 5 → o.status ≢ 7 → Due ws (file_in fs) o.status o.text
  -- 4 comes for words that are no listed command, and always for them
  pub only_unlisted : o.status ≡ 4 → IsListed ws → ⊥
  pub unlisted : (IsListed ws → ⊥) → o.status ≢ 7 → o.status ≡ 4
  -- the statuses are these, and 6 is none of them
  pub listed : (o.status < 9) × (o.status ≢ 6)
  -- where every file that the words name is lent, one status and one text are due
  pub one : TellsAll ws (file_in fs) → IsOneAnswer ws (file_in fs)
  -- the sentence is that of the status and the text, and of the files
  pub explained : o.status ≢ 7 → IsExplained ws (gives_in fs) o.status o.text o.sentence

-- the same for words as they are lent, where each is UTF-8; 9 where one isn't, and 7 where memory ran out, without a text
-- and a sentence
abbrev pub IsOutcome : List Bytes → List File → Outcome → Type 0
IsOutcome ws fs o =
    (AreText ws × IsRun (words_in ws) fs o)
    ⊎ ((o ≡ status_alone 7) ⊎ ((AreText ws → ⊥) × (o ≡ status_alone 9)))

-- one outcome a trade, in order: each over the common files and its own
abbrev pub AreOutcomes : List Bytes → List File → List Trade → List Outcome → Type 0
AreOutcomes ws common [] os = os ≡ []
AreOutcomes ws common (t ∷ ts) [] = ⊥
AreOutcomes ws common (t ∷ ts) (o ∷ os) = IsOutcome ws (common ++ t.files.now) o × AreOutcomes ws common ts os

-- what a call over many trades does: each of those for which there is room has its outcome
pub record SaysOfTrades (ws : List Bytes) (common : List File) (trades : List Trade) (before after : List Answer)
    (was now : List ℕ) (needed : ℕ) : Type 0 where
  pub outcomes : List Outcome
  pub are : AreOutcomes ws common (take (length before) trades) outcomes
  pub answers : after ≡ map slot_of outcomes ++ drop (length outcomes) before
  pub shown : Shown was now needed (said_by outcomes)
