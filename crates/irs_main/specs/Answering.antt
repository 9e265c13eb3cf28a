-- What the program does around a run: its texts about itself, and what it says of a status.
use Rattle.std.specs.Prelude.{◌≡◌, ◌⊎◌, ℕ, ◌==◌, List, [], ◌∷◌, ◌++◌, Option, Some, None, codes}
use Rattle.std.specs.Prelude.{if◌then◌else◌}
use Rattle.std.specs.Str.{bytes_eq}
use Rattle.irs_outside.specs.Outside.{Grew, GrewByFront, Rose}
use Rattle.irs_cli.specs.Run.{IsCauseOfWritten, run_status, Ran, Source, Written}
use Rattle.irs_cli.specs.Commands.{Words}
use Rattle.irs_cli.specs.declared.causes.RunCause.{RunCause}
use Rattle.irs_main.specs.Sentences.{is_silent, sentence_of}
use Rattle.irs_main.specs.WrongWords.{commands}

-- ---- the program itself

-- the text that the one word `--help` or `--version` asks for; any other words ask for neither
abbrev pub itself_of : (help version : List ℕ) → (words : List (List ℕ)) → Option (List ℕ)
itself_of help version [] = None
itself_of help version (word ∷ []) =
    if bytes_eq word (codes "--help") then Some help
    else (if bytes_eq word (codes "--version") then Some version else None)
itself_of help version (word ∷ another ∷ others) = None

-- the text was written and the status is 0; or a write failed, a front of the text was written, and the status is 6
abbrev pub Printed : (text : List ℕ) → (old now : Option (List ℕ)) → (before after : ℕ) → (status : ℕ) → Type 0
Printed text old now before after status =
    ((status ≡ 0) × Grew old now text × (after ≡ before))
    ⊎ ((status ≡ 6) × GrewByFront old now text × Rose before after)

-- The text that the words ask for was printed. Words that ask for none were run, and what they came to is the cause of
-- exactly the text that was printed, with the note for the files as the fetches gave them.
abbrev pub CameTo : (itself : Option (List ℕ)) → Words → Source → Written → RunCause → Type 0
CameTo (Some text) ws files out c = Printed text out.old out.new out.before out.after (run_status c)
CameTo None ws files out c = Ran ws files out (run_status c) × IsCauseOfWritten ws files.gives c out.old out.new

-- ---- what is said

-- texts with a line feed after each
abbrev pub ended_lines : List (List ℕ) → List ℕ
ended_lines [] = []
ended_lines (line ∷ lines) = (line ++ codes "\n") ++ ended_lines lines

-- the text after the sentence: the listed commands, where the words are none of them
abbrev pub listing_of : RunCause → List ℕ
listing_of c = if run_status c == 4 then ended_lines commands else []

-- what is said of what the words came to; nothing where all is done and no payment lacks its amount
unfoldable pub explanation_of : (words : List (List ℕ)) → RunCause → List ℕ
explanation_of words c = if is_silent c then [] else (sentence_of words c ++ codes "\n") ++ listing_of c

-- the text was written and no write failed, or one failed and a front of the text was written
abbrev pub Explained : (text : List ℕ) → (old now : Option (List ℕ)) → (before after : ℕ) → Type 0
Explained text old now before after =
    (Grew old now text × (after ≡ before)) ⊎ (GrewByFront old now text × Rose before after)
