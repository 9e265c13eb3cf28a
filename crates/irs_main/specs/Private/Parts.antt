-- Private: no public contract rests on this file.
-- A sentence as parts that are written one after the other.
use Rattle.irs_answers.specs.declared.notes.Unfixed.{Unfixed}
use Rattle.irs_answers.specs.declared.spots.Spot.{Spot}
use Rattle.irs_base.specs.Texts.{day_text}
use Rattle.irs_cli.specs.Commands.{word_texts}
use Rattle.irs_cli.specs.declared.causes.RunCause.{RunCause}
use Rattle.irs_main.specs.Notes.{spot_on, unfixed_texts}
use Rattle.irs_main.specs.Sentences.{told_texts}
use Rattle.irs_main.specs.Shown.{shown_front, joined_texts}
use Rattle.irs_main.specs.declared.parts.Part.{Part}
use Rattle.irs_main.specs.declared.parts.Part.TheVariants.{Text, Number, Count, Shown}
use Rattle.irs_main.specs.declared.parts.Sentence.{Sentence}
use Rattle.std.specs.Prelude.{ℕ, ℤ, List, ◌∷◌, String, map, decimal}
use Rattle.std.specs.declared.alloc.Global.{Global}

-- the most parts of a sentence
abbrev pub most_parts : ℕ
most_parts = 13

-- the text of a part
abbrev pub part_text : Part → List ℕ
part_text (Text text) = text.now
part_text (Number n) = decimal n
part_text (Count n) = decimal n
part_text (Shown name) = shown_front name.now

-- what parts say
abbrev pub said_by : List Part → List ℕ
said_by parts = joined_texts (map (λ p. part_text p) parts)

-- what a sentence says
abbrev pub said : Sentence → List ℕ
said s = said_by s.parts

-- the sentence without its note
abbrev pub told_text : List (String Global) → RunCause → List ℕ
told_text words c = joined_texts (told_texts (word_texts words) c)

-- how many payments have no amount, after other words
abbrev pub unfixed_after : List ℕ → Unfixed → List ℕ
unfixed_after joint u = joined_texts (joint ∷ unfixed_texts u)

-- a spot with the day that its roll doesn't fit
abbrev pub dated_spot : Spot → ℤ → List ℕ
dated_spot s day = joined_texts (spot_on s (day_text day))
