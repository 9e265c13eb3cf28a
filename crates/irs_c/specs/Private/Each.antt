-- Private: no public contract rests on this file.
-- What one command over many trades comes to.
use Rattle.std.specs.Prelude.{◌≡◌, ℕ, List, [], ◌∷◌, ◌++◌, Result, Ok, Err, Vec}
use Rattle.std.specs.Prelude.{String}
use Rattle.std.specs.declared.alloc.Global.{Global}
use Rattle.irs_cli.specs.Commands.{Words, word_texts}
use Rattle.irs_cli.specs.Given.{IsCommon}
use Rattle.irs_answers.specs.declared.common.Common.{Common}
use Rattle.irs_c.specs.Each.{file_in, gives_in, Outcome, status_alone, IsRun}
use Rattle.irs_c.specs.declared.given.File.{File}
use Rattle.irs_c.specs.declared.given.Trade.{Trade}
use Rattle.irs_c.specs.declared.telling.Told.{Told}

-- what the code keeps of what a run comes to
abbrev pub outcome_by : Told → Outcome
outcome_by t = record { status = t.status; text = t.text.items; sentence = t.sentence.items }

-- ---- words as text, or the status where there are none

-- words that were made into text, or the status where there is none
abbrev pub Made : Type 0
Made = Result (Vec (String Global) Global) ℕ

-- what the words come to over the files
abbrev pub RunFor : Made → List File → Outcome → Type 0
RunFor (Ok words) fs o = IsRun (word_texts words.items) fs o
RunFor (Err s) fs o = o ≡ status_alone s

-- one outcome a trade, in order
abbrev pub AreRuns : Made → List File → List Trade → List Outcome → Type 0
AreRuns words common [] os = os ≡ []
AreRuns words common (t ∷ ts) [] = ⊥
AreRuns words common (t ∷ ts) (o ∷ os) = RunFor words (common ++ t.files.now) o × AreRuns words common ts os

-- ---- what was read of the common files

-- the common files that the words name, as they are lent, are read
abbrev pub IsCommonIn : Words → List File → Common → Type 0
IsCommonIn ws fs c = IsCommon ws (file_in fs) (gives_in fs) c
