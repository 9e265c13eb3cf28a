-- Private: no public contract rests on this file.
-- What the program does around a run: its texts about itself, and what it says of a status.
use Rattle.std.specs.Prelude.{◌≡◌, ◌⊎◌, true}
use Rattle.irs_cli.specs.declared.causes.RunCause.{RunCause}
use Rattle.irs_cli.specs.declared.causes.RunCause.TheVariants.{PutFailed, NoMemory}
use Rattle.irs_main.specs.Sentences.{is_silent}

-- ---- what is said

-- what is said depends on no word
abbrev pub SaysNoWord : RunCause → Type 0
SaysNoWord c = (is_silent c ≡ true) ⊎ ((c ≡ PutFailed) ⊎ (c ≡ NoMemory))
