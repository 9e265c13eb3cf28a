use Rattle.std.proofs.Common.{◌≡◌, map, take}
use Rattle.irs_main.specs.Shown.{shown}
use Rattle.irs_cli.specs.Commands.{word_texts}
use Rattle.irs_main.proofs.shown.shown_words.Given as goal

-- the words so far as they are shown
abbrev pub invariant-loop-word : goal.invariant-loop-word
invariant-loop-word l = word_texts l.all.items ≡ map shown (word_texts (take l.word-index l.words))
