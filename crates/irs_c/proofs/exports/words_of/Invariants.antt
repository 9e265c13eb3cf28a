use Rattle.std.proofs.Common.{◌≡◌, take}
use Rattle.irs_cli.specs.Commands.{word_texts}
use Rattle.irs_c.specs.Each.{words_in}
use Rattle.irs_c.proofs.exports.words_of.Given as goal

-- the texts of the words so far
abbrev pub invariant-loop-word : goal.invariant-loop-word
invariant-loop-word l = word_texts l.made.items ≡ words_in (take l.word-index l.words)
