use Rattle.irs_c.proofs.Texts.{all_made}
use Rattle.irs_c.proofs.exports.words_of.Goals as goal

pub returns-clause-text : goal.returns-clause-text
returns-clause-text c =
    all_made c.loop-word.made.items c.args.words.now c.loop-word.word-index c.loop-word-test.false c.loop-word.invariant
