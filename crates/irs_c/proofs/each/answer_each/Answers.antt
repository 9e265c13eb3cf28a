use Rattle.std.proofs.Common.{length, take}
use Rattle.irs_c.proofs.EachLemmas.{outcomes_are}
use Rattle.irs_c.proofs.each.answer_each.Goals as goal

pub returns : goal.returns
returns c =
    let (os, are, slots, said) = c.run_each.ensures in
    let made = c.words_of-words in
    let trades = take (length c.args.answers.now) c.args.trades.now in (
      os,
      outcomes_are c.args.words.now made.result c.args.common.now trades os made.ensures.ok made.ensures.text
          made.ensures.not_text made.ensures.err are,
      slots,
      said,
    )
