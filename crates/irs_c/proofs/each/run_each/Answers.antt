use Rattle.std.proofs.Common.{arith, refl}
use Rattle.irs_c.proofs.EachLemmas.{one_more}
use Rattle.irs_c.proofs.each.run_each.Goals as goal

pub loop-k-preserved : goal.loop-k-preserved
loop-k-preserved c =
    let room = c.if-k-answers.true in
    let same = c.loop-k.auto.answers in
    one_more c.args.words.now c.args.common.now c.args.trades.now c.args.answers.now c.loop-k.answers _ c.loop-k.k _
    c.answer_one.result c.loop-k.said.items _ c.loop-k.invariant c.loop-k-test.true (omega (arith, room, same))
    c.answer_one.ensures refl
