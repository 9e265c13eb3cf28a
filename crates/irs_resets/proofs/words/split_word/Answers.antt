use Rattle.std.proofs.Common.{arith, sym, ◌∙◌}
use Rattle.irs_base.proofs.FieldLemmas.{whole_rest}
use Rattle.irs_resets.proofs.WordLemmas.{word_here, word_alone}
use Rattle.irs_resets.proofs.words.split_word.Goals as goal

pub returns-then-is_gap : goal.returns-then-is_gap
returns-then-is_gap c =
    let here = word_here c.args.bytes.now c.loop-i.i c.loop-i-test.true (sym c.is_gap.ensures
    ∙ c.if-is_gap.true) c.loop-i.invariant in
    record { word = here.0; rest = rw (whole_rest c.args.bytes.now c.loop-i.i (omega arith)) here.1 }

pub returns : goal.returns
returns c =
    let all = word_alone c.args.bytes.now (λ k h. c.loop-i.invariant k (omega (arith, h))) in
    record { word = all.0; rest = all.1 }
