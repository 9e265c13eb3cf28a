use Rattle.irs_main.proofs.CutLemmas.{length_at, length_whole}
use Rattle.std.proofs.Common.{arith, sym}
use Rattle.irs_main.proofs.cuts.length_before.Goals as goal

pub returns-then-byte-end-clause-value : goal.returns-then-byte-end-clause-value
returns-then-byte-end-clause-value c =
    sym (length_at c.args.end c.args.text.now c.loop-i.i c.loop-i-test.true c.if-byte-end.true c.loop-i.invariant)

pub returns-clause-value : goal.returns-clause-value
returns-clause-value c =
    sym (length_whole c.args.end c.args.text.now (λ k h. c.loop-i.invariant k (omega (arith, h, c.loop-i-test.false))))
