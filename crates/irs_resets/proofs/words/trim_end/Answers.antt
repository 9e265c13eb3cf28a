use Rattle.std.proofs.Common.{sym, ◌∙◌}
use Rattle.irs_resets.proofs.WordLemmas.{trimmed_to, trimmed_none}
use Rattle.irs_resets.proofs.words.trim_end.Goals as goal
use Rattle.irs_resets.proofs.words.trim_end.Goals.{then-loop-n-test+else-is_gap, else-loop-n-test}

pub returns : goal.returns
returns c = elim c.loop-n-test.branch [
  | then-loop-n-test+else-is_gap w ↦
      trimmed_to c.args.bytes.now c.loop-n.n w.loop-n-test.true c.loop-n.invariant.within (sym w.is_gap.ensures
      ∙ w.if-is_gap.false) c.loop-n.invariant.gap
  | else-loop-n-test w ↦ trimmed_none c.args.bytes.now c.loop-n.n w.loop-n-test.false c.loop-n.invariant.gap
]
