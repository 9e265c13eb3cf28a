use Rattle.std.proofs.Common.{arith, sym, ◌∙◌}
use Rattle.irs_base.proofs.FieldLemmas.{whole_rest}
use Rattle.irs_base.proofs.FieldLemmas.{gap_here, gap_alone}
use Rattle.irs_base.proofs.fields.skip_gap.Goals as goal

pub returns-then-not-is_gap : goal.returns-then-not-is_gap
returns-then-not-is_gap c =
    rw (whole_rest c.args.bytes.now c.loop-i.i (omega arith))
    (gap_here c.args.bytes.now c.loop-i.i c.loop-i-test.true (sym c.is_gap.ensures
    ∙ c.if-not-is_gap.true) c.loop-i.invariant)

pub returns : goal.returns
returns c = gap_alone c.args.bytes.now (λ k h. c.loop-i.invariant k (omega (arith, h)))
